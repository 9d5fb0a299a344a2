-- Answers, and what the parts of a command say of them.
use Rattle.std.specs.Prelude.{ℕ, List, [], Result, Ok, Err, ⊤}
use Rattle.rn_answering.specs.declared.answer.Answer.{Answer}
use Rattle.rn_answering.specs.declared.stopped.Stopped.{Stopped}
use Rattle.rn_answering.specs.declared.stopped.Stopped.TheVariants.{Refused, ReadFault, NoMemory}
use Rattle.rn_answering.specs.declared.status.TheConstants.{DONE}

-- a command is done, with this text
abbrev pub done : List ℕ → Answer
done text = record { status = DONE; text = text; line = [] }

-- a command is refused, with this status and this line
abbrev pub refusal : ℕ → List ℕ → Answer
refusal status line = record { status = status; text = []; line = line }

-- A command stops by such an answer, or because memory ran out. No read fails in it.
abbrev pub Stops : (Answer → Type 0) → Stopped → Type 0
Stops T (Refused a) = T a
Stops T ReadFault = ⊥
Stops T (NoMemory _) = ⊤

-- a command comes to such an answer, unless memory runs out
abbrev pub Concludes : (Answer → Type 0) → Result Answer Stopped → Type 0
Concludes T (Ok a) = T a
Concludes T (Err stopped) = Stops T stopped

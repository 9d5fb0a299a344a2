-- What a command comes to before a run, or why to nothing.
use Rattle.std.specs.Prelude.{ℕ, ◌≡◌, List, Option, Result, Ok, Err, ⊤}
use Rattle.rn_outside.specs.Faults.{Rose}
use Rattle.rn_words.specs.declared.command.Command.{Command}
use Rattle.rn_words.specs.declared.command.Command.TheVariants as command
use Rattle.rn_answering.specs.declared.answer.Answer.{Answer}
use Rattle.rn_answering.specs.declared.stopped.Stopped.{Stopped}
use Rattle.rn_answering.specs.declared.stopped.Stopped.TheVariants.{Refused, ReadFault, NoMemory}
use Rattle.rn_answering.specs.NetTexts.{RefusesNet}
use Rattle.rn_answering.specs.Refusing.{Stops}
use Rattle.rn_commands.specs.declared.jobs.Job.{Job}
use Rattle.rn_app.specs.declared.preparing.Prepared.{Prepared}
use Rattle.rn_app.specs.declared.preparing.Prepared.TheVariants.{Answered, Due}
use Rattle.rn_app.specs.Commands.{ComesTo}
use Rattle.rn_app.specs.TopCall.{Comes}
use Rattle.rn_app.specs.Begun.{AsksFor, CanRun, IsDue}

-- what a command comes to where no run is due: those that need threads come to a refusal alone
abbrev pub AnswersTo : Command → List ℕ → Answer → Type 0
AnswersTo (command.Run options) bytes a = RefusesNet bytes a
AnswersTo (command.RunLeast options) bytes a = RefusesNet bytes a
AnswersTo (command.RunSeeded options seed) bytes a = RefusesNet bytes a
AnswersTo (command.Gen copies options) bytes a = ⊥
AnswersTo (command.GenSeeded copies options seed) bytes a = ⊥
AnswersTo c bytes a = ComesTo c bytes a

-- this run is due, or there is no memory for it
abbrev pub IsReadied : Job → Result Prepared Stopped → Type 0
IsReadied job (Ok (Answered a)) = ⊥
IsReadied job (Ok (Due ready)) = ready ≡ job
IsReadied job (Err (Refused a)) = ⊥
IsReadied job (Err ReadFault) = ⊥
IsReadied job (Err (NoMemory _)) = ⊤

-- what a command comes to on its input, or the run that it asks for; or why there is neither
abbrev pub IsPrepared : Command → List ℕ → Result Prepared Stopped → Type 0
IsPrepared c bytes (Ok (Answered a)) = AnswersTo c bytes a
IsPrepared c bytes (Ok (Due job)) = AsksFor c bytes job × CanRun job
IsPrepared c bytes (Err stopped) = Stops (AnswersTo c bytes) stopped

-- why words and input come to nothing: they are refused, a read failed, or memory ran out
abbrev pub IsStoppedBy : List (List ℕ) → Option (List ℕ) → Option (List ℕ) → ℕ → ℕ → Stopped →
    Type 0
IsStoppedBy words left left_after faults faults_after (Refused a) = Comes words left left_after a
IsStoppedBy words left left_after faults faults_after ReadFault = Rose faults faults_after
IsStoppedBy words left left_after faults faults_after (NoMemory _) = ⊤

-- the same where there may be an answer, or a run that is due
abbrev pub PreparesOrStops : List (List ℕ) → Option (List ℕ) → Option (List ℕ) → ℕ → ℕ →
    Result Prepared Stopped → Type 0
PreparesOrStops words left left_after faults faults_after (Ok (Answered a)) =
    Comes words left left_after a
PreparesOrStops words left left_after faults faults_after (Ok (Due job)) =
    IsDue words left left_after job
PreparesOrStops words left left_after faults faults_after (Err stopped) =
    IsStoppedBy words left left_after faults faults_after stopped

-- an answer, or one by which words and input are refused, has this
abbrev pub IfAnswered : Result Prepared Stopped → (Answer → Type 0) → Type 0
IfAnswered (Ok (Answered a)) P = P a
IfAnswered (Ok (Due job)) P = ⊤
IfAnswered (Err (Refused a)) P = P a
IfAnswered (Err ReadFault) P = ⊤
IfAnswered (Err (NoMemory _)) P = ⊤

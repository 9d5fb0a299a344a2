-- The input of `replay` has one net text and one record, a record has one answer, and the text that
-- `gen` runs is accepted.
use Rattle.std.specs.Prelude.{ℕ, ◌≡◌, ◌≤◌, List}
use Rattle.rn_model.specs.declared.system.System.{System}
use Rattle.rn_model.specs.declared.log.Options.{Options}
use Rattle.rn_record.specs.RecordText.{IsFormat}
use Rattle.rn_gen.specs.Workload.{workload, most_copies}
use Rattle.rn_answering.specs.declared.answer.Answer.{Answer}
use Rattle.rn_answering.specs.NetTexts.{Accepted}
use Rattle.rn_commands.specs.Moves.{MovesComeTo}
use Rattle.rn_commands.specs.NetCommands.{ReplayComesTo}
use Rattle.rn_commands.specs.Parts.{HasParts}
use Rattle.rn_commands.specs.Replaying.{RecordTo}

-- The parts of bytes are these alone.
abbrev pub OneParting : Type 0
OneParting = (bytes net rest other_net other_rest : List ℕ) → HasParts bytes net rest →
    HasParts bytes other_net other_rest → (net ≡ other_net) × (rest ≡ other_rest)

-- What `replay` comes to on a record is this alone, so none that is refused is accepted too.
abbrev pub OneAnswerToRecord : Type 0
OneAnswerToRecord = (format : ℕ) (system : System) (options : Options) (bytes : List ℕ)
    (a b : Answer) → IsFormat format → RecordTo format system options bytes a →
    RecordTo format system options bytes b → a ≡ b

-- Whatever `moves` comes to, `replay` comes to an answer with the same status and line. So the moves
-- of a record are listed exactly where `replay` accepts it, unless memory runs out.
abbrev pub MovesGoWithReplay : Type 0
MovesGoWithReplay = (options : Options) (bytes : List ℕ) (a : Answer) →
    MovesComeTo options bytes a →
    (b : Answer) × ReplayComesTo options bytes b × (a.status ≡ b.status) × (a.line ≡ b.line)

-- The workload text of as many copies as one may have is a net text.
abbrev pub WorkloadsAreAccepted : Type 0
WorkloadsAreAccepted = (copies : ℕ) → copies ≤ most_copies →
    (system : System) × Accepted (workload copies) system

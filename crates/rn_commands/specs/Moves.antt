-- What `moves` comes to on its input.
use Rattle.std.specs.Prelude.{ℕ, ◌⊎◌, List, Some}
use Rattle.rn_model.specs.declared.system.System.{System}
use Rattle.rn_model.specs.declared.log.Options.{Options}
use Rattle.rn_model.specs.declared.log.Reason.{Reason}
use Rattle.rn_model.specs.Runs.{entries_of}
use Rattle.rn_moves.specs.MovesText.{MovesText}
use Rattle.rn_record_reader.specs.Runs.{Verdict, TellsRecord}
use Rattle.rn_answering.specs.declared.answer.Answer.{Answer}
use Rattle.rn_answering.specs.declared.status.TheConstants.{RECORD_REFUSED}
use Rattle.rn_answering.specs.NetTexts.{Accepted, RefusesNet}
use Rattle.rn_answering.specs.Refusing.{done, refusal}
use Rattle.rn_commands.specs.Parts.{HasParts}
use Rattle.rn_commands.specs.Replaying.{IsNoRunBy, IsRecordOfRun}

-- What `moves` comes to on a record: it isn't the text of a run, and is refused by the line by which
-- `replay` refuses it; or it is, and the text lists the moves of that run's log.
pub data RecordMovesTo (format : ℕ) (system : System) (options : Options) (bytes : List ℕ)
    : Answer → Type 0 where
  refused : (line : List ℕ) → IsNoRunBy format system options bytes line →
      RecordMovesTo format system options bytes (refusal RECORD_REFUSED line)
  moved : (count : ℕ) (reason : Reason) (run : IsRecordOfRun format system options bytes count reason) →
      TellsRecord system format bytes (Verdict.tells (entries_of run.firings (Some reason)) run.marks) →
      (text : List ℕ) → MovesText system (entries_of run.firings (Some reason)) text →
      RecordMovesTo format system options bytes (done text)

-- the record after an accepted net text, whose notation is its format
abbrev pub MovesTo : Options → List ℕ → List ℕ → Answer → Type 0
MovesTo options net rest a = (system : System) × (accepted : Accepted net system)
    × RecordMovesTo accepted.plain.notation system options rest a

-- what `moves` comes to on its input, which is that of `replay`
abbrev pub MovesComeTo : Options → List ℕ → Answer → Type 0
MovesComeTo options bytes a = (net : List ℕ) × (rest : List ℕ) × HasParts bytes net rest
    × (RefusesNet net a ⊎ MovesTo options net rest a)

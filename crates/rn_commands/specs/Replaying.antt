-- What `replay` says of a record.
use Rattle.std.specs.Prelude.{ℕ, ◌≡◌, List, [], ◌++◌, Some, length, codes, ⊤}
use Rattle.rn_value.specs.Text.{numeral}
use Rattle.rn_model.specs.declared.system.System.{System}
use Rattle.rn_model.specs.declared.log.Options.{Options}
use Rattle.rn_model.specs.declared.log.MarkLine.{MarkLine}
use Rattle.rn_model.specs.declared.log.Reason.{Reason}
use Rattle.rn_model.specs.declared.log.Told.{Told}
use Rattle.rn_model.specs.Runs.{Firing, Log, end_of, entries_of}
use Rattle.rn_model.specs.Liveness.{LivePart}
use Rattle.rn_lookup.specs.declared.refusal.Refusal.{Refusal}
use Rattle.rn_lookup.specs.declared.refusal.Refusal.TheVariants.{Form, Name, Step, Many, Memory}
use Rattle.rn_record_reader.specs.Runs.{Verdict, TellsRecord}
use Rattle.rn_replay.specs.declared.fault.ReplayFault.{ReplayFault}
use Rattle.rn_replay.specs.declared.fault.ReplayFault.TheVariants.{V1, V2, V3, V4, V5}
use Rattle.rn_replay.specs.declared.fault.ReplayFault.TheVariants as R
use Rattle.rn_replay.specs.Replays.{Refused}
use Rattle.rn_answering.specs.declared.answer.Answer.{Answer}
use Rattle.rn_answering.specs.declared.status.TheConstants.{RECORD_REFUSED}
use Rattle.rn_answering.specs.Refusing.{done, refusal}
use Rattle.rn_answering.specs.Lines.{number_line}
use Rattle.rn_commands.specs.Ends.{end_word}
use Rattle.rn_commands.specs.Runs.{run_text}

-- the code of a line that is bad; want of memory is no reason, and has none
abbrev pub line_code : Refusal → List ℕ
line_code Form = codes "Q1"
line_code Name = codes "Q2"
line_code Step = codes "Q3"
line_code Many = codes "Q4"
line_code (Memory _) = []

-- the line of an entry that isn't true; want of memory has none
abbrev pub entry_line : ReplayFault → List ℕ
entry_line (V1 n) = number_line (codes "V1") n
entry_line (V2 n) = number_line (codes "V2") n
entry_line (V3 n) = number_line (codes "V3") n
entry_line (V4 n) = number_line (codes "V4") n
entry_line (V5 n) = number_line (codes "V5") n
entry_line (R.NoMemory _) = []

-- a fault has a cause other than memory
abbrev pub HasCause : ReplayFault → Type 0
HasCause (R.NoMemory _) = ⊥
HasCause _ = ⊤

-- The bytes aren't the text of a run in this format, by this line: a line of them is the first that is bad; or they
-- tell what isn't true, first in this entry.
pub data IsNoRunBy (format : ℕ) (system : System) (options : Options) (bytes : List ℕ)
    : List ℕ → Type 0 where
  unread : (line : ℕ) (refusal : Refusal) → TellsRecord system format bytes (Verdict.bad line refusal) →
      IsNoRunBy format system options bytes (number_line (line_code refusal) line)
  untrue : (told : Told) (fault : ReplayFault) →
      TellsRecord system format bytes (Verdict.tells told.entries told.marks) → HasCause fault →
      Refused system options told fault → IsNoRunBy format system options bytes (entry_line fault)

-- the bytes are the text in this format of a run of the system with these options, with so many
-- firings and this end
pub record IsRecordOfRun (format : ℕ) (system : System) (options : Options) (bytes : List ℕ)
    (count : ℕ) (reason : Reason) : Type 0 where
  pub firings : List Firing
  pub counted : length firings ≡ count
  pub log : Log system options firings (Some reason)
  pub marks : List MarkLine
  pub live : LivePart system (end_of system firings) marks
  pub told : bytes ≡ run_text format system firings reason marks

-- the text of a record that is accepted, as `ok 5 dead`
abbrev pub replayed_text : ℕ → Reason → List ℕ
replayed_text count reason =
    codes "ok " ++ numeral count ++ codes " " ++ end_word reason ++ codes "\n"

-- What `replay` comes to on a record: it isn't the text of a run, or it is, and tells that run.
pub data RecordTo (format : ℕ) (system : System) (options : Options) (bytes : List ℕ)
    : Answer → Type 0 where
  refused : (line : List ℕ) → IsNoRunBy format system options bytes line →
      RecordTo format system options bytes (refusal RECORD_REFUSED line)
  replayed : (count : ℕ) (reason : Reason)
      (run : IsRecordOfRun format system options bytes count reason) →
      TellsRecord system format bytes (Verdict.tells (entries_of run.firings (Some reason)) run.marks) →
      RecordTo format system options bytes (done (replayed_text count reason))

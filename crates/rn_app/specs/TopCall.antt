-- What the top call returns, and what it leaves of its input and on the sinks.
use Rattle.std.specs.Prelude.{ℕ, ◌≡◌, ◌≢◌, ◌<◌, ◌≤◌, ◌+◌, ◌⊎◌, List, length, Option, Some, None}
use Rattle.std.specs.Prelude.{[], Err, ⊤}
use Rattle.rn_model.specs.declared.log.Options.{Options}
use Rattle.rn_model.specs.declared.log.Reason.{Reason}
use Rattle.rn_model.specs.declared.log.Told.{Told}
use Rattle.rn_model.specs.declared.system.System.{System}
use Rattle.rn_least.specs.LeastRuns.{LeastLog}
use Rattle.rn_notation.specs.Limits.{longest_text}
use Rattle.rn_lookup.specs.declared.refusal.Refusal.{Refusal}
use Rattle.rn_record_reader.specs.Laws.{HoldsFew}
use Rattle.rn_record_reader.specs.Runs.{Verdict, TellsRecord}
use Rattle.rn_weighted.specs.declared.weighted.Weighted.{Weighted}
use Rattle.rn_pt.specs.declared.fault.PtFault.{PtFault}
use Rattle.rn_pt.specs.Texts.{Spells, IsRefused}
use Rattle.rn_outside.specs.Bytes.{GivesAll, GivesAtMost, Appends, AppendsPrefix}
use Rattle.rn_outside.specs.Faults.{risen}
use Rattle.rn_words.specs.declared.command.Command.{Command}
use Rattle.rn_words.specs.declared.command.Command.TheVariants as command
use Rattle.rn_words.specs.declared.command.WordsFault.{WordsFault}
use Rattle.rn_words.specs.Commands.{WordsOk}
use Rattle.rn_words.specs.Reading.{reading}
use Rattle.rn_answering.specs.declared.answer.Answer.{Answer}
use Rattle.rn_answering.specs.declared.status.TheConstants.{WORDS_REFUSED}
use Rattle.rn_answering.specs.declared.status.TheConstants.{READ_FAULT, WRITE_FAULT, NO_MEMORY, RECORD_REFUSED}
use Rattle.rn_answering.specs.Lines.{words_line}
use Rattle.rn_answering.specs.Refusing.{refusal}
use Rattle.rn_answering.specs.NetTexts.{Accepted, AcceptedIn, IsRefusedBy}
use Rattle.rn_answering.specs.Input.{longest_input, IsTooLong, too_long}
use Rattle.rn_commands.specs.Parts.{HasParts}
use Rattle.rn_commands.specs.Replaying.{IsNoRunBy, IsRecordOfRun}
use Rattle.rn_commands.specs.Runs.{IsRunOf}
use Rattle.rn_app.specs.Commands.{ComesTo, HasNetText}

-- What the words and the input come to, by what is left of the input before and after. Words that
-- aren't accepted, and `gen`, take nothing of it. Of an input that is too long no more is taken than
-- shows it. All others take all of it.
pub data Comes (words : List (List ℕ)) (left left_after : Option (List ℕ)) : Answer → Type 0 where
  wordless : (fault : WordsFault) → reading words ≡ Err fault → left_after ≡ left →
      Comes words left left_after (refusal WORDS_REFUSED (words_line fault))
  longer : (c : Command) (limit : ℕ) → WordsOk words c → longest_input c ≡ Some limit →
      IsTooLong limit left → GivesAtMost (limit + 1) left left_after →
      Comes words left left_after too_long
  inputless : (a : Answer) (c : Command) → WordsOk words c → longest_input c ≡ None →
      ComesTo c [] a → left_after ≡ left → Comes words left left_after a
  whole : (a : Answer) (c : Command) (limit : ℕ) (bytes : List ℕ) → WordsOk words c →
      longest_input c ≡ Some limit → GivesAll left bytes left_after → length bytes ≤ limit →
      ComesTo c bytes a → Comes words left left_after a

-- a count has risen once at most
abbrev pub RoseOnceAtMost : ℕ → ℕ → Type 0
RoseOnceAtMost before now = (now ≡ before) ⊎ (now ≡ risen before)

-- the statuses that are returned
abbrev pub IsStatus : ℕ → Type 0
IsStatus status = status ≤ RECORD_REFUSED

-- the statuses of words and input, which are those of what they come to
abbrev pub IsOwnStatus : ℕ → Type 0
IsOwnStatus status = IsStatus status × (status ≢ READ_FAULT) × (status ≢ WRITE_FAULT)
    × (status ≢ NO_MEMORY)

-- those that may come in place of another
abbrev pub IsFaultStatus : ℕ → Type 0
IsFaultStatus status =
    (status ≡ READ_FAULT) ⊎ ((status ≡ WRITE_FAULT) ⊎ (status ≡ NO_MEMORY))

-- The sinks took what the words and the input come to, and the status is that of it.
pub record Writes (words : List (List ℕ)) (left left_after : Option (List ℕ)) (status : ℕ)
    (out out_after err err_after : Option (List ℕ)) : Type 0 where
  pub a : Answer
  pub comes : Comes words left left_after a
  pub own : status ≡ a.status
  pub text : Appends out a.text out_after
  pub line : Appends err a.line err_after

-- A source gave all its bytes, they are a net text, and a sink took the text of a run of it, whose
-- log has this end.
pub record WritesRun (options : Options) (left left_after held held_after : Option (List ℕ))
    (reason : Reason) : Type 0 where
  pub bytes : List ℕ
  pub read : GivesAll left bytes left_after
  pub text : List ℕ
  pub is_run : IsRunOf options bytes text reason
  pub written : Appends held text held_after

-- The same, and the log is a least one: each firing is by the first binding that is enabled where it
-- fires, in the order of bindings, and a fault is that of the first one at the end.
pub record WritesLeastRun (options : Options) (left left_after held held_after : Option (List ℕ))
    (reason : Reason) : Type 0 where
  pub writes : WritesRun options left left_after held held_after reason
  pub least : LeastLog writes.is_run.system options writes.is_run.firings (Some reason)

-- The first sink failed before the end of the text of what words and input come to.
pub record FailsToWrite (words : List (List ℕ)) (left left_after out out_after : Option (List ℕ))
    : Type 0 where
  pub a : Answer
  pub comes : Comes words left left_after a
  pub written : AppendsPrefix out a.text out_after

-- The second failed before the end of its line. The first had taken the text.
pub record FailsToTell (words : List (List ℕ)) (left left_after : Option (List ℕ))
    (out out_after err err_after : Option (List ℕ)) : Type 0 where
  pub a : Answer
  pub comes : Comes words left left_after a
  pub own : a.status ≢ NO_MEMORY
  pub text : Appends out a.text out_after
  pub line : AppendsPrefix err a.line err_after

-- a sink took the text of a log that ended for want of memory
pub record WritesUnfinished (words : List (List ℕ)) (left left_after out out_after : Option (List ℕ))
    : Type 0 where
  pub a : Answer
  pub comes : Comes words left left_after a
  pub memory : a.status ≡ NO_MEMORY
  pub text : Appends out a.text out_after

-- The bytes of a command's input aren't what it asks for: they are too many; or the net text is
-- refused; or, for `pt`, there is a reason to refuse the text of a weighted net; or, for `migrate`, the
-- net text is in notation 2 already.
pub data IsNoInput : Command → List ℕ → Type 0 where
  longer : {c : Command} {bytes : List ℕ} (limit : ℕ) → longest_input c ≡ Some limit →
      limit < length bytes → IsNoInput c bytes
  refused : {c : Command} {bytes net line : List ℕ} → HasNetText c bytes net →
      IsRefusedBy net line → IsNoInput c bytes
  unweighted : {bytes : List ℕ} {why : PtFault} → IsRefused bytes why →
      IsNoInput command.Pt bytes
  already : {bytes net rest : List ℕ} {system : System} → HasParts bytes net rest →
      AcceptedIn 2 net system → IsNoInput command.Migrate bytes

-- the input of `replay` or `moves` is a net text and a record that isn't the text of a run, and not too
-- long
pub record IsNoRecord (options : Options) (bytes : List ℕ) : Type 0 where
  pub few : length bytes ≤ longest_text
  pub net : List ℕ
  pub record_bytes : List ℕ
  pub parts : HasParts bytes net record_bytes
  pub system : System
  pub accepted : Accepted net system
  pub line : List ℕ
  pub no_run : IsNoRunBy accepted.plain.notation system options record_bytes line

-- the input of `replay` or `moves` is a net text and the text of a run of it, in the format of the
-- text's notation, with marks that aren't too many to be read
pub record IsRecorded (options : Options) (bytes : List ℕ) : Type 0 where
  pub net : List ℕ
  pub record_bytes : List ℕ
  pub parts : HasParts bytes net record_bytes
  pub system : System
  pub accepted : Accepted net system
  pub count : ℕ
  pub reason : Reason
  pub run : IsRecordOfRun accepted.plain.notation system options record_bytes count reason
  pub few : HoldsFew accepted.plain.notation run.marks

-- the input of `migrate` is a net text of notation 1, a line `---`, and a record of which a line is bad,
-- and not too long
pub record IsUnread (bytes : List ℕ) : Type 0 where
  pub few : length bytes ≤ longest_text
  pub net : List ℕ
  pub record_bytes : List ℕ
  pub parts : HasParts bytes net record_bytes
  pub more : net ≢ bytes
  pub system : System
  pub accepted : AcceptedIn 1 net system
  pub line : ℕ
  pub why : Refusal
  pub bad : TellsRecord system 1 record_bytes (Verdict.bad line why)

-- the input of `migrate` is a net text of notation 1, alone or with a record that tells a run
pub record CanMigrate (bytes : List ℕ) : Type 0 where
  pub net : List ℕ
  pub record_bytes : List ℕ
  pub parts : HasParts bytes net record_bytes
  pub system : System
  pub accepted : AcceptedIn 1 net system
  pub read : net ≢ bytes → (told : Told)
      × TellsRecord system 1 record_bytes (Verdict.tells told.entries told.marks)

-- the input of `session` begins with an accepted net text
pub record BeginsWithNet (bytes : List ℕ) : Type 0 where
  pub net : List ℕ
  pub lines : List ℕ
  pub parts : HasParts bytes net lines
  pub system : System
  pub accepted : Accepted net system

-- the commands that run a net, whose log may end in a fault
abbrev pub MayFault : Command → Type 0
MayFault (command.Run options) = ⊤
MayFault (command.RunLeast options) = ⊤
MayFault (command.Counts options) = ⊤
MayFault (command.RunSeeded options seed) = ⊤
MayFault (command.Gen copies options) = ⊤
MayFault (command.GenSeeded copies options seed) = ⊤
MayFault _ = ⊥

-- The input is what the command can do: an accepted net text, for `replay` and `moves` with the text of
-- a run of it, and for `session` with any lines. For `migrate` it is in notation 1, alone or with a
-- record that tells a run. For `pt` it is the text of a weighted net. `gen` asks for none.
abbrev pub IsFine : Command → Option (List ℕ) → Type 0
IsFine (command.Gen copies options) left = ⊤
IsFine (command.GenSeeded copies options seed) left = ⊤
IsFine (command.Replay options) left = (bytes : List ℕ) × (left ≡ Some bytes)
    × (length bytes ≤ longest_text) × IsRecorded options bytes
IsFine (command.Moves options) left = (bytes : List ℕ) × (left ≡ Some bytes)
    × (length bytes ≤ longest_text) × IsRecorded options bytes
IsFine (command.Session options) left = (bytes : List ℕ) × (left ≡ Some bytes)
    × (length bytes ≤ longest_text) × BeginsWithNet bytes
IsFine command.Migrate left = (bytes : List ℕ) × (left ≡ Some bytes)
    × (length bytes ≤ longest_text) × CanMigrate bytes
IsFine command.Pt left = (bytes : List ℕ) × (left ≡ Some bytes)
    × ((net : Weighted) × Spells bytes net)
IsFine c left = (bytes : List ℕ) × (left ≡ Some bytes) × ((system : System) × Accepted bytes system)

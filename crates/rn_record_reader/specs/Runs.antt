-- What a record tells, by its lines: a run with its marks, or the first line that is bad.
use Rattle.std.specs.Prelude.{◌≡◌, ℕ, ◌+◌, List, [], ◌∷◌, length, take, drop, Option, Some, None, unwrap_or, codes}
use Rattle.std.specs.Prelude.{bytes_eq, nat_eq, if◌then◌else◌}
use Rattle.rn_model.specs.declared.system.System.{System}
use Rattle.rn_model.specs.declared.log.FaultKind.{FaultKind}
use Rattle.rn_model.specs.declared.log.FaultKind.TheVariants.{Action, Instances}
use Rattle.rn_model.specs.declared.log.Reason.{Reason}
use Rattle.rn_model.specs.declared.log.Entry.{Entry}
use Rattle.rn_model.specs.declared.log.Entry.TheVariants.{End}
use Rattle.rn_model.specs.declared.log.MarkLine.{MarkLine}
use Rattle.rn_lines.specs.LineText.{LineSaid}
use Rattle.rn_lines.specs.declared.lines.Ending.{Ending}
use Rattle.rn_lines.specs.declared.lines.Ending.TheVariants.{Dead, Steps, Memory, ActionFault, InstancesFault}
use Rattle.rn_lookup.specs.declared.refusal.Refusal.{Refusal}
use Rattle.rn_lookup.specs.declared.refusal.Refusal.TheVariants.{Form}
use Rattle.rn_record_reader.specs.declared.role.Role.TheVariants.{Fault}
use Rattle.rn_record_reader.specs.Nodes.{Placed, Stop, binding_lines}
use Rattle.rn_record_reader.specs.Called.{BadAt, nodes_fault}
use Rattle.rn_record_reader.specs.Bindings.{told_binding}
use Rattle.rn_record_reader.specs.Firings.{FiringRead, firing_read, made_with}
use Rattle.rn_lookup.specs.Found.{net_named}
use Rattle.rn_record.specs.RecordText.{header_text}
use Rattle.rn_record_reader.specs.Lines.{lines_in}
use Rattle.rn_record_reader.specs.Marks.{marks_from}

-- the entries and the marks that lines tell; or the number of the first bad line, and why it is bad
pub data Verdict : Type 0 where
  tells : List Entry → List MarkLine → Verdict
  bad : ℕ → Refusal → Verdict

-- a verdict, with an entry before what it tells
abbrev pub with_entry : Entry → Verdict → Verdict
with_entry entry (Verdict.tells entries marks) = Verdict.tells (entry ∷ entries) marks
with_entry entry (Verdict.bad line refusal) = Verdict.bad line refusal

-- what begins at a line between entries: a firing of this worker, an end, or nothing that may stand
-- there
pub data Opening : Type 0 where
  firing : ℕ → Opening
  ending : Ending → Opening
  neither : Opening

-- what a line begins
abbrev pub opening : Option LineSaid → Opening
opening (Some (LineSaid.fires lead n)) = Opening.firing lead.worker
opening (Some (LineSaid.ends e)) = Opening.ending e
opening _ = Opening.neither

-- an end, and the marks after it, whose first line has this number
abbrev pub with_marks : Reason → ℕ → List MarkLine × Option Refusal → Verdict
with_marks reason line (marks, None) = Verdict.tells (End reason ∷ []) marks
with_marks reason line (marks, Some refusal) = Verdict.bad (line + length marks) refusal

-- an end by a firing that is undefined, by its nodes; its first line has this number
abbrev pub after_fault : ℕ → System → List ℕ → ℕ → FaultKind → List Placed → Stop → Verdict
after_fault format system made line cause nodes (Stop.whole lines) =
    with_marks (Reason.Fault cause (told_binding system (length made) nodes)) (line + length nodes)
    (marks_from format system made 0 lines)
after_fault format system made line cause nodes _ = Verdict.bad (line + length nodes) Form

-- the same by its nodes, and by what is wrong with these
abbrev pub fault_by : ℕ → System → List ℕ → ℕ → FaultKind → List Placed × Stop → Option BadAt →
    Verdict
fault_by format system made line cause read (Some b) = Verdict.bad (line + b.before) b.refusal
fault_by format system made line cause read None =
    after_fault format system made line cause read.0 read.1

-- A firing that is undefined is an entry of its own: its own creations may be named in it, and in no
-- mark.
abbrev pub fault_read : ℕ → System → List ℕ → ℕ → FaultKind → List (Option LineSaid) → Verdict
fault_read format system made line cause lines =
    fault_by format system made line cause (binding_lines system Fault lines)
    (nodes_fault system (made_with system made (binding_lines system Fault lines))
    (binding_lines system Fault lines))

-- what stands after the line of an end, the first line with this number
abbrev pub end_read : ℕ → System → List ℕ → ℕ → Ending → List (Option LineSaid) → Verdict
end_read format system made line Dead lines =
    with_marks Reason.Dead line (marks_from format system made 0 lines)
end_read format system made line Steps lines =
    with_marks Reason.Steps line (marks_from format system made 0 lines)
end_read format system made line Memory lines =
    with_marks Reason.Memory line (marks_from format system made 0 lines)
end_read format system made line ActionFault lines = fault_read format system made line Action lines
end_read format system made line InstancesFault lines =
    fault_read format system made line Instances lines

-- what the first line begins; nothing where there is none
abbrev pub opening_of : List (Option LineSaid) → Opening
opening_of [] = Opening.neither
opening_of (first ∷ lines) = opening first

-- What lines tell between entries, where instances of these nets were made, the next firing has this
-- step, and the first line has this number. Firings come one after the other, and then an end with
-- its marks, which alone depend on the format. Where neither begins, the line is bad, or is missing.
pub data Tells (format : ℕ) (system : System) : List ℕ → ℕ → ℕ → List (Option LineSaid) → Verdict → Type 0 where
  stray : {made : List ℕ} {step line : ℕ} {lines : List (Option LineSaid)} →
      opening_of lines ≡ Opening.neither → Tells format system made step line lines (Verdict.bad line Form)
  ended : {made : List ℕ} {step line : ℕ} {lines : List (Option LineSaid)} {e : Ending} →
      opening_of lines ≡ Opening.ending e →
      Tells format system made step line lines (end_read format system made (line + 1) e (drop 1 lines))
  broken : {made : List ℕ} {step line worker : ℕ} {lines : List (Option LineSaid)} {b : BadAt} →
      opening_of lines ≡ Opening.firing worker →
      firing_read system made step worker lines ≡ FiringRead.broken b →
      Tells format system made step line lines (Verdict.bad (line + b.before) b.refusal)
  fired : {made all : List ℕ} {step line worker count : ℕ} {lines rest : List (Option LineSaid)}
      {entry : Entry} {v : Verdict} → opening_of lines ≡ Opening.firing worker →
      firing_read system made step worker lines ≡ FiringRead.fired entry all count rest →
      Tells format system all (step + 1) (line + count) rest v →
      Tells format system made step line lines (with_entry entry v)

-- the net of the first instance
abbrev pub first_made : System → List ℕ
first_made system = unwrap_or (net_named system (codes "main")) 0 ∷ []

-- how many bytes a record has, at most
abbrev pub longest_record : ℕ
longest_record = 67108864

-- the bytes after these, where they begin with them
abbrev pub bytes_after : List ℕ → List ℕ → Option (List ℕ)
bytes_after front bytes =
    if bytes_eq (take (length front) bytes) front then Some (drop (length front) bytes) else None

-- the number of the first line that tells something: the format is named by a line of its own where
-- it isn't 1
abbrev pub first_line : ℕ → ℕ
first_line format = if nat_eq format 1 then 1 else 2

-- What the bytes after the name of the format tell. Where the format isn't named so, the first line
-- is bad.
abbrev pub TellsAfter : ℕ → System → Option (List ℕ) → Verdict → Type 0
TellsAfter format system (Some bytes) v =
    Tells format system (first_made system) 1 (first_line format) (lines_in bytes) v
TellsAfter format system None v = v ≡ Verdict.bad 1 Form

-- What the bytes of a record of this format tell.
abbrev pub TellsRecord : System → ℕ → List ℕ → Verdict → Type 0
TellsRecord system format bytes =
    TellsAfter format system (bytes_after (header_text format) bytes)

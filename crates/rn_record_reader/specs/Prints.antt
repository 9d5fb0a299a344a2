-- The printed values of a firing, line by line.
use Rattle.std.specs.Prelude.{ℕ, not, ◌&&◌, List, [], ◌∷◌, nat_eq, Option, Some, None}
use Rattle.std.specs.Prelude.{if◌then◌else◌}
use Rattle.rn_value.specs.declared.value.Value.{Value}
use Rattle.rn_model.specs.declared.system.System.{System}
use Rattle.rn_lines.specs.LineText.{LeadSaid, Token, LineSaid}
use Rattle.rn_lookup.specs.declared.refusal.Refusal.{Refusal}
use Rattle.rn_lookup.specs.declared.refusal.Refusal.TheVariants.{Form, Name, Step}
use Rattle.rn_lookup.specs.Found.{name_nets, are_called}
use Rattle.rn_record_reader.specs.Nodes.{is_step}

-- the value that a line says is printed, and how the line begins
abbrev pub printed : Option LineSaid → Option (LeadSaid × Token)
printed (Some (LineSaid.prints lead t)) = Some (lead, t)
printed _ = None

-- The line of a printed value has the firing's worker, which is a matter of form. It names
-- instances that are made, and it has the firing's step.
abbrev pub print_fault : System → List ℕ → ℕ → ℕ → LeadSaid → Token → Option Refusal
print_fault system made step worker lead t =
    if not (nat_eq lead.worker worker) then Some Form
    else if not (name_nets system t.named && are_called system made t.named) then Some Name
    else if not (is_step step lead.step) then Some Step
    else None

-- what a line is after the nodes of a firing: one that prints nothing, and so belongs to what comes
-- after the firing; one that prints a value; or refused
pub data Print : Type 0 where
  other : Print
  prints : Value → Print
  refused : Refusal → Print

-- a printed value by what is wrong with its line
abbrev pub print_by : Token → Option Refusal → Print
print_by t (Some refusal) = Print.refused refusal
print_by t None = Print.prints t.value

-- a line that prints, if it does
abbrev pub judged_print : System → List ℕ → ℕ → ℕ → Option (LeadSaid × Token) → Print
judged_print system made step worker None = Print.other
judged_print system made step worker (Some x) =
    print_by x.1 (print_fault system made step worker x.0 x.1)

-- why no more printed values are read: these lines are left, or the next line is refused
pub data PrintsEnd : Type 0 where
  over : List (Option LineSaid) → PrintsEnd
  refused : Refusal → PrintsEnd

-- what is read of lines whose first one is this, and where that is read after it
abbrev pub print_then : List (Option LineSaid) → Print → List Value × PrintsEnd →
    List Value × PrintsEnd
print_then lines Print.other more = ([], PrintsEnd.over lines)
print_then lines (Print.prints v) more = (v ∷ more.0, more.1)
print_then lines (Print.refused refusal) more = ([], PrintsEnd.refused refusal)

-- The printed values at the start of lines, by the firing's step and worker, and why no more are
-- read.
abbrev pub prints_from : System → List ℕ → ℕ → ℕ → List (Option LineSaid) →
    List Value × PrintsEnd
prints_from system made step worker [] = ([], PrintsEnd.over [])
prints_from system made step worker (line ∷ lines) =
    print_then (line ∷ lines) (judged_print system made step worker (printed line))
    (prints_from system made step worker lines)

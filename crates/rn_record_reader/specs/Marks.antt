-- The marks at the end of a record, line by line.
use Rattle.std.specs.Prelude.{ℕ, ◌+◌, Bool, true, ◌&&◌, not, List, [], ◌∷◌, length, flat_map, replicate, nat_eq, nat_lt}
use Rattle.std.specs.Prelude.{Option, Some, None, if◌then◌else◌}
use Rattle.std.specs.List.{list_all}
use Rattle.rn_value.specs.declared.value.Value.{Value}
use Rattle.rn_model.specs.declared.system.System.{System}
use Rattle.rn_model.specs.declared.log.MarkLine.{MarkLine}
use Rattle.rn_model.specs.Lists.{same_value}
use Rattle.rn_lines.specs.ValueText.{Said}
use Rattle.rn_lines.specs.LineText.{Held, LineSaid, times_of}
use Rattle.rn_lookup.specs.declared.refusal.Refusal.{Refusal}
use Rattle.rn_lookup.specs.declared.refusal.Refusal.TheVariants.{Form, Name, Many}
use Rattle.rn_lookup.specs.Found.{net_said, place_said, is_called, tokens_are_called, tokens_held}
use Rattle.rn_lookup.specs.Faults.{mark_fault}

-- what a line of a mark says
pub record Marked : Type 0 where
  pub inst : Said
  pub place : List ℕ
  pub items : List Held

-- the mark of a line, if it is one
abbrev pub marked : Option LineSaid → Option Marked
marked (Some (LineSaid.holds inst place items)) =
    Some (record { inst = inst; place = place; items = items })
marked _ = None

-- a value as often as it stands there
abbrev pub held_values : Held → List Value
held_values h = replicate (times_of h) h.token.value

-- the values of a mark, each as often as it stands there
abbrev pub values_told : List Held → List Value
values_told = flat_map held_values

-- what a mark tells
abbrev pub told_mark : System → Marked → MarkLine
told_mark system m = record {
  inst = m.inst.number;
  net = net_said system m.inst;
  place = place_said system m.inst m.place;
  values = values_told m.items;
}

-- how many values items are
abbrev pub size_of : List Held → ℕ
size_of [] = 0
size_of (h ∷ hs) = times_of h + size_of hs

-- whether no counts are written
abbrev pub are_single : List Held → Bool
are_single = list_all (λ h. nat_eq (length h.times) 0)

-- whether no value is that of its neighbour, where this one stands before them
abbrev pub parted_from : Value → List Held → Bool
parted_from v [] = true
parted_from v (h ∷ hs) = not (same_value v h.token.value) && parted_from h.token.value hs

-- whether no value is that of its neighbour
abbrev pub are_parted : List Held → Bool
are_parted [] = true
are_parted (h ∷ hs) = parted_from h.token.value hs

-- In format 1 no count is written. In format 2 neighbours have different values.
abbrev pub fits_format : ℕ → List Held → Bool
fits_format format items = if nat_eq format 1 then are_single items else are_parted items

-- how many values the marks of a record have, at most
abbrev pub most_told_values : ℕ
most_told_values = 67108864

-- How many values are counted with those of a mark after so many. In format 1, where each value
-- stands in the bytes, none are counted.
abbrev pub counted_after : ℕ → ℕ → List Held → ℕ
counted_after format held items =
    if nat_eq format 1 then held else held + size_of items

-- the first of two reasons, where there is one
abbrev pub first_reason : Option Refusal → Option Refusal → Option Refusal
first_reason (Some refusal) more = Some refusal
first_reason None more = more

-- what is wrong with the form of a mark
abbrev pub format_fault : ℕ → Marked → Option Refusal
format_fault format m = if fits_format format m.items then None else Some Form

-- A mark names instances that firings made, and of the nets that it says.
abbrev pub uncalled_mark : System → List ℕ → Marked → Option Refusal
uncalled_mark system made m =
    if is_called system made m.inst && tokens_are_called system made (tokens_held m.items) then None
    else Some Name

-- The values of the marks up to this one are too many.
abbrev pub count_fault : ℕ → ℕ → Marked → Option Refusal
count_fault format held m =
    if nat_lt most_told_values (counted_after format held m.items) then Some Many else None

-- what is wrong with a mark, where so many values were counted before it
abbrev pub fault_of_mark : ℕ → System → List ℕ → ℕ → Marked → Option Refusal
fault_of_mark format system made held m =
    first_reason (format_fault format m)
    (first_reason (mark_fault system m.inst m.place (tokens_held m.items))
    (first_reason (uncalled_mark system made m) (count_fault format held m)))

-- marks, with one before them
abbrev pub mark_then : MarkLine → Option Refusal → List MarkLine × Option Refusal →
    List MarkLine × Option Refusal
mark_then m (Some refusal) more = ([], Some refusal)
mark_then m None more = (m ∷ more.0, more.1)

-- what is read of lines whose first one has this mark, by what is read after it
abbrev pub marked_then : ℕ → System → List ℕ → ℕ → Option Marked →
    (ℕ → List MarkLine × Option Refusal) → List MarkLine × Option Refusal
marked_then format system made held None more = ([], Some Form)
marked_then format system made held (Some m) more =
    mark_then (told_mark system m) (fault_of_mark format system made held m)
    (more (counted_after format held m.items))

-- The marks at the start of lines of this format, where so many values were counted before them,
-- and why the next line is refused; nothing where all lines are marks.
abbrev pub marks_from : ℕ → System → List ℕ → ℕ → List (Option LineSaid) →
    List MarkLine × Option Refusal
marks_from format system made held [] = ([], None)
marks_from format system made held (line ∷ lines) =
    marked_then format system made held (marked line)
    (λ more. marks_from format system made more lines)

-- How many lines are read.
use Rattle.std.proofs.Common.{◌≡◌, ℕ, ◌+◌, ◌<◌, ◌≤◌, Bool, true, false, cond, List, [], ◌∷◌, ◌++◌, length, refl, sym, subst, arith, length-append}
use Rattle.std.specs.Prelude.{Option, Some, None, nat_eq, nat_lt, ⊤}
use Rattle.std.proofs.lemmas.Bool.Decides.{nat_tests}
use Rattle.rn_model.specs.declared.log.MarkLine.{MarkLine}
use Rattle.rn_lookup.specs.declared.refusal.Refusal.{Refusal}
use Rattle.rn_lookup.specs.declared.refusal.Refusal.TheVariants.{Name}
use Rattle.rn_record_reader.specs.Called.{BadAt, count_of_called, stop_fault, nodes_fault}
use Rattle.rn_record_reader.specs.Marks.{Marked, marked, told_mark, counted_after, fault_of_mark, mark_then, marked_then, marks_from}
use Rattle.rn_value.specs.declared.value.Value.{Value}
use Rattle.rn_model.specs.declared.system.System.{System}
use Rattle.rn_lines.specs.NodeText.{NodeSaid}
use Rattle.rn_lines.specs.LineText.{LineSaid}
use Rattle.rn_lines.specs.LineReading.{line_at}
use Rattle.rn_record_reader.specs.declared.role.Role.{Role}
use Rattle.rn_record_reader.specs.Lines.{lines_from, lines_in}
use Rattle.rn_record_reader.specs.Paths.{is_root, children}
use Rattle.rn_record_reader.specs.Nodes.{Judged, judged, Placed, Stop, nodes_from, node_then, count_called, binding_lines, placed_at}
use Rattle.rn_record_reader.specs.Firings.{FiringRead, firing_read, firing_by, after_nodes, with_prints, made_with}
use Rattle.rn_record_reader.specs.declared.role.Role.TheVariants.{Firing}
use Rattle.rn_record_reader.specs.Prints.{Print, PrintsEnd, printed, judged_print, print_then, prints_from}

-- there are no more lines than bytes
lines_few_from : (before bytes : List ℕ) → length (lines_from before bytes) ≤ length before + length bytes
lines_few_from [] [] = omega arith
lines_few_from (c ∷ before) [] = omega arith
lines_few_from before (c ∷ bytes) =
    by (nat_eq c 10) (lines_few_from [] bytes) (lines_few_from (before ++ c ∷ []) bytes)
  where
    by : (b : Bool) → length (lines_from [] bytes) ≤ 0 + length bytes →
        length (lines_from (before ++ c ∷ []) bytes) ≤ length (before ++ c ∷ []) + length bytes →
        length (cond b (line_at before ∷ lines_from [] bytes) (lines_from (before ++ c ∷ []) bytes))
        ≤ length before + length (c ∷ bytes)
    by true cut on = omega (arith, cut)
    by false cut on = let size = length-append before (c ∷ []) in omega (arith, on, size)

pub lines_few : (bytes : List ℕ) → length (lines_in bytes) ≤ length bytes
lines_few bytes = let few = lines_few_from [] bytes in omega (arith, few)

-- how many lines are left after nodes
abbrev pub left : Stop → ℕ
left (Stop.whole rest) = length rest
left (Stop.late n) = 0
left (Stop.refused refusal) = 0

abbrev AreAll : ℕ → List Placed × Stop → Type 0
AreAll count read = length read.0 + left read.1 ≤ count

nodes_few_from : (system : System) (role : Role) (due : List (List ℕ)) (lines : List (Option LineSaid)) →
    AreAll (length lines) (nodes_from system role due lines)
nodes_few_from system role [] lines = omega arith
nodes_few_from system role (path ∷ due) [] = omega arith
nodes_few_from system role (path ∷ due) (line ∷ lines) =
    by (judged system role (is_root path) line)
    (λ n. nodes_few_from system role (children path (count_called system n) ++ due) lines)
  where
    more : NodeSaid → List Placed × Stop
    more n = nodes_from system role (children path (count_called system n) ++ due) lines

    by : (j : Judged) → ((n : NodeSaid) → AreAll (length lines) (more n)) →
        AreAll (length (line ∷ lines)) (node_then system path j more)
    by (Judged.stands n) few = let h = few n in omega (arith, h)
    by (Judged.late n) few = omega arith
    by (Judged.refused refusal) few = omega arith

-- the nodes of a binding, and what is left after them, are no more than the lines
pub nodes_few : (system : System) (role : Role) (lines : List (Option LineSaid)) (xs : List Placed) (s : Stop) →
    (xs, s) ≡ binding_lines system role lines → length xs + left s ≤ length lines
nodes_few system role lines xs s is =
    subst (AreAll (length lines)) (sym is) (nodes_few_from system role ([] ∷ []) lines)

-- so are printed values
abbrev after : PrintsEnd → ℕ
after (PrintsEnd.over rest) = length rest
after (PrintsEnd.refused refusal) = 0

abbrev AreAllPrinted : ℕ → List Value × PrintsEnd → Type 0
AreAllPrinted count read = length read.0 + after read.1 ≤ count

prints_few_from : (system : System) (made : List ℕ) (step worker : ℕ) (lines : List (Option LineSaid)) →
    AreAllPrinted (length lines) (prints_from system made step worker lines)
prints_few_from system made step worker [] = omega arith
prints_few_from system made step worker (line ∷ lines) =
    by (judged_print system made step worker (printed line)) (prints_few_from system made step worker lines)
  where
    by : (p : Print) → AreAllPrinted (length lines) (prints_from system made step worker lines) →
        AreAllPrinted (length (line ∷ lines)) (print_then (line ∷ lines) p (prints_from system made step worker lines))
    by Print.other few = omega arith
    by (Print.prints v) few = omega (arith, few)
    by (Print.refused refusal) few = omega arith

-- marks are no more than the lines
marks_few_from : (format : ℕ) (system : System) (made : List ℕ) (held : ℕ) (lines : List (Option LineSaid)) →
    length (marks_from format system made held lines).0 ≤ length lines
marks_few_from format system made held [] = omega arith
marks_few_from format system made held (line ∷ lines) =
    by (marked line) (λ more. marks_few_from format system made more lines)
  where
    then_few : (m : MarkLine) (o : Option Refusal) (rest : List MarkLine × Option Refusal) →
        length rest.0 ≤ length lines → length (mark_then m o rest).0 ≤ length (line ∷ lines)
    then_few m (Some refusal) rest few = omega arith
    then_few m None rest few = omega (arith, few)

    by : (o : Option Marked) → ((more : ℕ) → length (marks_from format system made more lines).0 ≤ length lines) →
        length (marked_then format system made held o (λ more. marks_from format system made more lines)).0
        ≤ length (line ∷ lines)
    by None few = omega arith
    by (Some m) few =
        then_few (told_mark system m) (fault_of_mark format system made held m)
        (marks_from format system made (counted_after format held m.items) lines)
        (few (counted_after format held m.items))

pub marks_few : (format : ℕ) (system : System) (made : List ℕ) (held : ℕ) (lines : List (Option LineSaid))
    (ms : List MarkLine) (o : Option Refusal) → (ms, o) ≡ marks_from format system made held lines →
    length ms ≤ length lines
marks_few format system made held lines ms o is =
    subst (λ read. length read.0 ≤ length lines) (sym is) (marks_few_from format system made held lines)

-- a bad line among nodes is no later than the nodes
abbrev IsEarly : ℕ → Option BadAt → Type 0
IsEarly count None = ⊤
IsEarly count (Some b) = b.before ≤ count

stop_early : (system : System) (made : List ℕ) (count : ℕ) (s : Stop) → IsEarly count (stop_fault system made count s)
stop_early system made count (Stop.whole rest) = tt
stop_early system made count (Stop.late n) = omega arith
stop_early system made count (Stop.refused refusal) = omega arith

fault_early : (system : System) (made : List ℕ) (read : List Placed × Stop) →
    IsEarly (length read.0) (nodes_fault system made read)
fault_early system made read = by (nat_lt called (length read.0)) (λ below. nat_lt-below called (length read.0) below)
  where
    called : ℕ
    called = count_of_called system made read.0

    nat_lt-below : (m n : ℕ) → nat_lt m n ≡ true → m < n
    nat_lt-below m n e = grind (arith, nat_tests)

    by : (b : Bool) → (b ≡ true → called < length read.0) →
        IsEarly (length read.0) (cond b (Some (record { before = called; refusal = Name })) (stop_fault system made (length read.0) read.1))
    by true below = let h = below refl in omega (arith, h)
    by false below = stop_early system made (length read.0) read.1

pub bad_early : (system : System) (made : List ℕ) (read : List Placed × Stop) (b : BadAt) →
    Some b ≡ nodes_fault system made read → b.before ≤ length read.0
bad_early system made read b is = subst (IsEarly (length read.0)) (sym is) (fault_early system made read)

-- where nodes are whole there is one
abbrev HasOne : List Placed → Stop → Type 0
HasOne xs (Stop.whole rest) = 1 ≤ length xs
HasOne xs (Stop.late n) = ⊤
HasOne xs (Stop.refused refusal) = ⊤

one_more : (x : Placed) (xs : List Placed) (s : Stop) → HasOne (x ∷ xs) s
one_more x xs (Stop.whole rest) = omega arith
one_more x xs (Stop.late n) = tt
one_more x xs (Stop.refused refusal) = tt

one_node : (system : System) (role : Role) (path : List ℕ) (due : List (List ℕ)) (lines : List (Option LineSaid)) →
    HasOne (nodes_from system role (path ∷ due) lines).0 (nodes_from system role (path ∷ due) lines).1
one_node system role path due [] = tt
one_node system role path due (line ∷ lines) = by (judged system role (is_root path) line)
  where
    more : NodeSaid → List Placed × Stop
    more n = nodes_from system role (children path (count_called system n) ++ due) lines

    by : (j : Judged) → HasOne (node_then system path j more).0 (node_then system path j more).1
    by (Judged.stands n) = one_more (placed_at system path n) (more n).0 (more n).1
    by (Judged.late n) = tt
    by (Judged.refused refusal) = tt

-- A firing has a line, and its lines and those after it are no more than the lines. Its bad line is
-- one of them, or comes next.
abbrev pub IsWithin : ℕ → FiringRead → Type 0
IsWithin count (FiringRead.fired entry all n rest) = (1 ≤ n) × (n + length rest ≤ count)
IsWithin count (FiringRead.broken b) = b.before ≤ count

pub firing_few : (system : System) (made : List ℕ) (step worker : ℕ) (lines : List (Option LineSaid)) →
    IsWithin (length lines) (firing_read system made step worker lines)
firing_few system made step worker lines =
    by (nodes_fault system all read) (fault_early system all read)
  where
    read : List Placed × Stop
    read = binding_lines system (Firing step worker) lines

    all : List ℕ
    all = made_with system made read

    outs : (rest : List (Option LineSaid)) (nodes : List Placed) (p : List Value × PrintsEnd) →
        AreAllPrinted (length rest) p → length nodes + length rest ≤ length lines → 1 ≤ length nodes →
        IsWithin (length lines) (with_prints system made all worker nodes p)
    outs rest nodes (vs, PrintsEnd.over more) few within one = (omega (arith, one), omega (arith, few, within))
    outs rest nodes (vs, PrintsEnd.refused refusal) few within one = omega (arith, few, within)

    ends : (nodes : List Placed) (s : Stop) → length nodes + left s ≤ length lines → HasOne nodes s →
        IsWithin (length lines) (after_nodes system made all step worker nodes s)
    ends nodes (Stop.whole rest) few one =
        outs rest nodes (prints_from system all step worker rest) (prints_few_from system all step worker rest) few one
    ends nodes (Stop.late n) few one = omega (arith, few)
    ends nodes (Stop.refused refusal) few one = omega (arith, few)

    by : (o : Option BadAt) → IsEarly (length read.0) o →
        IsWithin (length lines) (firing_by system made all step worker read o)
    by None early =
        ends read.0 read.1 (nodes_few_from system (Firing step worker) ([] ∷ []) lines)
        (one_node system (Firing step worker) [] [] lines)
    by (Some b) early =
        let few = nodes_few_from system (Firing step worker) ([] ∷ []) lines in
        omega (arith, few, early)

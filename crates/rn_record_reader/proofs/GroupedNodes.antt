-- Firings are the same where marks have their items grouped.
use Rattle.std.proofs.Common.{◌≡◌, ℕ, Bool, true, false, cond, List, [], ◌∷◌, ◌++◌, length, map, refl, ap, ◌∙◌}
use Rattle.std.specs.Prelude.{Option, Some, None, nat_lt}
use Rattle.rn_value.specs.declared.value.Value.{Value}
use Rattle.rn_model.specs.declared.system.System.{System}
use Rattle.rn_lines.specs.LineText.{LineSaid}
use Rattle.rn_lines.specs.NodeText.{NodeSaid}
use Rattle.rn_lookup.specs.declared.refusal.Refusal.TheVariants.{Name}
use Rattle.rn_record_reader.specs.Called.{BadAt, count_of_called, nodes_fault, stop_fault}
use Rattle.rn_record_reader.specs.Firings.{FiringRead, after_nodes, firing_by, firing_read, made_with, with_prints}
use Rattle.rn_record_reader.specs.Nodes.{Judged, Placed, Stop, binding_lines, count_called, judged, node_then, nodes_from, placed_at, with_node}
use Rattle.rn_record_reader.specs.Paths.{children, is_root}
use Rattle.rn_record_reader.specs.Prints.{Print, PrintsEnd, judged_print, print_then, printed, prints_from}
use Rattle.rn_record_reader.specs.declared.role.Role.{Role}
use Rattle.rn_record_reader.specs.declared.role.Role.TheVariants.{Firing, Fault}
use Rattle.rn_record_reader.proofs.GroupedLines.{regrouped}

-- what is read, where the lines left have their items grouped
abbrev pub stop_again : Stop → Stop
stop_again (Stop.whole lines) = Stop.whole (map regrouped lines)
stop_again (Stop.late n) = Stop.late n
stop_again (Stop.refused refusal) = Stop.refused refusal

abbrev pub read_again : List Placed × Stop → List Placed × Stop
read_again read = (read.0, stop_again read.1)

abbrev end_again : PrintsEnd → PrintsEnd
end_again (PrintsEnd.over lines) = PrintsEnd.over (map regrouped lines)
end_again (PrintsEnd.refused refusal) = PrintsEnd.refused refusal

abbrev pub fired_again : FiringRead → FiringRead
fired_again (FiringRead.fired entry all count rest) = FiringRead.fired entry all count (map regrouped rest)
fired_again (FiringRead.broken b) = FiringRead.broken b

-- A mark is no node, and prints nothing.
judged_again : (system : System) (role : Role) (first : Bool) (line : Option LineSaid) →
    judged system role first (regrouped line) ≡ judged system role first line
judged_again system (Firing step worker) true (Some (LineSaid.holds inst place items)) = refl
judged_again system (Firing step worker) false (Some (LineSaid.holds inst place items)) = refl
judged_again system Fault true (Some (LineSaid.holds inst place items)) = refl
judged_again system Fault false (Some (LineSaid.holds inst place items)) = refl
judged_again system role first line = refl

printed_again : (line : Option LineSaid) → printed (regrouped line) ≡ printed line
printed_again (Some (LineSaid.holds inst place items)) = refl
printed_again line = refl

-- Nodes, line by line.
module _ (system : System) (role : Role) where
  then_again : (path : List ℕ) (due : List (List ℕ)) (lines : List (Option LineSaid)) →
      ((due : List (List ℕ)) → nodes_from system role due (map regrouped lines) ≡ read_again (nodes_from system role due lines)) →
      (next : NodeSaid → List (List ℕ)) (j : Judged) →
      node_then system path j (λ n. nodes_from system role (next n ++ due) (map regrouped lines))
      ≡ read_again (node_then system path j (λ n. nodes_from system role (next n ++ due) lines))
  then_again path due lines more next (Judged.stands n) = ap (with_node (placed_at system path n)) (more (next n ++ due))
  then_again path due lines more next (Judged.late n) = refl
  then_again path due lines more next (Judged.refused refusal) = refl

  pub nodes_again : (lines : List (Option LineSaid)) (due : List (List ℕ)) →
      nodes_from system role due (map regrouped lines) ≡ read_again (nodes_from system role due lines)
  nodes_again lines [] = refl
  nodes_again [] (path ∷ due) = refl
  nodes_again (line ∷ lines) (path ∷ due) =
      ap (λ j. node_then system path j (λ n. nodes_from system role (children path (count_called system n) ++ due) (map regrouped lines)))
      (judged_again system role (is_root path) line)
      ∙ then_again path due lines (nodes_again lines) (λ n. children path (count_called system n)) (judged system role (is_root path) line)

-- What is wrong with them.
module _ (system : System) (all : List ℕ) where
  same_stop : (count : ℕ) (stop : Stop) → stop_fault system all count (stop_again stop) ≡ stop_fault system all count stop
  same_stop count (Stop.whole lines) = refl
  same_stop count (Stop.late n) = refl
  same_stop count (Stop.refused refusal) = refl

  pub same_fault : (read : List Placed × Stop) → nodes_fault system all (read_again read) ≡ nodes_fault system all read
  same_fault read =
      ap (λ o. cond (nat_lt (count_of_called system all read.0) (length read.0)) (Some (record { before = count_of_called system all read.0; refusal = Name })) o)
      (same_stop (length read.0) read.1)

-- Printed values, line by line.
module _ (system : System) (made : List ℕ) (step worker : ℕ) where
  abbrev prints_regrouped : List Value × PrintsEnd → List Value × PrintsEnd
  prints_regrouped read = (read.0, end_again read.1)

  print_again : (line : Option LineSaid) (lines : List (Option LineSaid)) →
      prints_from system made step worker (map regrouped lines) ≡ prints_regrouped (prints_from system made step worker lines) → (p : Print) →
      print_then (map regrouped (line ∷ lines)) p (prints_from system made step worker (map regrouped lines))
      ≡ prints_regrouped (print_then (line ∷ lines) p (prints_from system made step worker lines))
  print_again line lines more Print.other = refl
  print_again line lines more (Print.prints v) = ap (λ read. let next : List Value × PrintsEnd = (v ∷ read.0, read.1) in next) more
  print_again line lines more (Print.refused refusal) = refl

  prints_again : (lines : List (Option LineSaid)) →
      prints_from system made step worker (map regrouped lines) ≡ prints_regrouped (prints_from system made step worker lines)
  prints_again [] = refl
  prints_again (line ∷ lines) =
      ap (λ o. print_then (map regrouped (line ∷ lines)) (judged_print system made step worker o) (prints_from system made step worker (map regrouped lines)))
      (printed_again line)
      ∙ print_again line lines (prints_again lines) (judged_print system made step worker (printed line))

-- Firings.
module _ (system : System) (made : List ℕ) (step worker : ℕ) where
  with_again : (all : List ℕ) (nodes : List Placed) (outs : List Value) (end : PrintsEnd) →
      with_prints system made all worker nodes (outs, end_again end) ≡ fired_again (with_prints system made all worker nodes (outs, end))
  with_again all nodes outs (PrintsEnd.over lines) = refl
  with_again all nodes outs (PrintsEnd.refused refusal) = refl

  after_again : (all : List ℕ) (nodes : List Placed) (stop : Stop) →
      after_nodes system made all step worker nodes (stop_again stop) ≡ fired_again (after_nodes system made all step worker nodes stop)
  after_again all nodes (Stop.whole lines) =
      let read : List Value × PrintsEnd = prints_from system all step worker lines in
      ap (with_prints system made all worker nodes) (prints_again system all step worker lines)
      ∙ with_again all nodes read.0 read.1
  after_again all nodes (Stop.late n) = refl
  after_again all nodes (Stop.refused refusal) = refl

  by_fault : (all : List ℕ) (read : List Placed × Stop) (o : Option BadAt) →
      firing_by system made all step worker (read_again read) o ≡ fired_again (firing_by system made all step worker read o)
  by_fault all read (Some b) = refl
  by_fault all read None = after_again all read.0 read.1

  pub firing_again : (lines : List (Option LineSaid)) →
      firing_read system made step worker (map regrouped lines) ≡ fired_again (firing_read system made step worker lines)
  firing_again lines =
      let read : List Placed × Stop = binding_lines system (Firing step worker) lines in
      let all : List ℕ = made_with system made read in
      ap (λ r. firing_by system made (made_with system made r) step worker r (nodes_fault system (made_with system made r) r))
      (nodes_again system (Firing step worker) lines ([] ∷ []))
      ∙ ap (firing_by system made all step worker (read_again read)) (same_fault system all read)
      ∙ by_fault all read (nodes_fault system all read)

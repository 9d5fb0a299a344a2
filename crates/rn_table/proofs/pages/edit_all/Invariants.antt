use Rattle.std.proofs.Common.{◌≡◌, ℕ, drop}
use Rattle.rn_table.specs.link.Leaves.{IsTable, instances_in, starting_from}
use Rattle.rn_table.specs.link.Steps.{after_steps}
use Rattle.rn_table.proofs.pages.edit_all.Given as goal

abbrev pub invariant-loop-edit : goal.invariant-loop-edit
invariant-loop-edit l = record {
  table : (n : ℕ) → IsTable n l.initial.leaves → IsTable n l.leaves;
  instances : after_steps (drop l.edit-index l.edits) (instances_in l.leaves) ≡ after_steps l.edits (instances_in l.initial.leaves);
  starting : starting_from 0 l.leaves ≡ starting_from 0 l.initial.leaves;
}

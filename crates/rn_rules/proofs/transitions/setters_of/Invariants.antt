-- The table has the actions so far.
use Rattle.std.proofs.Common.{◌≡◌, ◌≤◌, List, ℕ, length, take}
use Rattle.rn_declared.specs.Names.{number_among}
use Rattle.rn_rules.specs.Actions.{set_names}
use Rattle.rn_declared.specs.link.Tables.{found_in}
use Rattle.rn_rules.proofs.transitions.setters_of.Given as goal

abbrev pub invariant-loop-inscription : goal.invariant-loop-inscription
invariant-loop-inscription l = record {
  found : (name : List ℕ) →
      found_in l.table name ≡ number_among (set_names (take l.inscription-index l.inscriptions)) name;
  count : l.count ≡ length (set_names (take l.inscription-index l.inscriptions));
  few : l.count ≤ l.inscription-index;
}

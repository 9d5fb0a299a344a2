-- The table has the names so far; what was reported, and is to be reported of those that are left,
-- is all.
use Rattle.std.proofs.Common.{◌≡◌, List, ℕ, [], map, take, drop}
use Rattle.rn_declared.specs.Faults.{first_from}
use Rattle.rn_declared.specs.Names.{number_among, names_faults}
use Rattle.rn_declared.specs.link.Tables.{found_in}
use Rattle.rn_declared.proofs.names.declare_all.Given as goal

abbrev pub invariant-loop-i : goal.invariant-loop-i
invariant-loop-i g l = record {
  found : (name : List ℕ) → found_in l.table name
      ≡ number_among (map (λ n. n.text) (take l.i (map g.T.Named.name_of l.items))) name;
  told : first_from l.first.fault
      (names_faults (map (λ n. n.text) (take l.i (map g.T.Named.name_of l.items)))
      (drop l.i (map g.T.Named.name_of l.items)))
      ≡ first_from l.initial.first.fault (names_faults [] (map g.T.Named.name_of l.items));
}

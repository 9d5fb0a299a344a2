-- The table has the names so far; what was noted, and is to be noted of those that are left, is all.
use Rattle.std.proofs.Common.{◌≡◌, List, ℕ, [], map, take, drop}
use Rattle.rn_pt.specs.Faults.{first_from}
use Rattle.rn_pt.specs.Rules.{number_among, names_broken}
use Rattle.rn_pt.specs.link.Tables.{found_in}
use Rattle.rn_pt.proofs.names.declare_all.Given as goal

abbrev pub invariant-loop-i : goal.invariant-loop-i
invariant-loop-i g l = record {
  found : (name : List ℕ) → found_in l.table name
      ≡ number_among (map (λ n. n.text) (take l.i (map g.T.Declared.name_of l.items))) name;
  noted : first_from l.first.broken
      (names_broken (map (λ n. n.text) (take l.i (map g.T.Declared.name_of l.items)))
      (drop l.i (map g.T.Declared.name_of l.items)))
      ≡ first_from l.initial.first.broken (names_broken [] (map g.T.Declared.name_of l.items));
}

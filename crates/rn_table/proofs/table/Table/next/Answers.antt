use Rattle.std.proofs.Common.{◌<◌, map, subst}
use Rattle.std.specs.Prelude.{All}
use Rattle.std.specs.List.Sorted.{IsSorted, IsStrictlyIncreasing}
use Rattle.rn_value.specs.Order.{value_cmp}
use Rattle.rn_table.specs.Tables.{Kept}
use Rattle.rn_table.proofs.TableLemmas.{all_ascend, all_between, all_places_sorted, rising}
use Rattle.rn_table.proofs.table.Table.next.Goals as goal

pub returns-clause-below : goal.returns-clause-below
returns-clause-below c = subst (λ (t : Kept). All (λ i. (0 < i.number) × (i.number < c.self.inside.next)) t.marking.instances) c.self.view_is (all_between c.self.inside.next c.self.inside.leaves c.self.invariant)

pub returns-clause-ascending : goal.returns-clause-ascending
returns-clause-ascending c =
    subst (λ (t : Kept). IsStrictlyIncreasing (map (λ i. i.number) t.marking.instances)) c.self.view_is (rising _ (all_ascend 0 c.self.inside.leaves c.self.invariant.leaves))

pub returns-clause-sorted : goal.returns-clause-sorted
returns-clause-sorted c = subst (λ (t : Kept). All (λ i. All (λ tokens. IsSorted value_cmp tokens) i.places) t.marking.instances) c.self.view_is (all_places_sorted c.self.inside.leaves c.self.invariant.leaves)

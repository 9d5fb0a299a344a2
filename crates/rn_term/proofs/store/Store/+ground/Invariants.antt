use Rattle.std.proofs.Common.{◌≡◌, ◌+◌, ◌*◌, ◌++◌, List, map, take}
use Rattle.rn_value.specs.declared.value.Value.{Value}
use Rattle.rn_term.specs.Assignments.{value_at, Satisfies}
use Rattle.rn_term.proofs.Extents.{extent, greatest}
use Rattle.rn_term.proofs.ListsReadOn.{IsReadTo}
use Rattle.rn_term.proofs.store.Store.+ground.Given as goal

abbrev pub decreases-value_of : goal.decreases-value_of
decreases-value_of l = 3 * extent l.self.now l.id + 2

abbrev pub decreases-values_onto : goal.decreases-values_onto
decreases-values_onto l = 3 * greatest (extent l.self.now) l.ids.now + 3

abbrev pub decreases-list_value : goal.decreases-list_value
decreases-list_value l = 3 * extent l.self.now l.id + 1

abbrev pub invariant-list_value-loop-ids : goal.invariant-list_value-loop-ids
invariant-list_value-loop-ids l = IsReadTo l.self l.id l.rest l.values.items

abbrev pub decreases-list_value-loop-ids : goal.decreases-list_value-loop-ids
decreases-list_value-loop-ids l = extent l.self l.rest

abbrev pub invariant-values_onto-loop-id : goal.invariant-values_onto-loop-id
invariant-values_onto-loop-id l =
    (vs : List Value) → Satisfies l.self vs →
    l.values.items ≡ l.fn.values.items ++ map (value_at vs) (take l.id-index l.ids)

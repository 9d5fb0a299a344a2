-- Places of instances, and their order.
use Rattle.std.specs.Prelude.{ℕ, Bool}
use Rattle.std.specs.Ordering.{nat_cmp, ordering_then, is_eq}
use Rattle.std.specs.declared.cmp.Ordering.{Ordering}
use Rattle.rn_value.specs.Order.{inst_cmp}
use Rattle.rn_value.specs.declared.value.InstRef.{InstRef}

-- a place of an instance
abbrev pub InstPlace : Type 0
InstPlace = InstRef × ℕ

-- places stand by instance, and then by number
abbrev pub place_cmp : InstPlace → InstPlace → Ordering
place_cmp k l = ordering_then (inst_cmp k.0 l.0) (nat_cmp k.1 l.1)

-- whether the second is the first
abbrev pub is_at : InstPlace → InstPlace → Bool
is_at k l = is_eq (place_cmp l k)

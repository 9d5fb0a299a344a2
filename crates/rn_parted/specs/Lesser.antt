-- The first of several bindings, of which some may be none.
use Rattle.std.specs.Prelude.{List, [], ◌∷◌, Option, Some, None}
use Rattle.std.specs.declared.cmp.Ordering.{Ordering}
use Rattle.std.specs.declared.cmp.Ordering.TheVariants.{Greater}
use Rattle.rn_model.specs.declared.binding.Binding.{Binding}
use Rattle.rn_model.specs.Order.{binding_cmp}
use Rattle.rn_parted.specs.declared.share.Share.{Share}

-- the one of two that doesn't come after the other
abbrev pub by_order : Ordering → Binding → Binding → Binding
by_order Greater b c = c
by_order _ b c = b

abbrev pub lesser : Option Binding → Option Binding → Option Binding
lesser None second = second
lesser first None = first
lesser (Some b) (Some c) = Some (by_order (binding_cmp b c) b c)

-- the first of one and of all shares
abbrev pub least_of : Option Binding → List Share → Option Binding
least_of first [] = first
least_of first (s ∷ shares) = least_of (lesser first s.first) shares

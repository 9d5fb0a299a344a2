-- Nodes in the order of their paths.
use Rattle.std.specs.Prelude.{◌≡◌, List, length}
use Rattle.std.specs.List.{AllAdjacentBelow}
use Rattle.std.specs.Ordering.{nat_cmp}
use Rattle.std.specs.Cmp.Lexicographic.{slice_cmp}
use Rattle.std.specs.declared.cmp.Ordering.TheVariants.{Less}
use Rattle.rn_model.specs.declared.binding.Node.{Node}

-- each node's path is below that of the next
abbrev pub AscendByPath : List Node → Type 0
AscendByPath nodes =
    AllAdjacentBelow (λ x y. slice_cmp nat_cmp x.path y.path ≡ Less) nodes (length nodes)

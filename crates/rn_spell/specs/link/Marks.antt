-- Nodes in the order of their paths, and marks of how many instances they make.
use Rattle.std.specs.Prelude.{◌≡◌, ℕ, ◌*◌, ◌<◌, false, List, length, take, flat_map, nat_eq}
use Rattle.std.specs.Prelude.{slice_index_or as get_or}
use Rattle.std.specs.List.{All, AllAdjacentBelow}
use Rattle.std.specs.Ordering.{nat_cmp}
use Rattle.std.specs.Cmp.Lexicographic.{slice_cmp, pointwise}
use Rattle.std.specs.declared.cmp.Ordering.TheVariants.{Less}
use Rattle.rn_model.specs.declared.system.System.{System}
use Rattle.rn_model.specs.declared.binding.Node.{Node}
use Rattle.rn_model.specs.Firing.{made_by}

-- each node's path is below that of the next
abbrev pub AscendByPath : List Node → Type 0
AscendByPath nodes =
    AllAdjacentBelow (λ x y. slice_cmp nat_cmp x.path y.path ≡ Less) nodes (length nodes)

-- no node has this path
abbrev pub OtherPaths : List ℕ → List Node → Type 0
OtherPaths path = All (λ (node : Node). pointwise nat_eq node.path path ≡ false)

-- how many instances nodes make
abbrev pub made_count : System → List Node → ℕ
made_count system nodes = length (flat_map (made_by system) nodes)

-- Each count is how many instances are made by the nodes before a place. The places begin with 0,
-- and are `step` apart.
abbrev pub AreMarks : System → List Node → ℕ → List ℕ → Type 0
AreMarks system nodes step counts =
    (k : ℕ) → k < length counts → get_or counts k 0 ≡ made_count system (take (k * step) nodes)

-- the paths of the nodes ascend, and the counts are marks
abbrev pub Halves : System → List Node → ℕ → List ℕ → Type 0
Halves system nodes step counts = AscendByPath nodes × AreMarks system nodes step counts

-- Paths of nodes.
use Rattle.std.specs.Prelude.{ℕ, zero, suc, ◌+◌, Bool, true, false, List, [], ◌∷◌, ◌++◌}

-- paths that go on from one by this many downlinks, the first with this number
abbrev pub children_from : List ℕ → ℕ → ℕ → List (List ℕ)
children_from path i zero = []
children_from path i (suc more) = (path ++ i ∷ []) ∷ children_from path (i + 1) more

-- the paths of the nodes that the downlinks of a node call
abbrev pub children : List ℕ → ℕ → List (List ℕ)
children path = children_from path 0

-- whether a path is that of the first node of a binding
abbrev pub is_root : List ℕ → Bool
is_root [] = true
is_root (i ∷ path) = false

-- What is known of a room in which the live instances of tables are marked.
use Rattle.std.specs.Prelude.{ℕ, ◌+◌, Bool, true, false, List, [], ◌∷◌, map, is_none, slice_index_or}
use Rattle.std.specs.List.{list_any}
use Rattle.rn_model.specs.declared.system.System.{System}

-- for each net whether an instance of it is live by the net; a mark for each number below an end
pub record Room : Type 0 where
  pub starting : List Bool
  pub marks : List Bool

-- whether a number is marked
abbrev pub is_marked : List Bool → ℕ → Bool
is_marked marks n = slice_index_or marks n false

-- for each net of a system whether one of its transitions has no uplink
abbrev pub starts_of : System → List Bool
starts_of system = map (λ net. list_any (λ t. is_none t.uplink) net.transitions) system.nets

-- the numbers that are marked, ascending, where the first mark belongs to this number
abbrev pub marked_from : ℕ → List Bool → List ℕ
marked_from n [] = []
marked_from n (true ∷ marks) = n ∷ marked_from (n + 1) marks
marked_from n (false ∷ marks) = marked_from (n + 1) marks

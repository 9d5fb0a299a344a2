-- How much may still be decided.
use Rattle.std.specs.Prelude.{ℕ, zero, suc, ◌<◌, ◌≤◌, Bool, false, ◌&&◌, not, List, [], ◌∷◌}
use Rattle.std.specs.Prelude.{◌++◌, length, map, flat_map, filter, nat_eq, None}
use Rattle.std.specs.List.{list_any}
use Rattle.std.specs.Cmp.Lexicographic.{pointwise}
use Rattle.rn_value.specs.declared.value.InstRef.TheVariants.{Old}
use Rattle.rn_value.specs.declared.value.Value.TheVariants as Value
use Rattle.rn_model.specs.Derivation.{Hole}
use Rattle.rn_model.specs.Derivation as D
use Rattle.rn_model.specs.declared.system.System.{System}
use Rattle.rn_model.specs.declared.system.Transition.{Transition}
use Rattle.rn_growing.specs.declared.decision.Head.{Head}
use Rattle.rn_growing.specs.declared.decision.Decision.{Decision}
use Rattle.rn_growing.specs.declared.decision.Decision.TheVariants.{Entered, Found, Computed}
use Rattle.rn_growing.specs.link.Layouts.{same_site}
use Rattle.rn_growing.specs.Grown.{IsNew}
use Rattle.rn_growing.specs.Turns.{MayCome, AreInTurn}
use Rattle.rn_growing.proofs.SameUnknowns.{as_site}
use Rattle.rn_search.specs.Points.{holes_of, node_on}

-- a node of which the path alone matters
abbrev pub anywhere : List ℕ → Head
anywhere path = record { path = path; inst = Old 0; net = 0; transition = 0 }

-- whether two decisions are on one thing
abbrev pub on_one_thing : Decision → Decision → Bool
on_one_thing (Entered head caller) (Entered other from) = pointwise nat_eq head.path other.path
on_one_thing (Found head k v) (Found other j w) =
    pointwise nat_eq head.path other.path && nat_eq k j
on_one_thing (Computed head site way v) (Computed other at along w) =
    pointwise nat_eq head.path other.path && (same_site site at && pointwise nat_eq way along)
on_one_thing _ _ = false

-- the numbers below this one
abbrev pub numbers_below : ℕ → List ℕ
numbers_below zero = []
numbers_below (suc n) = n ∷ numbers_below n

-- the transitions of all nets
abbrev pub all_transitions : System → List Transition
all_transitions system = flat_map (λ net. net.transitions) system.nets

-- the indexes of all downlinks, of all arcs, and all operator applications; some stand there twice
abbrev pub downlink_indexes : System → List ℕ
downlink_indexes system =
    flat_map (λ t. numbers_below (length t.downlinks)) (all_transitions system)

abbrev pub arc_indexes : System → List ℕ
arc_indexes system = flat_map (λ t. numbers_below (length t.arcs)) (all_transitions system)

abbrev pub all_holes : System → List (D.Site × Hole)
all_holes system = flat_map holes_of (all_transitions system)

-- the paths of these steps that are no longer than a depth
abbrev pub paths_within : List ℕ → ℕ → List (List ℕ)
paths_within steps zero = [] ∷ []
paths_within steps (suc depth) =
    [] ∷ flat_map (λ i. map (λ path. i ∷ path) (paths_within steps depth)) steps

-- One decision on each thing that a node on this path may have. Its other parts don't matter.
abbrev pub things_on : System → List ℕ → List Decision
things_on system path =
    Entered (anywhere path) None
    ∷ map (λ k. Found (anywhere path) k (Value.Tuple [])) (arc_indexes system)
    ++ map (λ hole. Computed (anywhere path) (as_site hole.0) hole.1.way (Value.Tuple []))
    (all_holes system)

-- one on each thing that a binding within a depth may have
abbrev pub all_things : System → ℕ → List Decision
all_things system depth =
    flat_map (things_on system) (paths_within (downlink_indexes system) depth)

-- whether nothing was decided of the thing that a decision is on
abbrev pub is_undecided : List Decision → Decision → Bool
is_undecided ds thing = not (list_any (on_one_thing thing) ds)

-- How much may still be decided: of how many things of a binding within the depth nothing was.
abbrev pub room : System → ℕ → List Decision → ℕ
room system depth ds = length (filter (is_undecided ds) (all_things system depth))

-- It falls with each decision that comes in turn on a node that isn't too deep.
abbrev pub RoomFalls : Type 0
RoomFalls = (system : System) (depth : ℕ) (ds : List Decision) (d : Decision) →
    AreInTurn system ds → MayCome system ds d → IsNew ds d → length (node_on d).path ≤ depth →
    room system depth (ds ++ d ∷ []) < room system depth ds

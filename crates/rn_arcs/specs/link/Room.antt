-- Whether places have room after a firing. This only connects the code to what it means that a
-- binding fits.
use Rattle.std.specs.Prelude.{ℕ, ◌≡◌, ◌≤◌, ◌+◌, ◌-◌, ◌||◌, Bool, Some, List, length, filter}
use Rattle.std.specs.Prelude.{All, is_some, slice_get}
use Rattle.std.specs.List.{flat_map, list_any, sum_by}
use Rattle.rn_value.specs.declared.value.InstRef.{InstRef}
use Rattle.rn_value.specs.declared.value.InstRef.TheVariants.{Old, New}
use Rattle.rn_model.specs.declared.system.System.{System}
use Rattle.rn_model.specs.declared.system.Place.{Place}
use Rattle.rn_model.specs.declared.system.Creation.{Creation}
use Rattle.rn_model.specs.declared.binding.Node.{Node}
use Rattle.rn_model.specs.declared.binding.Binding.{Binding}
use Rattle.rn_model.specs.Enabling.{HasRoom, MadeHasRoom}
use Rattle.rn_model.specs.Firing.{creations_of}
use Rattle.rn_model.specs.Markings.{Marking, tokens}
use Rattle.rn_model.specs.Systems.{net_at, transition_of}
use Rattle.rn_arcs.specs.Demanded.{fill_place}
use Rattle.rn_arcs.specs.link.Groups.{asked_in, place_of}
use Rattle.rn_arcs.specs.link.Joining.{Rising}
use Rattle.rn_arcs.specs.Places.{InstPlace, is_at}
use Rattle.rn_arcs.specs.declared.asked.Asked.{Asked}
use Rattle.rn_arcs.specs.declared.demands.Fill.{Fill}
use Rattle.rn_arcs.specs.declared.room.Firing.{Firing}

-- whether a net has a place with a capacity
abbrev pub net_is_limited : System → ℕ → Bool
net_is_limited system n = list_any (λ p. is_some p.max) (net_at system n).places

-- whether the net of a node has one, or that of an instance that it makes
abbrev pub node_is_limited : System → Node → Bool
node_is_limited system node =
    net_is_limited system node.net
    || list_any (λ c. net_is_limited system c.net) (transition_of system node).creations

-- so many tokens, less what is taken or cleared at a place
abbrev pub remaining_in : List Asked → InstPlace → ℕ → ℕ
remaining_in gs k held =
    held - (length (asked_in (λ g. g.taken) gs k)
    + length (flat_map (λ vs. vs) (asked_in (λ g. g.cleared) gs k)))

-- how many tokens are put at a place
abbrev pub filled_in : List Fill → InstPlace → ℕ
filled_in fs k = sum_by (λ f. f.count) (filter (λ f. is_at k (fill_place f)) fs)

-- what is asked and what is put stand in order
abbrev pub IsInOrder : Firing → Type 0
IsInOrder f = Rising place_of f.asked.now × Rising fill_place f.fills.now

-- How many tokens of a place stay. An instance that is made begins with its initial tokens.
abbrev pub staying : Firing → InstRef → ℕ → Place → ℕ
staying f (Old n) place p =
    remaining_in f.asked.now (Old n, place)
    (length (tokens f.table.now.marking (Old n) place))
staying f (New path j) place p = length p.initial

-- a place of an instance has room for what is put there
abbrev pub PlaceHasRoom : Firing → InstRef → ℕ → Place → Type 0
PlaceHasRoom f inst place p =
    (most : ℕ) → p.max ≡ Some most →
    staying f inst place p + filled_in f.fills.now (inst, place) ≤ most

-- each of these places of an instance has
abbrev pub EachHasRoom : Firing → List Place → InstRef → Type 0
EachHasRoom f places inst =
    (place : ℕ) (p : Place) → slice_get places place ≡ Some p → PlaceHasRoom f inst place p

-- each place of an instance of that net has
abbrev pub PlacesHaveRoom : Firing → ℕ → InstRef → Type 0
PlacesHaveRoom f net inst = EachHasRoom f (net_at f.system.now net).places inst

-- the instances that a node makes have room
abbrev pub MadeHaveRoom : Firing → List ℕ → List Creation → Type 0
MadeHaveRoom f path creations =
    (j : ℕ) (c : Creation) → slice_get creations j ≡ Some c →
    PlacesHaveRoom f c.net (New path j)

-- the instance of a node has room, where it is there, and those that the node makes
abbrev pub NodeHasRoom : Firing → Node → Type 0
NodeHasRoom f node =
    ((n : ℕ) → node.inst ≡ Old n → PlacesHaveRoom f node.net (Old n))
    × MadeHaveRoom f node.path (transition_of f.system.now node).creations

-- no place with a capacity gets too many tokens
abbrev pub AllHaveRoom : System → Marking → Binding → Type 0
AllHaveRoom system m b =
    All (HasRoom system m b) b.nodes × All (MadeHasRoom system b) (creations_of system b)

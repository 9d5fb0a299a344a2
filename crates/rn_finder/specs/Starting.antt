-- Bindings by where they start.
use Rattle.std.specs.Prelude.{ℕ, ◌≡◌, ◌<◌, ◌≤◌, ◌≢◌, List, [], ◌++◌, Contains, AllPairs, All, map}
use Rattle.std.specs.Prelude.{Bool, false, ◌&&◌, ◌+◌, None, Some, length, nat_eq, nat_lt, slice_get}
use Rattle.std.specs.Prelude.{unwrap_or}
use Rattle.std.specs.List.{list_any}
use Rattle.std.specs.List.Sorted.{IsStrictlyIncreasing}
use Rattle.std.specs.Option.{option_map_or}
use Rattle.rn_value.specs.declared.value.InstRef.TheVariants.{Old}
use Rattle.rn_model.specs.declared.system.System.{System}
use Rattle.rn_model.specs.declared.system.NetArc.{NetArc}
use Rattle.rn_model.specs.declared.system.Transition.{Transition}
use Rattle.rn_model.specs.declared.binding.Binding.{Binding}
use Rattle.rn_model.specs.Derivation.{finds_token}
use Rattle.rn_model.specs.Enabling.{Enabled}
use Rattle.rn_model.specs.Good.{Good}
use Rattle.rn_model.specs.Markings.{Marking, Instance, instance_at}
use Rattle.rn_model.specs.RoomLaws.{puts_one, takers_at, putters_at, is_plain_at}
use Rattle.rn_model.specs.Systems.{capacity, transition_at}
use Rattle.rn_search.specs.Problems.{HasFitTokens}
use Rattle.rn_channel.specs.declared.uplinks.Uplinks.{Uplinks}
use Rattle.rn_channel.specs.link.Uplinks.{AreUplinksOf}
use Rattle.rn_table.specs.Tables.{Kept, IsTableOf}
use Rattle.rn_growing.specs.declared.decision.Head.{Head}
use Rattle.rn_search.specs.Sought.{StartsAt}

-- What may be searched: a good system with its uplinks, and a table of it whose tokens fit. The
-- numbers of the table's instances ascend, and are below the next one.
pub record IsSearchable (system : System) (uplinks : Uplinks) (table : Kept) : Type 0 where
  pub good : Good system
  pub own : AreUplinksOf system uplinks
  pub of_system : IsTableOf system table
  pub tokens : HasFitTokens system table.marking
  pub ascending : IsStrictlyIncreasing (map (λ i. i.number) table.marking.instances)
  pub below : All (λ i. i.number < table.marking.next) table.marking.instances

-- the start by a transition of an instance
abbrev pub start_of : ℕ → ℕ → ℕ → Head
start_of number net t = record { path = []; inst = Old number; net = net; transition = t }

-- an instance is there
abbrev pub IsKept : Marking → Instance → Type 0
IsKept m i = instance_at m i.number ≡ Some i

-- an arc finds a token, and at an instance its place is empty
abbrev pub is_starved : Instance → NetArc → Bool
is_starved i x =
    finds_token x.kind && nat_eq (length (unwrap_or (slice_get i.places x.place) [])) 0

-- some arc of a transition
abbrev pub lacks_token : Instance → Transition → Bool
lacks_token i t = list_any (is_starved i) t.arcs

-- An arc puts a token into a place that has no room for it at an instance: no arc of its transition
-- there is flexible or clears it, and the place's tokens and all that such arcs put are more than
-- its capacity and all that is taken.
abbrev pub overfills : System → Instance → Transition → NetArc → Bool
overfills system i t x =
    puts_one x.kind && option_map_or (λ most. is_plain_at t x.place
    && nat_lt (most + takers_at t x.place)
    (length (unwrap_or (slice_get i.places x.place) []) + putters_at t x.place))
    (capacity system i.net x.place) false

-- a transition calls nothing, and some arc of it has no room
abbrev pub lacks_room : System → Instance → Transition → Bool
lacks_room system i t = nat_eq (length t.downlinks) 0 && list_any (overfills system i t) t.arcs

-- a firing may start by a transition of an instance, as far as the instance alone says
abbrev pub MayStartBy : System → Instance → ℕ → Type 0
MayStartBy system i t =
    ((transition_at system i.net t).uplink ≡ None)
    × (lacks_token i (transition_at system i.net t) ≡ false)
    × (lacks_room system i (transition_at system i.net t) ≡ false)

-- no enabled binding starts at a node
abbrev pub IsNoStart : System → Marking → ℕ → Head → Type 0
IsNoStart system m depth start = (b : Binding) → Enabled system m b depth → ¬ StartsAt b start

-- nor with an instance
abbrev pub IsNoStartIn : System → Marking → ℕ → ℕ → Type 0
IsNoStartIn system m depth number =
    (net t : ℕ) → IsNoStart system m depth (start_of number net t)

-- nor with an instance of a number between two that may start a firing
abbrev pub AreNoStartsBetween : System → Kept → ℕ → ℕ → ℕ → Type 0
AreNoStartsBetween system table depth from end = (k : ℕ) → from ≤ k → k < end →
    Contains table.starting k → IsNoStartIn system table.marking depth k

-- a binding starts with an instance
abbrev pub HasStartIn : ℕ → Binding → Type 0
HasStartIn number b = (net : ℕ) × (t : ℕ) × StartsAt b (start_of number net t)

-- Just the enabled bindings of which this holds, each once.
pub record AreJust (system : System) (m : Marking) (depth : ℕ) (Of : Binding → Type 0)
    (found : List Binding) : Type 0 where
  pub so : (b : Binding) → Contains found b → Enabled system m b depth × Of b
  pub all : (b : Binding) → Enabled system m b depth → Of b → Contains found b
  pub once : AllPairs (λ b c. b ≢ c) found

-- a list with just the enabled bindings more that start with an instance
abbrev pub IsMore : System → Marking → ℕ → ℕ → List Binding → List Binding → Type 0
IsMore system m depth number before after =
    (more : List Binding) × (after ≡ before ++ more)
    × AreJust system m depth (HasStartIn number) more

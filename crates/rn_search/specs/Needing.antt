-- What a start needs of the marking. Each is a law, the contract of a function that does nothing.
use Rattle.std.specs.Prelude.{ℕ, ◌≡◌, ◌<◌, ◌≤◌, ◌+◌, true, [], length, Some, Contains}
use Rattle.rn_value.specs.declared.value.InstRef.TheVariants.{Old}
use Rattle.rn_model.specs.declared.system.System.{System}
use Rattle.rn_model.specs.declared.system.NetArc.{NetArc}
use Rattle.rn_model.specs.declared.binding.Binding.{Binding}
use Rattle.rn_model.specs.Derivation.{finds_token}
use Rattle.rn_model.specs.Enabling.{Enabled}
use Rattle.rn_model.specs.Markings.{Marking, tokens}
use Rattle.rn_model.specs.RoomLaws.{takers_at, putters_at, is_plain_at}
use Rattle.rn_model.specs.Systems.{capacity}
use Rattle.rn_growing.specs.declared.decision.Head.{Head}
use Rattle.rn_growing.specs.Decisions.{transition_in}
use Rattle.rn_search.specs.Sought.{StartsAt}

-- Where an enabled binding starts, each place holds a token from which an in, test or reserve arc of
-- the start's transition comes.
abbrev pub StartsFindTokens : Type 0
StartsFindTokens = (system : System) (m : Marking) (b : Binding) (depth : ℕ) (start : Head)
    (x : NetArc) → Enabled system m b depth → StartsAt b start →
    Contains (transition_in system start).arcs x → finds_token x.kind ≡ true →
    0 < length (tokens m start.inst x.place)

-- Where an enabled binding starts by a transition that calls nothing, and whose arcs at a place
-- with a capacity are neither flexible nor clear, the tokens of the place and the arcs that put one
-- there are no more than the capacity and the arcs that take one from there.
abbrev pub StartsFindRoom : Type 0
StartsFindRoom = (system : System) (m : Marking) (b : Binding) (depth : ℕ) (start : Head)
    (n place most : ℕ) → Enabled system m b depth → StartsAt b start → start.inst ≡ Old n →
    (transition_in system start).downlinks ≡ [] →
    is_plain_at (transition_in system start) place ≡ true →
    capacity system start.net place ≡ Some most →
    length (tokens m start.inst place) + putters_at (transition_in system start) place
    ≤ most + takers_at (transition_in system start) place

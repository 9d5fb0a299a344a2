-- What capacities ask of a start that calls nothing. It is a law, the contract of a function that
-- does nothing.
use Rattle.std.specs.Prelude.{ℕ, Bool, ◌≡◌, ◌≤◌, ◌+◌, true, false, ◌&&◌, not, [], length, Some}
use Rattle.std.specs.Prelude.{count_by, nat_eq}
use Rattle.std.specs.List.{list_all}
use Rattle.rn_value.specs.declared.value.InstRef.TheVariants.{Old}
use Rattle.rn_model.specs.declared.system.System.{System}
use Rattle.rn_model.specs.declared.system.Transition.{Transition}
use Rattle.rn_model.specs.declared.system.ArcKind.{ArcKind}
use Rattle.rn_model.specs.declared.system.ArcKind.TheVariants.{Input, Output, Reserve}
use Rattle.rn_model.specs.declared.system.ArcKind.TheVariants.{FlexInput, FlexOutput, Clear}
use Rattle.rn_model.specs.declared.binding.Node.{Node}
use Rattle.rn_model.specs.declared.binding.Binding.{Binding}
use Rattle.rn_model.specs.Systems.{transition_of, capacity}
use Rattle.rn_model.specs.Bindings.{node_at}
use Rattle.rn_model.specs.Enabling.{Enabled}
use Rattle.rn_model.specs.Markings.{Marking, tokens}

-- whether an arc takes one token: `in` and `reserve`
abbrev pub takes_one : ArcKind → Bool
takes_one Input = true
takes_one Reserve = true
takes_one _ = false

-- whether an arc puts one token: `out` and `reserve`
abbrev pub puts_one : ArcKind → Bool
puts_one Output = true
puts_one Reserve = true
puts_one _ = false

-- whether an arc's inscription is the list of what it moves: flexible and clear arcs
abbrev pub moves_list : ArcKind → Bool
moves_list FlexInput = true
moves_list FlexOutput = true
moves_list Clear = true
moves_list _ = false

-- how many arcs of a transition take one token from a place
abbrev pub takers_at : Transition → ℕ → ℕ
takers_at t place = count_by (λ arc. nat_eq arc.place place && takes_one arc.kind) t.arcs

-- how many put one there
abbrev pub putters_at : Transition → ℕ → ℕ
putters_at t place = count_by (λ arc. nat_eq arc.place place && puts_one arc.kind) t.arcs

-- none of its arcs at the place is flexible or clears it
abbrev pub is_plain_at : Transition → ℕ → Bool
is_plain_at t place = list_all (λ arc. not (nat_eq arc.place place && moves_list arc.kind)) t.arcs

-- Where an enabled binding starts by a transition that calls nothing, and whose arcs at a place
-- with a capacity are plain, the place has room for what these put, after what they take: its
-- tokens and the putting arcs are no more than the capacity and the taking arcs.
abbrev pub StartsFindRoom : Type 0
StartsFindRoom = (system : System) (m : Marking) (b : Binding) (depth n place most : ℕ)
    (node : Node) → Enabled system m b depth → node_at b [] ≡ Some node → node.inst ≡ Old n →
    (transition_of system node).downlinks ≡ [] →
    is_plain_at (transition_of system node) place ≡ true →
    capacity system node.net place ≡ Some most →
    length (tokens m (Old n) place) + putters_at (transition_of system node) place
    ≤ most + takers_at (transition_of system node) place

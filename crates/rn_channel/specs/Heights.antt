-- How many levels of calls a transition needs below it.
use Rattle.std.specs.Prelude.{ℕ, zero, suc, ◌≡◌, ◌<◌, ◌-◌, Bool, true, false, Option, Some, None}
use Rattle.std.specs.Prelude.{◌&&◌, length, Contains, nat_lt}
use Rattle.std.specs.List.{list_any, list_all}
use Rattle.rn_model.specs.declared.system.System.{System}
use Rattle.rn_model.specs.declared.system.Net.{Net}
use Rattle.rn_model.specs.declared.system.Transition.{Transition}
use Rattle.rn_model.specs.declared.binding.Node.{Node}
use Rattle.rn_model.specs.declared.binding.Binding.{Binding}
use Rattle.rn_model.specs.Systems.{transition_of}
use Rattle.rn_model.specs.Bindings.{Shape}
use Rattle.rn_model.specs.Good.{Good}
use Rattle.rn_model.specs.Limits.{greatest_depth}
use Rattle.rn_channel.specs.Answering.{is_of}

-- whether each call of a transition goes to a channel that is answered
abbrev pub calls_answered : (ℕ → Bool) → Transition → Bool
calls_answered answered t = list_all (λ call. answered call.channel) t.downlinks

-- whether some transition of a net that passes the test has an uplink of the channel
abbrev pub net_answers : (Transition → Bool) → ℕ → Net → Bool
net_answers test channel net =
    list_any (λ t. is_of channel t.uplink && test t) net.transitions

-- Whether a call of one of the system's channels can be answered by a transition of some net below
-- which fewer levels of calls than this suffice.
abbrev pub is_answered : System → ℕ → ℕ → Bool
is_answered system zero channel = false
is_answered system (suc k) channel =
    nat_lt channel (length system.channels)
    && list_any (net_answers (calls_answered (is_answered system k)) channel) system.nets

-- Whether this many levels of calls suffice below a transition: each of its calls can be answered
-- by a transition for which fewer levels suffice. Below one without calls none is needed.
abbrev pub suffices : System → ℕ → Transition → Bool
suffices system k t = calls_answered (is_answered system k) t

-- the number is the least that suffices; of none it is known that no number up to the greatest depth
-- suffices
abbrev pub IsLeastHeight : System → Transition → Option ℕ → Type 0
IsLeastHeight system t None = (j : ℕ) → j < suc greatest_depth → suffices system j t ≡ false
IsLeastHeight system t (Some k) =
    (suffices system k t ≡ true) × ((j : ℕ) → j < k → suffices system j t ≡ false)

-- Below each node of a binding within a depth the levels that are left suffice for its transition.
abbrev pub CallsNeedLevels : Type 0
CallsNeedLevels = (system : System) (b : Binding) (depth : ℕ) (node : Node) → Good system →
    Shape system b depth → Contains b.nodes node →
    suffices system (depth - length node.path) (transition_of system node) ≡ true

-- what suffices still does with one level more
abbrev pub MoreLevelsSuffice : Type 0
MoreLevelsSuffice = (system : System) (k : ℕ) (t : Transition) → suffices system k t ≡ true →
    suffices system (suc k) t ≡ true

-- Which transitions of a net have an uplink of a channel.
use Rattle.std.specs.Prelude.{ℕ, suc, Bool, false, List, [], ◌∷◌, Option, Some, None, nat_eq}
use Rattle.std.specs.Prelude.{if◌then◌else◌}
use Rattle.rn_model.specs.declared.system.System.{System}
use Rattle.rn_model.specs.declared.system.Transition.{Transition}
use Rattle.rn_model.specs.declared.system.Uplink.{Uplink}
use Rattle.rn_model.specs.Systems.{net_at}

-- whether an uplink is of this channel
abbrev pub is_of : ℕ → Option Uplink → Bool
is_of channel None = false
is_of channel (Some uplink) = nat_eq uplink.channel channel

-- the numbers of the transitions with an uplink of the channel, ascending; the first transition
-- has the number k
abbrev pub answering_from : ℕ → ℕ → List Transition → List ℕ
answering_from channel k [] = []
answering_from channel k (t ∷ ts) =
    if is_of channel t.uplink then k ∷ answering_from channel (suc k) ts
    else answering_from channel (suc k) ts

-- the transitions of a net with an uplink of this channel, ascending
abbrev pub answering : System → ℕ → ℕ → List ℕ
answering system net channel = answering_from channel 0 (net_at system net).transitions

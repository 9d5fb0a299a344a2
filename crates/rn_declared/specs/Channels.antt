-- Channels: their numbers in the order of the text, and what is broken where they are declared.
use Rattle.std.specs.Prelude.{ℕ, ◌+◌, Bool, ◌&&◌, not, nat_eq, nat_le, List, [], ◌∷◌, ◌++◌, length, map}
use Rattle.std.specs.Prelude.{Option, Some, None, if◌then◌else◌}
use Rattle.std.specs.List.{list_any}
use Rattle.rn_net.specs.declared.plain.PChannel.{PChannel}
use Rattle.rn_model.specs.Limits.{longest_name}
use Rattle.rn_declared.specs.declared.fault.Rule.TheVariants as Rule
use Rattle.rn_declared.specs.declared.fault.Fault.{Fault}
use Rattle.rn_declared.specs.Faults.{broken_if}
use Rattle.rn_declared.specs.Names.{same_name}
use Rattle.rn_declared.specs.Declarations.{kind_part, parts_faults}

-- whether two channels are the same: by name and by number of arguments
abbrev pub same_channel : PChannel → List ℕ → ℕ → Bool
same_channel channel name count =
    same_name channel.name.text name && nat_eq (length channel.kinds) count

-- the number of the first channel of a name with so many arguments, of which the first has this one
abbrev pub channel_from : ℕ → List PChannel → List ℕ → ℕ → Option ℕ
channel_from n [] name count = None
channel_from n (channel ∷ channels) name count =
    if same_channel channel name count then Some n else channel_from (n + 1) channels name count

-- what is broken where a channel is declared after these: its name is short, no such channel was
-- declared, its kinds are good, and it hasn't too many arguments
abbrev pub channel_faults : List PChannel → PChannel → List Fault
channel_faults before channel =
    broken_if (not (nat_le (length channel.name.text) longest_name)) Rule.Limit channel.name.spot
    ++ broken_if (list_any (λ c. same_channel c channel.name.text (length channel.kinds)) before)
    Rule.Once channel.name.spot
    ++ parts_faults (map kind_part channel.kinds)

-- the same of each of these channels, which are declared after those
abbrev pub channels_faults : List PChannel → List PChannel → List Fault
channels_faults before [] = []
channels_faults before (channel ∷ channels) =
    channel_faults before channel ++ channels_faults (before ++ channel ∷ []) channels

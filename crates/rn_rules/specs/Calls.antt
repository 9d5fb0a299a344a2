-- Uplinks, downlinks and creations: what is broken in them.
use Rattle.std.specs.Prelude.{Bool, false, not, List, [], ◌∷◌, ◌++◌, Option, Some, None}
use Rattle.std.specs.Prelude.{flat_map}
use Rattle.rn_inscript.specs.declared.inscriptions.PName.{PName}
use Rattle.rn_declared.specs.declared.fault.Rule.TheVariants as Rule
use Rattle.rn_declared.specs.declared.fault.Fault.{Fault}
use Rattle.rn_declared.specs.declared.pattern.Pattern.{Pattern}
use Rattle.rn_declared.specs.Faults.{broken, broken_if}
use Rattle.rn_declared.specs.Patterns.{share}
use Rattle.rn_rules.specs.Expressions.{Where, Seen, misfit, variable_faults}

-- each argument has the kind of the channel's at its index
abbrev pub misfits : List Seen → List Pattern → List Fault
misfits (e ∷ es) (pattern ∷ patterns) = misfit e pattern ++ misfits es patterns
misfits _ _ = []

-- there is the channel, where these are the patterns of its arguments if so, and they fit
abbrev pub channel_call_faults : Option (List Pattern) → PName → List Seen → List Fault
channel_call_faults None name args = broken Rule.Channel name.spot ∷ []
channel_call_faults (Some patterns) name args = misfits args patterns

-- what is broken in a call of a channel, where these are the patterns of its arguments if there is
-- such a channel
unfoldable pub call_faults : Option (List Pattern) → PName → List Seen → List Fault
call_faults patterns name args =
    flat_map (λ e. e.faults) args ++ channel_call_faults patterns name args

-- the target of a downlink is a net
unfoldable pub target_faults : Seen → List Fault
target_faults target = target.faults ++ misfit target Pattern.Net

-- whether a pattern is there and isn't that of nets
abbrev pub is_no_net : Option Pattern → Bool
is_no_net None = false
is_no_net (Some pattern) = not (share pattern Pattern.Net)

-- what is broken in a creation, where its net is declared or not: its variable stands for a net
abbrev pub creation_faults : Where → PName → PName → Bool → List Fault
creation_faults at var net declared =
    variable_faults at var.text var.spot
    ++ broken_if (is_no_net (at.pattern_of_var var.text)) Rule.Creation var.spot
    ++ broken_if (not declared) Rule.Known net.spot

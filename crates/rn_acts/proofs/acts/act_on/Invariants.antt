use Rattle.std.proofs.Common.{◌≡◌, drop}
use Rattle.std.specs.Prelude.{option_map}
use Rattle.rn_model.specs.Firing.{all_effects}
use Rattle.rn_acts.specs.link.Acted.{nothing, with_effects}
use Rattle.rn_acts.proofs.acts.act_on.Given as goal

abbrev pub invariant-loop-node : goal.invariant-loop-node
invariant-loop-node l =
    option_map (with_effects l.system l.acted)
    (all_effects l.system l.step (drop l.node-index l.nodes))
    ≡ option_map (with_effects l.system nothing) (all_effects l.system l.step l.nodes)

use Rattle.std.proofs.Common.{◌≡◌, take, map}
use Rattle.std.specs.Prelude.{flat_map}
use Rattle.rn_model.specs.Firing.{made_by}
use Rattle.rn_model.specs.Numbers.{key_of}
use Rattle.rn_model.proofs.numbers.creations_of.Given as goal

abbrev pub invariant-loop-node : goal.invariant-loop-node
invariant-loop-node l = l.made.items ≡ map key_of (flat_map (made_by l.system) (take l.node-index l.nodes))

use Rattle.std.proofs.Common.{◌≡◌, take}
use Rattle.rn_value.specs.declared.value.InstRef.TheVariants.{Old}
use Rattle.rn_fire.specs.link.Changed.{Gets, OneHas}
use Rattle.rn_fire.proofs.changed.put_binding.Given as goal

abbrev pub invariant-loop-node : goal.invariant-loop-node
invariant-loop-node l = Gets (OneHas (λ node n. node.inst ≡ Old n) (take l.node-index l.node-items)) l.initial.changed.items l.changed.items

use Rattle.std.proofs.Common.{◌≡◌, ◌∙◌, subst, arith}
use Rattle.std.proofs.lemmas.List.{take_all}
use Rattle.rn_value.specs.declared.value.InstRef.TheVariants.{Old}
use Rattle.rn_fire.specs.link.Changed.{Gets, OneHas}
use Rattle.rn_fire.proofs.ChangedLemmas.{none_yet, one_more}
use Rattle.rn_fire.proofs.changed.put_binding.Goals as goal

pub loop-node-init : goal.loop-node-init
loop-node-init c =
    none_yet (λ node n. node.inst ≡ Old n) c.as_slice-node-items.result.now c.args.changed.now.items

pub loop-node-preserved : goal.loop-node-preserved
loop-node-preserved c =
    one_more (λ node n. node.inst ≡ Old n) c.as_slice-node-items.result.now c.loop-node.node-index
    c.node-item.result c.args.changed.now.items c.loop-node.changed.items
    c.put_node.new.changed.items c.loop-node-test.true c.node-item.is c.loop-node.invariant
    c.in_ok-put_node.ensures

pub returns : goal.returns
returns c =
    subst
    (λ nodes. Gets (OneHas (λ node n. node.inst ≡ Old n) nodes) c.args.changed.now.items
    c.loop-node.changed.items)
    (take_all c.loop-node.node-index c.as_slice-node-items.result.now
    (omega (arith, c.loop-node-test.false))
    ∙ c.as_slice-node-items.ensures)
    c.loop-node.invariant

use Rattle.std.proofs.Common.{◌+◌, sym, subst}
use Rattle.rn_fire.specs.link.Changed.{Gets}
use Rattle.rn_fire.proofs.ChangedLemmas.{Between, all_between, next_between, none_between}
use Rattle.rn_fire.proofs.changed.put_numbers.Goals as goal

pub loop-number-init : goal.loop-number-init
loop-number-init c = none_between c.args.from c.args.end c.args.changed.now.items

pub loop-number-preserved : goal.loop-number-preserved
loop-number-preserved c =
    subst
    (Gets (Between c.args.from (c.loop-number.number + 1) c.args.end) c.args.changed.now.items)
    (sym c.in_ok-push.ensures.items)
    (next_between c.args.from c.loop-number.number c.args.end c.args.changed.now.items
    c.loop-number.changed.items c.loop-number.auto.number c.loop-number-test.true
    c.loop-number.invariant)

pub returns : goal.returns
returns c =
    all_between c.args.from c.loop-number.number c.args.end c.args.changed.now.items
    c.loop-number.changed.items c.loop-number-test.false c.loop-number.invariant

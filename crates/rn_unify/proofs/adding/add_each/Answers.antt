use Rattle.std.proofs.Common.{rules}
use Rattle.rn_unify.specs.declared.equation.Other.TheVariants as O
use Rattle.rn_unify.specs.link.Equations.{IsOther}
use Rattle.rn_unify.proofs.Blocks.{value_added, all_added}
use Rattle.rn_unify.proofs.adding.add_each.Goals as goal

pub loop-value-preserved : goal.loop-value-preserved
loop-value-preserved c =
    let inv = c.loop-value.invariant in
    let both = value_added c.args.store.now c.loop-value.store c.add.new.self
    (IsOther (O.Values c.args.values.items)) c.loop-value.ids.items c.push.new.self.items
    c.loop-value.left.items c.pop.new.self.items c.in-Some.value c.in_ok-add.field-0 inv.turned
    inv.within (rw c.in-Some.is at c.pop.ensures.items) (search rules) (search rules)
    (search rules) in
    record { within = both.0; turned = both.1 }

pub returns-clause-added : goal.returns-clause-added
returns-clause-added c =
    all_added c.args.store.now c.loop-value.store (IsOther (O.Values c.args.values.items))
    c.loop-value.ids.items c.loop-value.left.items (search rules) c.loop-value.invariant.turned

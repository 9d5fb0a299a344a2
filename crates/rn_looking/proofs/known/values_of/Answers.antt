-- Variable by variable.
use Rattle.std.proofs.Common.{get_or, refl}
use Rattle.rn_looking.proofs.KnownValues.{pair_more}
use Rattle.rn_looking.proofs.known.values_of.Goals as goal

pub loop-x-preserved : goal.loop-x-preserved
loop-x-preserved c =
    pair_more c.args.growing.now c.args.path.now c.args.vars.now c.loop-x.x-index
    (get_or c.args.vars.now c.loop-x.x-index 0) c.in-Some.value c.loop-x.pairs.items
    c.push.new.self.items c.loop-x-test.true refl c.in_ok-push.ensures.items c.loop-x.invariant
    ((c.in_ok-value.ensures c.in-Some.value).0 c.in-Some.is)

pub returns-in_default : goal.returns-in_default
returns-in_default c all =
    let forced = all c.loop-x.x-index 0 c.loop-x-test.true in
    let told = (c.in_ok-value.ensures forced.0).1 forced.1 in
    let no : ⊥ = cc in no

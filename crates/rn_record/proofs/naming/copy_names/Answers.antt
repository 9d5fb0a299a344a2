use Rattle.std.proofs.Common.{◌<◌, subst}
use Rattle.rn_record.proofs.NamesInOrder.{next_name}
use Rattle.rn_record.proofs.naming.copy_names.Goals as goal

pub loop-k-preserved : goal.loop-k-preserved
loop-k-preserved c =
    let below = subst (λ n. c.loop-k.k < n) c.len-k-end.ensures c.loop-k-test.true in
    next_name c.args.names.now c.loop-k.copied c.push_copy.new.copied c.args.names.now c.loop-k.k below c.in_ok-push_copy.ensures c.loop-k.invariant

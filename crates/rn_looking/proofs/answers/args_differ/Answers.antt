-- Argument by argument.
use Rattle.std.proofs.Common.{arith}
use Rattle.rn_growing.proofs.Growth.{stands_at}
use Rattle.rn_looking.proofs.KindedAnswers.{puts_more}
use Rattle.rn_looking.proofs.answers.args_differ.Goals as goal

pub returns-then-branch : goal.returns-then-branch
returns-then-branch c =
    puts_more c.args.args.now c.args.values.now c.loop-k.k c.index-args-k.result
    c.index-values-k.result c.args.pairs.now.items c.loop-k.pairs.items
    c.arg_differs.new.pairs.items
    (stands_at c.args.args.now c.loop-k.k c.index-args-k.result (omega arith) c.index-args-k.is)
    (stands_at c.args.values.now c.loop-k.k c.index-values-k.result (omega arith)
    c.index-values-k.is)
    c.loop-k.invariant c.in_ok-arg_differs.ensures

pub loop-k-preserved : goal.loop-k-preserved
loop-k-preserved c =
    puts_more c.args.args.now c.args.values.now c.loop-k.k c.index-args-k.result
    c.index-values-k.result c.args.pairs.now.items c.loop-k.pairs.items
    c.arg_differs.new.pairs.items
    (stands_at c.args.args.now c.loop-k.k c.index-args-k.result (omega arith) c.index-args-k.is)
    (stands_at c.args.values.now c.loop-k.k c.index-values-k.result (omega arith)
    c.index-values-k.is)
    c.loop-k.invariant c.in_ok-arg_differs.ensures

use Rattle.std.proofs.Common.{◌+◌, ◌/◌, length, ap, ◌∙◌, length-set, arith}
use Rattle.rn_spell.proofs.MadeCounts.{made_between, made_between_most, made_before_most, next_place, marked_more}
use Rattle.rn_spell.proofs.marks.Marks.of.Goals as goal

pub count_made-before-requires : goal.count_made-before-requires
count_made-before-requires c =
    let most = made_between_most c.args.system.now c.args.nodes.now c.loop-k.place (c.loop-k.place + c.min.result) (omega arith) in
    omega (arith, most, c.requires)

pub overflow_add-before : goal.overflow_add-before
overflow_add-before c =
    let all = made_between c.args.system.now c.args.nodes.now c.loop-k.place (c.loop-k.place + c.min.result) (omega arith) in
    let most = made_before_most c.args.system.now c.args.nodes.now (c.loop-k.place + c.min.result) in
    omega (arith, all, most, c.requires, c.loop-k.invariant.before, c.count_made-before.ensures)

pub loop-k-preserved : goal.loop-k-preserved
loop-k-preserved c =
    let step = length c.args.nodes.now / 64 + 1 in
    let all = made_between c.args.system.now c.args.nodes.now c.loop-k.place (c.loop-k.place + c.min.result) (omega arith) in
    record {
      here = ap (λ n. c.loop-k.place + n) c.min.ensures ∙ next_place c.loop-k.k step (length c.args.nodes.now) c.loop-k.place c.loop-k.invariant.here;
      before = omega (arith, all, c.loop-k.invariant.before, c.count_made-before.ensures);
      long = length-set c.loop-k.counts c.loop-k.k c.loop-k.before ∙ c.loop-k.invariant.long;
      marks = marked_more c.args.system.now c.args.nodes.now step c.loop-k.k c.loop-k.before c.loop-k.place c.loop-k.counts
          (omega (arith, c.loop-k-test.true, c.loop-k.invariant.long)) c.loop-k.invariant.here c.loop-k.invariant.before c.loop-k.invariant.marks;
    }

pub returns : goal.returns
returns c k below = c.loop-k.invariant.marks k (omega (arith, below, c.loop-k.invariant.long, c.loop-k-test.false))

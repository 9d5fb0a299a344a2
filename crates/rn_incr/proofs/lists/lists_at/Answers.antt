use Rattle.std.proofs.Common.{◌++◌, ◌∷◌, [], ap, ◌∙◌, arith}
use Rattle.rn_incr.specs.Lists.{IsListOf}
use Rattle.rn_incr.proofs.ListedLemmas.{one_listed, all_listed}
use Rattle.rn_incr.proofs.PlaceLemmas.{none_past}
use Rattle.rn_incr.proofs.lists.lists_at.Goals as goal

pub loop-number-preserved : goal.loop-number-preserved
loop-number-preserved c =
    let system = c.args.system.now in
    let m = c.args.table.now.marking in
    let lists = c.loop-number.lists.items in
    let list = c.in_ok-list.list.items in
    one_listed (IsListOf system m c.args.depth) lists c.push.new.self.items list
    c.loop-number.number c.loop-number.invariant.0 c.loop-number.invariant.1
    (record { just = c.in_ok-list.ensures.just; ascending = c.in_ok-list.ensures.ascending })
    (c.in_ok-push.ensures.items ∙ ap (λ x. lists ++ x ∷ []) c.from_vec.ensures)

pub returns : goal.returns
returns c =
    let system = c.args.system.now in
    let m = c.args.table.now.marking in
    all_listed (IsListOf system m c.args.depth) c.loop-number.lists.items c.loop-number.number
    c.loop-number.invariant.0 c.loop-number.invariant.1
    (λ n past. none_past system m c.args.depth c.next.result n c.next.ensures.below
    (omega (arith, past, c.loop-number-test.false)))

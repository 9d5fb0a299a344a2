use Rattle.std.proofs.Common.{◌≡◌, ◌≤◌, ◌<◌, ◌*◌, ◌+◌, length, take, drop, arith}
use Rattle.rn_bag.specs.Cuts.{AllBefore, NoneBefore}
use Rattle.rn_bag.specs.link.SlotIndices.{tokens_before}
use Rattle.rn_bag.proofs.BagLemmas.{cut_found, cut_count, bag_ascends}
use Rattle.rn_bag.proofs.bag.Bag.cut_at.Goals as goal

count : (c : goal.After-rank) → (c.before-2.result + c.rank.result ≡ length (tokens_before c.self.inside.chunks c.seek-at.result.chunk c.seek-at.result.slot)) × (c.before-2.result ≤ 64 * c.seek-at.result.chunk)
count c =
    let inside : c.seek-at.result.chunk < length c.self.inside.chunks = omega arith in
    cut_count c.self.inside.chunks c.seek-at.result.chunk c.seek-at.result.slot c.before-2.result c.rank.result c.at-chunk.result c.self.invariant.counted inside c.at-chunk.ensures.chunk c.before-2.ensures c.rank.ensures.rank

found : (c : goal.After-rank) → (c.before-2.result + c.rank.result ≤ length c.args.self.now) × AllBefore c.args.cut c.args.key.now (take (c.before-2.result + c.rank.result) c.args.self.now) × NoneBefore c.args.cut c.args.key.now (drop (c.before-2.result + c.rank.result) c.args.self.now)
found c =
    cut_found c.args.cut c.args.key.now c.self.inside.chunks c.args.self.now c.seek-at.result.chunk c.seek-at.result.slot (c.before-2.result + c.rank.result) c.self.view_is
    c.seek-at.ensures.before
    c.seek-at.ensures.rest
    (count c).0

pub overflow_add-result : goal.overflow_add-result
overflow_add-result c = omega (arith, (count c).1, c.rank.ensures.bound)

pub returns-clause-bound : goal.returns-clause-bound
returns-clause-bound c = (found c).0

pub returns-clause-before : goal.returns-clause-before
returns-clause-before c = (found c).1

pub returns-clause-rest : goal.returns-clause-rest
returns-clause-rest c = (found c).2

pub returns-clause-ascend : goal.returns-clause-ascend
returns-clause-ascend c = bag_ascends c.self.inside.chunks c.args.self.now c.self.view_is c.self.invariant.ascend

use Rattle.std.proofs.Common.{◌≡◌, ◌≤◌, ◌*◌, ◌+◌, ◌-◌, length, take, sym, subst, arith}
use Rattle.rn_bag.specs.link.Chunks.{AreCounted, tokens_in, tokens_in_chunk}
use Rattle.rn_bag.proofs.CountLemmas.{count_of_prefix}
use Rattle.rn_bag.proofs.EditLemmas.{read_at}
use Rattle.rn_bag.proofs.counting.count_before.Goals as goal

counts : (c : goal.After-count) → (c.before-2.result + c.count.result ≡ length (tokens_in (take c.args.index c.args.chunks.now))) × (c.before-2.result ≤ 64 * (c.args.index - 1))
counts c =
    let r = read_at c.args.chunks.now (c.args.index - 1) (omega arith) in
    let last : c.args.index ≡ c.args.index - 1 + 1 = omega arith in
    let before : c.before-2.result ≡ r.0.before = c.before-2.ensures r.0 r.1 in
    let count : c.count.result ≡ length (tokens_in_chunk r.0) = c.count.ensures.count r.0 r.1 in
    let both = count_of_prefix c.args.chunks.now (c.args.index - 1) r.0 (subst (λ k. AreCounted 0 0 (take k c.args.chunks.now)) last c.requires.counted) (omega arith) r.1 (omega (arith, count, c.count.ensures.bound)) in
    let sum : r.0.before + length (tokens_in_chunk r.0) ≡ length (tokens_in (take c.args.index c.args.chunks.now)) = subst (λ k. r.0.before + length (tokens_in_chunk r.0) ≡ length (tokens_in (take k c.args.chunks.now))) (sym last) both.0 in
    (omega (arith, sum, before, count), omega (arith, both.1, before))

pub overflow_add-result : goal.overflow_add-result
overflow_add-result c = omega (arith, (counts c).1, c.count.ensures.bound, c.count.ensures.small)

pub returns-clause-count : goal.returns-clause-count
returns-clause-count c = (counts c).0

pub returns-clause-bound : goal.returns-clause-bound
returns-clause-bound c = omega (arith, (counts c).1, c.count.ensures.bound)

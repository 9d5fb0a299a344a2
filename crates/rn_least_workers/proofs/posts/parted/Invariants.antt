use Rattle.std.proofs.Common.{◌≡◌, ◌+◌, ◌≤◌, ◌++◌, length, map}
use Rattle.std.specs.Prelude.{vec_capacity}
use Rattle.rn_least_workers.proofs.posts.parted.Given as goal

abbrev pub invariant-loop-rest : goal.invariant-loop-rest
invariant-loop-rest l =
    (l.passes.items ++ map (λ p. p.pass) l.rest.items ≡ map (λ p. p.pass) l.fn.posts.items)
    × (l.tallies.items ++ map (λ p. p.tally) l.rest.items ≡ map (λ p. p.tally) l.fn.posts.items)
    × (length l.passes.items + length l.rest.items ≡ length l.fn.posts.items)
    × (length l.tallies.items ≡ length l.passes.items)
    × (length l.fn.posts.items ≤ vec_capacity l.passes)
    × (length l.fn.posts.items ≤ vec_capacity l.tallies)

abbrev pub decreases-loop-rest : goal.decreases-loop-rest
decreases-loop-rest l = length l.rest.items

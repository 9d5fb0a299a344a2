use Rattle.std.proofs.Common.{◌≡◌, ℕ, ◌+◌, ◌<◌, ◌≤◌, length, get_or}
use Rattle.std.specs.Prelude.{vec_capacity}
use Rattle.rn_model.specs.declared.log.Entry.{Entry}
use Rattle.rn_desk.specs.declared.desk.Pass.{Pass}
use Rattle.rn_desk.specs.Numbered.{EachAt}
use Rattle.rn_desk.specs.Passes.{IsFresh}
use Rattle.rn_fire.specs.declared.setup.Setup.{Setup}
use Rattle.rn_fire.specs.States.{State}
use Rattle.rn_least_workers.specs.link.LeastPosts.{IsAtWork}
use Rattle.rn_least_workers.proofs.posts.posts_of.Given as goal

abbrev pub invariant-loop-rest : goal.invariant-loop-rest
invariant-loop-rest l =
    (length l.posts.items ≡ l.worker)
    × (l.worker + length l.rest.items ≡ length l.fn.passes.items)
    × ((k : ℕ) (p : Pass State Entry Setup) → k < length l.rest.items →
    IsFresh (λ s. s.setup) l.desk ((k + l.worker) + 1) (get_or l.rest.items k p))
    × EachAt (IsAtWork l.desk) l.posts.items
    × (length l.fn.passes.items ≤ vec_capacity l.posts)

abbrev pub decreases-loop-rest : goal.decreases-loop-rest
decreases-loop-rest l = length l.rest.items

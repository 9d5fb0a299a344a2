use Rattle.std.specs.Prelude.{MatchOption, slice_get}
use Rattle.std.proofs.Common.{◌≡◌, ◌-◌, ◌<◌, subst, rules}
use Rattle.rn_parted.proofs.WalkLemmas.{settled_before}
use Rattle.rn_parted.proofs.walking.settle_next.Goals as goal

pub returns-then-is_at-clause-come : goal.returns-then-is_at-clause-come
returns-then-is_at-clause-come c other before stay come =
    let some : 0 < c.args.cursor = search rules in
    settled_before c.args.walk.site.marked.system.now other
    c.args.walk.site.marked.table.now.marking c.args.walk.site.marked.depth
    c.args.walk.site.instance c.args.walk.site.place
    c.args.cursor before c.args.shares.now.items c.args.token.now some
    (subst (λ zs. MatchOption (slice_get zs (c.args.cursor - 1)) ⊥ (λ s. s.token ≡ c.args.token.now))
    c.as_slice.ensures.value (c.is_at.ensures c.if-is_at.true)) come

pub returns-clause-come : goal.returns-clause-come
returns-clause-come c other before stay come = c.in_ok-settle.ensures.come other before stay come

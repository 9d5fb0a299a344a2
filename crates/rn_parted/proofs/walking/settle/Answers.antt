use Rattle.std.specs.Prelude.{MatchOption, slice_get}
use Rattle.std.specs.List.{insert}
use Rattle.std.proofs.Common.{◌≡◌, ◌+◌, ◌≤◌, length, add-one, subst, sym}
use Rattle.rn_parted.proofs.CutLemmas.{inserted_long}
use Rattle.rn_parted.proofs.WalkLemmas.{kept_long, settled_kept, settled_made}
use Rattle.rn_parted.proofs.walking.settle.Goals as goal

pub returns-then-is_at-clause-within : goal.returns-then-is_at-clause-within
returns-then-is_at-clause-within c =
    kept_long c.args.cursor c.drop_stale.new.shares.items c.args.token.now
    (subst (λ zs. MatchOption (slice_get zs c.args.cursor) ⊥ (λ s. s.token ≡ c.args.token.now))
    c.as_slice.ensures.value (c.is_at.ensures c.if-is_at.true))

pub returns-then-is_at-clause-come : goal.returns-then-is_at-clause-come
returns-then-is_at-clause-come c other before stay come =
    settled_kept c.args.walk.site.marked.system.now other
    c.args.walk.site.marked.table.now.marking c.args.walk.site.marked.depth
    c.args.walk.site.instance c.args.walk.site.place
    c.args.walk.found.now.keys c.args.cursor before c.args.shares.now.items
    c.drop_stale.new.shares.items c.args.token.now c.drop_stale.ensures.before
    c.drop_stale.ensures.ahead c.drop_stale.ensures.fresh (subst (λ zs. MatchOption (slice_get zs c.args.cursor) ⊥ (λ s. s.token ≡ c.args.token.now))
    c.as_slice.ensures.value (c.is_at.ensures c.if-is_at.true))
    c.requires.there stay come

pub returns-clause-within : goal.returns-clause-within
returns-clause-within c =
    let ys = c.drop_stale.new.shares.items in
    let k = c.args.cursor in
    let low : k ≤ length ys = c.drop_stale.ensures.long c.requires.within in
    subst (λ zs. k + 1 ≤ length zs) (sym c.in_ok-insert.ensures.items)
    (subst (λ j. j ≤ length (insert ys k c.in_ok-share.share)) (sym (add-one k))
    (inserted_long ys k c.in_ok-share.share low))

pub returns-clause-come : goal.returns-clause-come
returns-clause-come c other before stay come =
    let low : c.args.cursor ≤ length c.drop_stale.new.shares.items =
    c.drop_stale.ensures.long c.requires.within in
    settled_made c.args.walk.site.marked.system.now other
    c.args.walk.site.marked.table.now.marking c.args.walk.site.marked.depth
    c.args.walk.site.instance c.args.walk.site.place
    c.args.cursor before c.args.shares.now.items c.drop_stale.new.shares.items
    c.insert.new.self.items c.args.token.now c.in_ok-share.share c.drop_stale.ensures.before
    c.drop_stale.ensures.ahead low c.in_ok-insert.ensures.items c.in_ok-share.ensures.share
    c.in_ok-share.ensures.token c.requires.there come

use Rattle.std.proofs.Common.{◌≡◌, ◌<◌, ◌≤◌, false, length, take, drop, sym, ap, ◌∙◌, subst, rules}
use Rattle.std.specs.Prelude.{Contains, IfSome, slice_get}
use Rattle.std.proofs.lemmas.Option.{slice_get_past}
use Rattle.rn_parted.specs.link.Walks.{Avoids}
use Rattle.rn_parted.proofs.CutLemmas.{past_more, removed_drop, removed_long, removed_take}
use Rattle.rn_parted.proofs.walking.drop_stale.Goals as goal

pub stale-preserved : goal.stale-preserved
stale-preserved c =
    let xs = c.stale.shares.items in
    let k = c.args.cursor in
    let low : k < length xs = search rules in
    let is = c.remove-gone.ensures.items in
    record {
      before = ap (take k) is ∙ removed_take xs k low ∙ c.stale.invariant.before;
      ahead = λ s has. c.stale.invariant.ahead s (past_more xs k s
          (subst (λ zs. Contains zs s) (ap (drop k) is ∙ removed_drop xs k low) has));
      long = λ h. subst (λ zs. k ≤ length zs) (sym is) (removed_long xs k low);
    }

pub stale-preserved-else-not-is_stale_at : goal.stale-preserved-else-not-is_stale_at
stale-preserved-else-not-is_stale_at c =
    let xs = c.stale.shares.items in
    let k = c.args.cursor in
    let low : k < length xs = search rules in
    let is = c.remove-gone.ensures.items in
    record {
      before = ap (take k) is ∙ removed_take xs k low ∙ c.stale.invariant.before;
      ahead = λ s has. c.stale.invariant.ahead s (past_more xs k s
          (subst (λ zs. Contains zs s) (ap (drop k) is ∙ removed_drop xs k low) has));
      long = λ h. subst (λ zs. k ≤ length zs) (sym is) (removed_long xs k low);
    }

pub returns-then-not-is_stale_at-clause-fresh : goal.returns-then-not-is_stale_at-clause-fresh
returns-then-not-is_stale_at-clause-fresh c =
    let xs = c.stale.shares.items in
    let k = c.args.cursor in
    let not : c.is_stale_at.result ≡ false = search rules in
    subst (λ ys. IfSome (slice_get ys k) (λ s. s.token ≡ c.args.token.now →
    Avoids c.args.walk.found.now.keys c.args.walk.site.instance s.token))
    c.as_slice.ensures.value (c.is_stale_at.ensures not)

pub returns-clause-fresh : goal.returns-clause-fresh
returns-clause-fresh c =
    let xs = c.stale.shares.items in
    let k = c.args.cursor in
    let end : length xs ≤ k = search rules in
    subst (λ o. IfSome o (λ s. s.token ≡ c.args.token.now →
    Avoids c.args.walk.found.now.keys c.args.walk.site.instance s.token))
    (sym (slice_get_past xs k end)) tt

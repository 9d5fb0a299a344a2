use Rattle.std.proofs.Common.{◌≢◌, ℕ, [], get_or, sym, subst, ◌∙◌}
use Rattle.std.specs.Prelude.{AllPairs, Contains}
use Rattle.std.proofs.lemmas.Bool.Decides.{Decides-eqb}
use Rattle.std.proofs.lemmas.Map.Made.{AllPairs-from_IsDistinct}
use Rattle.rn_incr.specs.Lists.{IsListOf, IsTouched, MayStartIn}
use Rattle.rn_holders.proofs.NearMentions.{kinds_near}
use Rattle.rn_incr.proofs.PlaceLemmas.{none_past}
use Rattle.rn_incr.proofs.PutLemmas.{all_put}
use Rattle.rn_incr.proofs.RefreshLemmas.{list_stays, number_as}
use Rattle.rn_incr.proofs.refreshing.remake.Goals as goal

pub reaching-requires-clause-near : goal.reaching-requires-clause-near
reaching-requires-clause-near c =
    kinds_near c.args.system.now c.args.table.now.marking c.requires.good
    (λ h net place v of has. (c.requires.tokens h net place v of has).0)

pub count_starting-count-requires : goal.count_starting-count-requires
count_starting-count-requires c =
    subst (AllPairs (λ (m n : ℕ). m ≢ n)) (sym c.as_slice-numbers.ensures.keys)
    (AllPairs-from_IsDistinct Decides-eqb c.in_ok-touched.touched.keys c.in_ok-touched.ensures.once)

pub returns-clause-lists : goal.returns-clause-lists
returns-clause-lists c m differ are =
    let system = c.args.system.now in
    let other = c.args.table.now.marking in
    let changed = c.args.changed.now in
    let depth = c.args.depth in
    let before = c.args.kept.now in
    all_put (IsListOf system other depth) c.next-end.result c.in_ok-fresh.fresh.items before
    c.put.new.self
    c.in_ok-put.ensures.put c.in_ok-fresh.ensures.lists
    (λ n not. list_stays system m other changed depth differ n (get_or before n [])
    (λ reaches. not (subst (λ xs. Contains xs n)
    (sym (c.in_ok-fresh.ensures.numbers ∙ c.as_slice-numbers.ensures.keys))
    ((c.in_ok-touched.ensures.just n).1 reaches)))
    (are n))
    (λ n past. none_past system other depth c.next-end.result n c.next-end.ensures.below past)

pub returns-clause-number : goal.returns-clause-number
returns-clause-number c =
    let system = c.args.system.now in
    let other = c.args.table.now.marking in
    let changed = c.args.changed.now in
    number_as
    (λ n. MayStartIn system other n × Contains c.as_slice-numbers.result.now n)
    (IsTouched system other changed) c.count_starting-count.result
    (λ n. (
      λ has. (
        has.0,
        (c.in_ok-touched.ensures.just n).0
            (subst (λ xs. Contains xs n) c.as_slice-numbers.ensures.keys has.1),
      ),
      λ its. (
        its.0,
        subst (λ xs. Contains xs n) (sym c.as_slice-numbers.ensures.keys)
            ((c.in_ok-touched.ensures.just n).1 its.1),
      ),
    ))
    c.count_starting-count.ensures

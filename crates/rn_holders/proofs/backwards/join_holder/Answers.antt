use Rattle.std.proofs.Common.{◌≡◌, ℕ, true, sym, subst, ◌∙◌}
use Rattle.std.specs.Prelude.{Contains, nat_eq}
use Rattle.std.specs.List.{list_any}
use Rattle.rn_reach.specs.Reach.{RefersTo}
use Rattle.rn_holders.proofs.ReachingLemmas.{contained, joins_as, joins_nothing}
use Rattle.rn_holders.proofs.backwards.join_holder.Goals as goal

pub returns-then-contains : goal.returns-then-contains
returns-then-contains c =
    let keys = c.args.found.now.keys in
    let is : list_any (nat_eq c.args.holder) keys ≡ true =
    sym c.contains.ensures ∙ c.if-contains.true in
    joins_nothing
    (λ n. (n ≡ c.args.holder) × RefersTo c.args.table.now.marking n c.args.number) keys
    (λ n has. subst (Contains keys) (sym has.0) (contained keys c.args.holder is))

pub returns-in_ok-join : goal.returns-in_ok-join
returns-in_ok-join c =
    let m = c.args.table.now.marking in
    joins_as (λ (n : ℕ). n ≡ c.args.holder)
    (λ n. (n ≡ c.args.holder) × RefersTo m n c.args.number)
    (λ n same. (
      same,
      subst (λ k. RefersTo m k c.args.number) (sym same)
          (c.in_ok-refers.ensures.0 c.if-branch.true),
    ))
    (λ n has. has.0)
    c.in_ok-join.ensures

pub returns-else-branch : goal.returns-else-branch
returns-else-branch c =
    let m = c.args.table.now.marking in
    let not = c.if-branch.false in
    joins_nothing (λ n. (n ≡ c.args.holder) × RefersTo m n c.args.number) c.args.found.now.keys
    (λ n has.
    let yes = c.in_ok-refers.ensures.1 (subst (λ k. RefersTo m k c.args.number) has.0 has.1) in
    let no : ⊥ = cc in
    absurd no)

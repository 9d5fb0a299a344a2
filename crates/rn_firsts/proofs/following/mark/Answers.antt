use Rattle.std.proofs.Common.{◌<◌, ℕ, sym, subst, arith}
use Rattle.std.specs.Prelude.{All, Contains}
use Rattle.std.specs.Ordering.{nat_cmp}
use Rattle.std.proofs.lemmas.Map.Views.{All-insert_key}
use Rattle.rn_firsts.proofs.Numbers.{insert_has, insert_keeps}
use Rattle.rn_firsts.proofs.following.mark.Goals as goal

pub returns-then-number-until-clause-come : goal.returns-then-number-until-clause-come
returns-then-number-until-clause-come c below = absurd (omega (arith, c.if-number-until.true))

pub returns-clause-stay : goal.returns-clause-stay
returns-clause-stay c n has =
    subst (λ ks. Contains ks n) (sym c.in_ok-insert.ensures.keys)
    (insert_keeps c.args.again.now.keys c.args.number n has)

pub returns-clause-come : goal.returns-clause-come
returns-clause-come c low =
    subst (λ ks. Contains ks c.args.number) (sym c.in_ok-insert.ensures.keys)
    (insert_has c.args.again.now.keys c.args.number)

pub returns-clause-below : goal.returns-clause-below
returns-clause-below c all =
    subst (All (λ (n : ℕ). n < c.args.until)) (sym c.in_ok-insert.ensures.keys)
    (All-insert_key nat_cmp c.args.number (λ n. n < c.args.until) c.args.again.now.keys all
    (omega (arith, c.if-number-until.false)))

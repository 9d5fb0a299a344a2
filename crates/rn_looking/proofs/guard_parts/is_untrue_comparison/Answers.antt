-- By the values of its sides.
use Rattle.std.proofs.Common.{◌≡◌, true, false, not, refl, subst, inl}
use Rattle.std.specs.Prelude.{IfSome}
use Rattle.rn_looking.specs.Forced.{IsKnownWorth}
use Rattle.rn_looking.proofs.guard_parts.is_untrue_comparison.Goals as goal

pub returns : goal.returns
returns c untrue = inl (record {
  kind = c.args.kind;
  left = c.args.left.now;
  right = c.args.right.now;
  is = refl;
  first = c.in-Some.v;
  second = c.in-Some-2.w;
  knows_left = subst (λ o. IfSome o (λ w. IsKnownWorth c.args.growing.now c.args.head.now
      c.args.left.now w)) c.in-Some.is c.in_ok-v.ensures;
  knows_right = subst (λ o. IfSome o (λ w. IsKnownWorth c.args.growing.now c.args.head.now
      c.args.right.now w)) c.in-Some-2.is c.in_ok-w.ensures;
  untrue = λ so.
      let both : false ≡ true = subst (λ b. not b ≡ true) (c.is_so.ensures.1 so) untrue in
      let never : ⊥ = cc in never;
})

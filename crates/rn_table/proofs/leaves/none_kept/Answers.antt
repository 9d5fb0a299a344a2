use Rattle.std.proofs.Common.{◌≡◌, ◌<◌, length, get_or, ap, ◌∙◌, subst, arith, inl, inr}
use Rattle.std.proofs.lemmas.Bool.{cases_lt}
use Rattle.rn_table.proofs.leaves.none_kept.Goals as goal

pub loop-index-preserved : goal.loop-index-preserved
loop-index-preserved c = λ i w low inside is. elim (cases_lt i c.loop-index.index) [
  | inl less ↦ c.loop-index.invariant i w less inside is
  | inr past ↦ (let e : i ≡ c.loop-index.index = omega (arith, low, past) in
      c.is_none_kept.ensures c.if-not-is_none_kept.false w (subst (λ k. k < length c.args.words.now) e inside) (is ∙ ap (λ k. get_or c.args.words.now k w) e))
]

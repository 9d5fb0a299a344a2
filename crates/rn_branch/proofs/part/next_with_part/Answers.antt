-- With the tokens of a run that lack the part, all up to there do.
use Rattle.std.proofs.Common.{◌≡◌, ◌∙◌, ◌<◌, ◌≤◌, ◌+◌, ◌-◌, ℕ, List, length, sym, subst, arith}
use Rattle.std.proofs.Common.{inl, inr}
use Rattle.std.specs.Prelude.{Some, slice_get}
use Rattle.std.proofs.lemmas.Bool.{cases_lt}
use Rattle.rn_value.specs.declared.value.Value.{Value}
use Rattle.rn_branch.specs.Parts.{LacksPart}
use Rattle.rn_branch.proofs.part.next_with_part.Goals as goal

lacking_further : (xs run : List Value) (i : ℕ) (part : Value) (from at n : ℕ) →
    ((j : ℕ) (v : Value) → from ≤ j → j < at → slice_get xs j ≡ Some v → LacksPart i part v) →
    n ≤ length run →
    ((k : ℕ) → k < length run → slice_get xs (at + k) ≡ slice_get run k) →
    ((k : ℕ) (v : Value) → k < n → slice_get run k ≡ Some v → LacksPart i part v) →
    (j : ℕ) (v : Value) → from ≤ j → j < at + n → slice_get xs j ≡ Some v → LacksPart i part v
lacking_further xs run i part from at n before few tokens lack j v least below is =
    elim (cases_lt j at) [
      | inl less ↦ before j v least less is
      | inr after ↦ (
          let place : j ≡ at + (j - at) = omega (arith, after) in
          let here : slice_get xs (at + (j - at)) ≡ Some v = subst (λ m. slice_get xs m ≡ Some v) place is in
          lack (j - at) v (omega (arith, after, below))
          (sym (tokens (j - at) (omega (arith, after, below, few))) ∙ here))
    ]

pub returns-then-lacking-run : goal.returns-then-lacking-run
returns-then-lacking-run c =
    lacking_further c.args.held.now c.run_from-run.result.now c.args.i c.args.part.now c.args.from
    c.loop-index.index c.count_lacking-lacking.result c.loop-index.invariant
    c.count_lacking-lacking.ensures.bound c.run_from-run.ensures.tokens
    c.count_lacking-lacking.ensures.lacking

pub loop-index-preserved : goal.loop-index-preserved
loop-index-preserved c =
    lacking_further c.args.held.now c.run_from-run.result.now c.args.i c.args.part.now c.args.from
    c.loop-index.index c.count_lacking-lacking.result c.loop-index.invariant
    c.count_lacking-lacking.ensures.bound c.run_from-run.ensures.tokens
    c.count_lacking-lacking.ensures.lacking

-- Variable by variable.
use Rattle.std.proofs.Common.{◌∙◌, get_or, sym, subst, arith}
use Rattle.std.proofs.lemmas.List.{get_or_default}
use Rattle.rn_value.specs.Kinds.{HasKind}
use Rattle.rn_value.specs.declared.value.Value.{Value}
use Rattle.rn_model.specs.Systems.{var_kind_in}
use Rattle.rn_agree.proofs.AgreeLemmas.{kind_at}
use Rattle.rn_agree.proofs.EachLemmas.{zip_more, zip_at}
use Rattle.rn_agree.proofs.inscriptions.have_kinds.Goals as goal

pub returns-then-not-has_kind : goal.returns-then-not-has_kind
returns-then-not-has_kind c = (
  λ no. absurd (let no : ⊥ = cc in no),
  λ all.
      let x = get_or c.args.vars.now c.loop-k.k 0 in
      let fits = zip_at (λ x (v : Value). HasKind v (var_kind_in c.args.net.now x)) c.args.vars.now
      c.args.values.now
      c.loop-k.k x c.index-values-k.result c.loop-k-test.true
      (omega (arith, c.requires.len, c.loop-k-test.true))
      (get_or_default c.args.vars.now c.loop-k.k 0 x c.loop-k-test.true)
      c.index-values-k.is c.loop-k.invariant all in
      let kind = kind_at c.args.net.now c.as_slice.result.now x c.index-as_slice-vars.result
      c.as_slice.ensures (c.requires.in_range c.loop-k.k 0 c.loop-k-test.true)
      c.index-as_slice-vars.is in
      sym c.if-not-has_kind.true ∙ c.has_kind.ensures.1
      (subst (HasKind c.index-values-k.result) kind fits),
)

pub loop-k-preserved : goal.loop-k-preserved
loop-k-preserved c =
    let x = get_or c.args.vars.now c.loop-k.k 0 in
    let kind = kind_at c.args.net.now c.as_slice.result.now x c.index-as_slice-vars.result
    c.as_slice.ensures (c.requires.in_range c.loop-k.k 0 c.loop-k-test.true)
    c.index-as_slice-vars.is in
    zip_more (λ x (v : Value). HasKind v (var_kind_in c.args.net.now x)) c.args.vars.now
    c.args.values.now
    c.loop-k.k x c.index-values-k.result c.loop-k-test.true
    (omega (arith, c.requires.len, c.loop-k-test.true))
    (get_or_default c.args.vars.now c.loop-k.k 0 x c.loop-k-test.true)
    c.index-values-k.is
    (subst (HasKind c.index-values-k.result) (sym kind)
    (c.has_kind.ensures.0 c.if-not-has_kind.false))
    c.loop-k.invariant

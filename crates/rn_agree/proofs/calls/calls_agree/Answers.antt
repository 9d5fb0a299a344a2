-- Downlink by downlink.
use Rattle.std.proofs.Common.{◌∙◌, ap, sym, subst}
use Rattle.rn_model.specs.Systems.{transition_of}
use Rattle.rn_agree.specs.link.Agreeing.{CallAgreesAt}
use Rattle.rn_agree.proofs.EachLemmas.{indexed_more, indexed_at, indexed_all}
use Rattle.rn_model.specs.Bindings.{env_of}
use Rattle.rn_agree.specs.link.Agreeing.{IsFitCall}
use Rattle.rn_agree.proofs.EachLemmas.{each_at}
use Rattle.rn_agree.proofs.calls.calls_agree.Goals as goal

pub call_agrees_at-requires-clause-own_fit : goal.call_agrees_at-requires-clause-own_fit
call_agrees_at-requires-clause-own_fit c =
    let system = c.args.system.now in
    let caller = c.args.caller.now in
    each_at (IsFitCall (env_of system caller)) c.as_slice-downlinks.result.now
    (transition_of system caller).downlinks c.loop-i.i c.index-downlinks-i.result
    (c.as_slice-downlinks.ensures ∙ ap (λ t. t.downlinks) c.transition_of.ensures)
    c.loop-i-test.true c.index-downlinks-i.is c.requires.own_fit.downlinks

pub returns-then-not-branch : goal.returns-then-not-branch
returns-then-not-branch c = (
  λ no. absurd (let no : ⊥ = cc in no),
  λ each. sym c.if-not-branch.true ∙ c.in_ok-call_agrees_at.ensures.1
      (subst (CallAgreesAt c.args.system.now c.args.binding.now c.args.caller.now c.loop-i.i)
      (sym c.index-downlinks-i.is)
      (indexed_at (CallAgreesAt c.args.system.now c.args.binding.now c.args.caller.now)
      c.as_slice-downlinks.result.now (transition_of c.args.system.now c.args.caller.now).downlinks
      (c.as_slice-downlinks.ensures ∙ ap (λ t. t.downlinks) c.transition_of.ensures)
      c.loop-i.i c.index-downlinks-i.result c.loop-i-test.true each)),
)

pub loop-i-preserved : goal.loop-i-preserved
loop-i-preserved c =
    indexed_more (CallAgreesAt c.args.system.now c.args.binding.now c.args.caller.now)
    c.as_slice-downlinks.result.now (transition_of c.args.system.now c.args.caller.now).downlinks
    (c.as_slice-downlinks.ensures ∙ ap (λ t. t.downlinks) c.transition_of.ensures)
    c.loop-i.i c.index-downlinks-i.result c.loop-i-test.true c.loop-i.invariant
    (subst (CallAgreesAt c.args.system.now c.args.binding.now c.args.caller.now c.loop-i.i)
    c.index-downlinks-i.is (c.in_ok-call_agrees_at.ensures.0 c.if-not-branch.false))

pub returns : goal.returns
returns c = (
  λ yes. indexed_all (CallAgreesAt c.args.system.now c.args.binding.now c.args.caller.now)
      c.as_slice-downlinks.result.now (transition_of c.args.system.now c.args.caller.now).downlinks
      (c.as_slice-downlinks.ensures ∙ ap (λ t. t.downlinks) c.transition_of.ensures)
      c.loop-i.i c.loop-i-test.false c.loop-i.invariant,
  λ each. cc,
)

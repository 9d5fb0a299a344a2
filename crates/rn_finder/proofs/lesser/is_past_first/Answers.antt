use Rattle.std.proofs.Common.{◌≡◌, ◌∙◌, List, sym, ap, subst}
use Rattle.std.specs.Prelude.{Some, slice_get}
use Rattle.std.proofs.lemmas.Result.{IfOk-weaker}
use Rattle.rn_model.specs.declared.binding.Binding.{Binding}
use Rattle.rn_model.specs.declared.binding.Node.{Node}
use Rattle.rn_model.specs.declared.system.System.{System}
use Rattle.rn_model.specs.declared.system.Transition.{Transition}
use Rattle.rn_growing.specs.declared.decision.Head.{Head}
use Rattle.rn_growing.specs.Decisions.{transition_in}
use Rattle.rn_finder.specs.Lesser.{IsPast}
use Rattle.rn_finder.proofs.LesserBindings.{begins_with, past_leads_nowhere}
use Rattle.rn_finder.proofs.lesser.is_past_first.Goals as goal

pub returns : goal.returns
returns c =
    let p = c.args.problem.now in
    let g = c.args.growing.now in
    let node = c.in-Some.node.now in
    let at : slice_get p.than.nodes 0 ≡ Some node =
    ap (λ (ns : List Node). slice_get ns 0)
    (sym (c.as_slice.ensures ∙ ap (λ (b : Binding). b.nodes) c.binding.ensures))
    ∙ sym c.in-Some.ensures.value in
    let nodes = begins_with p.than.nodes node at in
    let transition : c.in-Some-transition_in.transition.now
    ≡ transition_in p.sought.system p.sought.start = c.in-Some-transition_in.ensures
    ∙ ap (λ (s : System). transition_in s c.start.result.now) c.system.ensures.same
    ∙ ap (λ (h : Head). transition_in p.sought.system h) c.start.ensures.same in
    let vars : c.as_slice-2.result.now ≡ (transition_in p.sought.system p.sought.start).vars =
    c.as_slice-2.ensures ∙ ap (λ (t : Transition). t.vars) transition in
    IfOk-weaker c.is_past.result _ _
    (λ yes so is. past_leads_nowhere p.sought p.than g c.system.ensures.good c.start.ensures.starts
    c.requires.branch c.requires.some (
      node,
      (nodes.0, nodes.1),
      subst (λ xs. IsPast g xs node.values) vars
          (subst (λ vs. IsPast g c.as_slice-2.result.now vs) c.as_slice-3.ensures (so is)),
    ))
    c.is_past.ensures

-- By what the calls give over the binding with the numbers of its new instances.
use Rattle.std.proofs.Common.{◌≡◌, ap, sym, subst, ◌∙◌}
use Rattle.std.specs.Prelude.{All, IfSome, Some, option_map}
use Rattle.rn_model.specs.Bindings.{IsNodeOf}
use Rattle.rn_model.specs.Firing.{Effects, all_effects, too_many}
use Rattle.rn_acts.specs.Acted.{AreOfArcs, ArePut}
use Rattle.rn_calc.specs.OwnKinds.{HaveOwnKinds}
use Rattle.rn_acts.proofs.NumberingLemmas.{kinds_kept, nodes_kept}
use Rattle.rn_fire.proofs.OutcomeLemmas.{MadeFor, fires_by, is_over}
use Rattle.rn_fire.proofs.outcome.outcome_of.Goals as goal
use Rattle.rn_fire.proofs.outcome.outcome_of.Goals.{After-gives_too_many}

-- what the calls made, over the binding with these numbers
made : (c : After-gives_too_many) →
    MadeFor c.args.system.now c.in_ok-numbered.numbered c.args.step c.args.next c.in-Some.acted c.in_ok-change.change c.gives_too_many.result
made c = record {
  outs = ap (option_map (λ a. a.outs)) (sym c.in-Some.is) ∙ c.in_ok-acted.ensures.outs;
  put = subst (λ o. IfSome o (λ a. (fx : Effects) → all_effects c.args.system.now c.args.step c.in_ok-numbered.numbered.nodes ≡ Some fx → ArePut c.args.system.now fx a.put)) c.in-Some.is c.in_ok-acted.ensures.put;
  put_arcs = subst (λ o. IfSome o (λ a. AreOfArcs c.args.system.now c.in_ok-numbered.numbered.nodes a.put)) c.in-Some.is c.in_ok-acted.ensures.arcs;
  taken = c.in_ok-change.ensures.taken;
  cleared = c.in_ok-change.ensures.cleared;
  made = c.in_ok-change.ensures.made;
  is_put = c.in_ok-change.ensures.put;
  arcs = c.in_ok-change.ensures.arcs;
  after = c.in_ok-change.ensures.after;
  many = c.gives_too_many.ensures ∙ ap (too_many c.args.next) c.len.ensures;
}

pub act-requires-clause-nodes : goal.act-requires-clause-nodes
act-requires-clause-nodes c =
    subst (λ b. All (IsNodeOf c.args.system.now) b.nodes) (sym c.in_ok-numbered.ensures)
    (nodes_kept c.args.system.now c.args.binding.now c.args.next c.requires.nodes)

pub act-requires-clause-kinds : goal.act-requires-clause-kinds
act-requires-clause-kinds c =
    subst (λ b. All (HaveOwnKinds c.args.system.now) b.nodes) (sym c.in_ok-numbered.ensures)
    (kinds_kept c.args.system.now c.args.binding.now c.args.next c.requires.kinds)

pub change_of-requires-clause-nodes : goal.change_of-requires-clause-nodes
change_of-requires-clause-nodes c =
    subst (λ b. All (IsNodeOf c.args.system.now) b.nodes) (sym c.in_ok-numbered.ensures)
    (nodes_kept c.args.system.now c.args.binding.now c.args.next c.requires.nodes)

pub change_of-requires-clause-kinds : goal.change_of-requires-clause-kinds
change_of-requires-clause-kinds c =
    subst (λ b. All (HaveOwnKinds c.args.system.now) b.nodes) (sym c.in_ok-numbered.ensures)
    (kinds_kept c.args.system.now c.args.binding.now c.args.next c.requires.kinds)

pub returns-then-gives_too_many : goal.returns-then-gives_too_many
returns-then-gives_too_many c =
    is_over c.args.system.now c.args.binding.now c.args.next c.args.step c.in-Some.acted c.in_ok-change.change c.gives_too_many.result
    (subst (λ b. MadeFor c.args.system.now b c.args.step c.args.next c.in-Some.acted c.in_ok-change.change c.gives_too_many.result) c.in_ok-numbered.ensures
    (made (goal.at.returns-then-gives_too_many c).After-gives_too_many))
    c.if-gives_too_many.true

pub returns : goal.returns
returns c =
    fires_by c.args.system.now c.args.binding.now c.args.next c.args.step c.in-Some.acted c.in_ok-change.change c.gives_too_many.result
    (subst (λ b. MadeFor c.args.system.now b c.args.step c.args.next c.in-Some.acted c.in_ok-change.change c.gives_too_many.result) c.in_ok-numbered.ensures
    (made (goal.at.returns c).After-gives_too_many))
    c.if-gives_too_many.false c.requires.next

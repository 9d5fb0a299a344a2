-- By what the arc finds.
use Rattle.std.proofs.Common.{◌∙◌, ap, sym}
use Rattle.std.specs.List.{list_any}
use Rattle.rn_growing.specs.Decided.{finds}
use Rattle.rn_looking.proofs.TokenLooks.{asks_nothing, forces_list, was_found_before}
use Rattle.rn_looking.proofs.arcs.look_at_arc.Goals as goal

pub returns-then-not-finds_values : goal.returns-then-not-finds_values
returns-then-not-finds_values c =
    asks_nothing c.args.at.problem.now c.args.at.growing.now c.args.at.node c.args.at.head.now
    c.args.at.transition.now c.requires.at c.args.k c.arc_at-arc.result.now c.arc_at-arc.ensures
    (sym c.finds_values.ensures ∙ c.if-not-finds_values.true)

pub returns-then-was_found : goal.returns-then-was_found
returns-then-was_found c =
    was_found_before c.args.at.problem.now c.args.at.growing.now c.args.at.node c.args.at.head.now
    c.args.at.transition.now c.requires.at c.args.k
    (ap (λ p. list_any (finds p c.args.k) c.args.at.growing.now.decisions)
    (sym (c.as_slice.ensures ∙ c.deref.ensures))
    ∙ sym c.was_found.ensures ∙ c.if-was_found.true)

pub returns-then-not-finds_token : goal.returns-then-not-finds_token
returns-then-not-finds_token c =
    forces_list c.args.at.problem.now c.args.at.growing.now c.args.at.node c.args.at.head.now
    c.args.at.transition.now c.requires.at c.args.k c.arc_at-arc.result.now c.arc_at-arc.ensures
    (sym c.finds_values.ensures ∙ c.if-not-finds_values.false)
    (ap (λ p. list_any (finds p c.args.k) c.args.at.growing.now.decisions)
    (sym (c.as_slice.ensures ∙ c.deref.ensures))
    ∙ sym c.was_found.ensures ∙ c.if-was_found.false)
    (sym c.finds_token.ensures ∙ c.if-not-finds_token.true)

pub look_for_token-requires-clause-token : goal.look_for_token-requires-clause-token
look_for_token-requires-clause-token c = record {
  arc = c.arc_at-arc.result.now;
  there = c.arc_at-arc.ensures;
  token = sym c.finds_token.ensures ∙ c.if-not-finds_token.false;
  none = ap (λ p. list_any (finds p c.args.k) c.args.at.growing.now.decisions)
      (sym (c.as_slice.ensures ∙ c.deref.ensures)) ∙ sym c.was_found.ensures ∙ c.if-was_found.false;
}

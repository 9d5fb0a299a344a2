-- By whether the child was entered.
use Rattle.std.proofs.Common.{◌∙◌, ◌++◌, ◌∷◌, [], ap, sym, arith, inl, inr}
use Rattle.std.proofs.lemmas.Option.{slice_get_cases}
use Rattle.std.specs.List.{list_any}
use Rattle.rn_growing.specs.Decided.{enters}
use Rattle.rn_looking.specs.Things.{IsToBeCalled}
use Rattle.rn_looking.proofs.CallLooks.{was_entered_before}
use Rattle.rn_looking.proofs.LookedAt.{its_good}
use Rattle.rn_looking.proofs.calls.look_at_call.Goals as goal

pub overflow_cast-i : goal.overflow_cast-i
overflow_cast-i c =
    let few = (its_good c.args.at.problem.now c.args.at.growing.now c.args.at.node
    c.args.at.head.now c.args.at.transition.now c.requires.at).many in
    omega (arith, few, c.requires.within)

pub returns-then-was_called : goal.returns-then-was_called
returns-then-was_called c =
    was_entered_before c.args.at.problem.now c.args.at.growing.now c.args.at.node c.args.at.head.now
    c.args.at.transition.now c.requires.at c.args.i
    (ap (λ p. list_any (enters (p ++ c.args.i ∷ [])) c.args.at.growing.now.decisions)
    (sym (c.as_slice.ensures ∙ c.deref.ensures)) ∙ sym c.was_called.ensures ∙ c.if-was_called.true)

pub look_for_answer-requires-clause-open : goal.look_for_answer-requires-clause-open
look_for_answer-requires-clause-open c =
    let links = c.args.at.transition.now.downlinks in
    elim (slice_get_cases links c.args.i).1 as
    (λ _. IsToBeCalled c.args.at.growing.now.decisions c.args.at.head.now c.args.at.transition.now
    c.args.i) [
      | inl there ↦ record {
        downlink = there.0;
        there = there.2;
        none = ap (λ p. list_any (enters (p ++ c.args.i ∷ [])) c.args.at.growing.now.decisions)
            (sym (c.as_slice.ensures ∙ c.deref.ensures)) ∙ sym c.was_called.ensures ∙ c.if-was_called.false;
      }
      | inr past ↦ absurd (let no : ⊥ = omega (arith, past.0, c.requires.within) in no)
    ]

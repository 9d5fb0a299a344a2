use Rattle.rn_inscript.proofs.Names.{◌≡◌, [], ◌∷◌, refl, ◌∙◌, ap, arith, rules, bracket}
use Rattle.rn_inscript.proofs.Chains.{first_fails, first_read, sign_taken, sign_far, item_fails, item_read, all_read, operator_separates}
use Rattle.rn_inscript.proofs.OneSign.{next-of, none-of}
use Rattle.rn_inscript.proofs.BracketSteps.{closing-paren, inside_fails, inside_read, close_stuck, close_read}
use Rattle.rn_inscript.proofs.ConditionPhrases.{conjunctions, disjunctions, sign-binary, cond_fails, cond_read}
use Rattle.rn_inscript.proofs.NegationReading.{not_far, opening_fails, inside_stage}
use Rattle.rn_inscript.proofs.ReaderExits.{err-of, ended_at}
use Rattle.rn_inscript.proofs.conditions.+condition.Goals as goal

pub both-returns-in_err-first-clause-reads : goal.both-returns-in_err-first-clause-reads
both-returns-in_err-first-clause-reads t c = λ around base fits. rw (err-of c.from_residual.ensures.1) (first_fails conjunctions _ _ _ _ (c.in_err-first.ensures.reads around base fits))

pub both-loop-all-init : goal.both-loop-all-init
both-loop-all-init t c = record {
  moved = c.in_ok-first.ensures.moved;
  reads = λ around base fits. rw (let h : c.push.new.self.items ≡ c.in_ok-first.first ∷ [] = search rules in h) (first_read conjunctions (c.in_ok-first.ensures.reads around base fits));
}

pub both-returns-in_err-operand-clause-reads : goal.both-returns-in_err-operand-clause-reads
both-returns-in_err-operand-clause-reads t c = λ around base fits. rw (err-of c.from_residual-in_err-operand.ensures.1, c.in_err-operand.ensures.1) (sign_far conjunctions (c.loop-all.invariant.reads around base fits) (next-of 21 _ _ c.in-Some.ensures.0) (sign-binary 21 (omega arith)) c.in_err-operand.ensures.0)

pub both-returns-in_err-condition-clause-reads : goal.both-returns-in_err-condition-clause-reads
both-returns-in_err-condition-clause-reads t c = λ around base fits. rw (err-of c.from_residual-in_err-condition.ensures.1) (item_fails conjunctions _ _ (sign_taken conjunctions _ _ (c.loop-all.invariant.reads around base fits) base (next-of 21 _ _ c.in-Some.ensures.0) (operator_separates (sign-binary 21 (omega arith)) c.in_ok-operand.ensures.0) c.in_ok-operand.ensures.1) (c.in_err-condition.ensures.reads around base fits))

pub both-loop-all-preserved : goal.both-loop-all-preserved
both-loop-all-preserved t c = record {
  moved = (omega (arith, ap (λ s. s.at) c.in_ok-operand.ensures.1, c.in_ok-condition.ensures.moved.0), c.in_ok-condition.ensures.moved.1);
  reads = λ around base fits. rw c.in_ok-push-2.ensures.items (item_read conjunctions (sign_taken conjunctions _ _ (c.loop-all.invariant.reads around base fits) base (next-of 21 _ _ c.in-Some.ensures.0) (operator_separates (sign-binary 21 (omega arith)) c.in_ok-operand.ensures.0) c.in_ok-operand.ensures.1) (c.in_ok-condition.ensures.reads around base fits));
}

pub both-returns-clause-reads : goal.both-returns-clause-reads
both-returns-clause-reads t c = λ around base fits. ended_at (c.from_vec.ensures ∙ c.shrink_to_fit.ensures.items) refl (all_read conjunctions (c.loop-all.invariant.reads around base fits) (none-of 21 c.args.tokens.now c.loop-all.seen.at c.in_default.ensures))

pub alternatives-returns-in_err-first-clause-reads : goal.alternatives-returns-in_err-first-clause-reads
alternatives-returns-in_err-first-clause-reads t c = λ around base fits. rw (err-of c.from_residual.ensures.1) (first_fails disjunctions _ _ _ _ (c.in_err-first.ensures.reads around base fits))

pub alternatives-loop-all-init : goal.alternatives-loop-all-init
alternatives-loop-all-init t c = record {
  moved = c.in_ok-first.ensures.moved;
  reads = λ around base fits. rw (let h : c.push.new.self.items ≡ c.in_ok-first.first ∷ [] = search rules in h) (first_read disjunctions (c.in_ok-first.ensures.reads around base fits));
}

pub alternatives-returns-in_err-operand-clause-reads : goal.alternatives-returns-in_err-operand-clause-reads
alternatives-returns-in_err-operand-clause-reads t c = λ around base fits. rw (err-of c.from_residual-in_err-operand.ensures.1, c.in_err-operand.ensures.1) (sign_far disjunctions (c.loop-all.invariant.reads around base fits) (next-of 22 _ _ c.in-Some.ensures.0) (sign-binary 22 (omega arith)) c.in_err-operand.ensures.0)

pub alternatives-returns-in_err-alternative-clause-reads : goal.alternatives-returns-in_err-alternative-clause-reads
alternatives-returns-in_err-alternative-clause-reads t c = λ around base fits. rw (err-of c.from_residual-in_err-alternative.ensures.1) (item_fails disjunctions _ _ (sign_taken disjunctions _ _ (c.loop-all.invariant.reads around base fits) base (next-of 22 _ _ c.in-Some.ensures.0) (operator_separates (sign-binary 22 (omega arith)) c.in_ok-operand.ensures.0) c.in_ok-operand.ensures.1) (c.in_err-alternative.ensures.reads around base fits))

pub alternatives-loop-all-preserved : goal.alternatives-loop-all-preserved
alternatives-loop-all-preserved t c = record {
  moved = (omega (arith, ap (λ s. s.at) c.in_ok-operand.ensures.1, c.in_ok-alternative.ensures.moved.0), c.in_ok-alternative.ensures.moved.1);
  reads = λ around base fits. rw c.in_ok-push-2.ensures.items (item_read disjunctions (sign_taken disjunctions _ _ (c.loop-all.invariant.reads around base fits) base (next-of 22 _ _ c.in-Some.ensures.0) (operator_separates (sign-binary 22 (omega arith)) c.in_ok-operand.ensures.0) c.in_ok-operand.ensures.1) (c.in_ok-alternative.ensures.reads around base fits));
}

pub alternatives-returns-clause-reads : goal.alternatives-returns-clause-reads
alternatives-returns-clause-reads t c = λ around base fits. ended_at (c.from_vec.ensures ∙ c.shrink_to_fit.ensures.items) refl (all_read disjunctions (c.loop-all.invariant.reads around base fits) (none-of 22 c.args.tokens.now c.loop-all.seen.at c.in_default.ensures))

pub cond-returns-in_err-any-clause-reads : goal.cond-returns-in_err-any-clause-reads
cond-returns-in_err-any-clause-reads t c = λ around base fits. rw (err-of c.from_residual.ensures.1) (cond_fails c.args.tokens.now c.args.seen around _ (c.in_err-any.ensures.reads around base fits))

pub cond-returns-clause-reads : goal.cond-returns-clause-reads
cond-returns-clause-reads t c = λ around base fits. cond_read _ _ _ _ _ (c.in_ok-any.ensures.reads around base fits)

pub negation-returns-in_err-after_not-clause-reads : goal.negation-returns-in_err-after_not-clause-reads
negation-returns-in_err-after_not-clause-reads t c = λ around base fits. rw (err-of c.from_residual.ensures.1, c.in_err-after_not.ensures.1) (not_far _ _ _ c.requires c.in_err-after_not.ensures.0)

pub negation-returns-in_err-inside-clause-reads : goal.negation-returns-in_err-inside-clause-reads
negation-returns-in_err-inside-clause-reads t c = λ around base fits. rw (err-of c.from_residual-in_err-inside.ensures.1) (opening_fails _ _ _ _ _ _ c.requires c.in_ok-after_not.ensures.0 c.in_ok-after_not.ensures.1 (omega (arith, c.requires.1.1, ap (λ s. s.at) c.in_ok-after_not.ensures.1)) fits c.in_err-inside.ensures)

pub negation-returns-in_err-condition-clause-reads : goal.negation-returns-in_err-condition-clause-reads
negation-returns-in_err-condition-clause-reads t c = λ around base fits. rw (err-of c.from_residual-in_err-condition.ensures.1) (inside_fails _ _ closing-paren (omega arith) (inside_stage _ _ _ _ _ _ c.requires c.in_ok-after_not.ensures.0 c.in_ok-after_not.ensures.1 c.in_ok-inside.ensures.0 c.in_ok-inside.ensures.1 c.in_ok-inside.ensures.2 fits) (c.in_err-condition.ensures.reads (bracket ∷ around) refl (omega (arith, c.in_ok-inside.ensures.1))))

pub negation-returns-in_err-end-clause-reads : goal.negation-returns-in_err-end-clause-reads
negation-returns-in_err-end-clause-reads t c = λ around base fits. rw (err-of c.from_residual-in_err-end.ensures.1, c.in_err-end.ensures.1) (close_stuck {before = c.args.seen} (inside_read closing-paren (omega arith) (inside_stage _ _ _ _ _ _ c.requires c.in_ok-after_not.ensures.0 c.in_ok-after_not.ensures.1 c.in_ok-inside.ensures.0 c.in_ok-inside.ensures.1 c.in_ok-inside.ensures.2 fits) (c.in_ok-condition.ensures.reads (bracket ∷ around) refl (omega (arith, c.in_ok-inside.ensures.1)))) c.in_ok-condition.ensures.moved.1 c.in_err-end.ensures.0)

pub negation-returns-clause-reads : goal.negation-returns-clause-reads
negation-returns-clause-reads t c = λ around base fits. ended_at refl c.in_ok-end.ensures.1 (close_read closing-paren (inside_read closing-paren (omega arith) (inside_stage _ _ _ _ _ _ c.requires c.in_ok-after_not.ensures.0 c.in_ok-after_not.ensures.1 c.in_ok-inside.ensures.0 c.in_ok-inside.ensures.1 c.in_ok-inside.ensures.2 fits) (c.in_ok-condition.ensures.reads (bracket ∷ around) refl (omega (arith, c.in_ok-inside.ensures.1)))) c.in_ok-end.ensures.0)

use Rattle.rn_inscript.proofs.Names.{◌≡◌, false, [], ◌∷◌, refl, ◌∙◌, ap, arith, rules, nat_tests, IsPrimary, at_spot, bracket, negative}
use Rattle.rn_notation.specs.declared.token.TokenKind.TheVariants as Kind
use Rattle.rn_inscript.specs.declared.exprs.PForm.TheVariants as F
use Rattle.rn_inscript.proofs.StageLemmas.{begin, inner_fails}
use Rattle.rn_inscript.proofs.CountSteps.{times-binary, plus-binary}
use Rattle.rn_inscript.proofs.Chains.{first_fails, first_read, sign_taken, sign_far, item_fails, item_read, all_read, operator_separates}
use Rattle.rn_inscript.proofs.OneSign.{next-of, none-of, comma_separates}
use Rattle.rn_inscript.proofs.ExpressionPhrases.{products, sums, lists}
use Rattle.rn_inscript.proofs.BracketSteps.{opening-paren, opening-bracket, opening-brace, closing-paren, closing-brace, opening_far, inside_fails, inside_read, close_stuck, close_read, done_fails, done_read}
use Rattle.rn_inscript.proofs.OperandReading.{none_begins, none_next, leaf_read, paren-ends, paren_stage, tuple-ends, tuple_stage, minus_stage, minus_far, minus_closed, primary_reads}
use Rattle.rn_inscript.proofs.ListReading.{close-closing, listed_empty, listed_stage, list-ends, list_stage, list_empty, elements_stage, elements_read, list_end-follow, list_end-ends, tail_stage, list_end}
use Rattle.rn_inscript.proofs.OperandPhrases.{begins_primary, number-only, text-only}
use Rattle.rn_inscript.proofs.ReaderExits.{err-of, ended_at}
use Rattle.rn_inscript.proofs.expressions.+expression.Goals as goal

pub product-returns-in_err-first-clause-reads : goal.product-returns-in_err-first-clause-reads
product-returns-in_err-first-clause-reads t c = λ around base fits. rw (err-of c.from_residual.ensures.1) (first_fails products _ _ _ _ (c.in_err-first.ensures.reads around fits))

pub product-loop-op-init : goal.product-loop-op-init
product-loop-op-init t c = record {
  moved = c.in_ok-first.ensures.moved;
  reads = λ around base fits. first_read products (c.in_ok-first.ensures.reads around fits);
}

pub product-returns-in_err-operand-clause-reads : goal.product-returns-in_err-operand-clause-reads
product-returns-in_err-operand-clause-reads t c = λ around base fits. rw (err-of c.from_residual-in_err-operand.ensures.1, c.in_err-operand.ensures.1) (sign_far products (c.loop-op.invariant.reads around base fits) c.in-Some.ensures times-binary c.in_err-operand.ensures.0)

pub product-returns-in_err-right-clause-reads : goal.product-returns-in_err-right-clause-reads
product-returns-in_err-right-clause-reads t c = λ around base fits. rw (err-of c.from_residual-in_err-right.ensures.1) (item_fails products _ _ (sign_taken products _ _ (c.loop-op.invariant.reads around base fits) base c.in-Some.ensures (operator_separates times-binary c.in_ok-operand.ensures.0) c.in_ok-operand.ensures.1) (c.in_err-right.ensures.reads around fits))

pub product-loop-op-preserved : goal.product-loop-op-preserved
product-loop-op-preserved t c = record {
  moved = (omega (arith, ap (λ s. s.at) c.in_ok-operand.ensures.1, c.in_ok-right.ensures.moved.0), c.in_ok-right.ensures.moved.1);
  reads = λ around base fits. rw c.in_ok-left.ensures (item_read products (sign_taken products _ _ (c.loop-op.invariant.reads around base fits) base c.in-Some.ensures (operator_separates times-binary c.in_ok-operand.ensures.0) c.in_ok-operand.ensures.1) (c.in_ok-right.ensures.reads around fits));
}

pub product-returns-clause-reads : goal.product-returns-clause-reads
product-returns-clause-reads t c = λ around base fits. all_read products (c.loop-op.invariant.reads around base fits) c.in_default.ensures

pub expr-returns-in_err-first-clause-reads : goal.expr-returns-in_err-first-clause-reads
expr-returns-in_err-first-clause-reads t c = λ around base fits. rw (err-of c.from_residual.ensures.1) (first_fails sums _ _ _ _ (c.in_err-first.ensures.reads around base fits))

pub expr-loop-op-init : goal.expr-loop-op-init
expr-loop-op-init t c = record {
  moved = c.in_ok-first.ensures.moved;
  reads = λ around base fits. first_read sums (c.in_ok-first.ensures.reads around base fits);
}

pub expr-returns-in_err-operand-clause-reads : goal.expr-returns-in_err-operand-clause-reads
expr-returns-in_err-operand-clause-reads t c = λ around base fits. rw (err-of c.from_residual-in_err-operand.ensures.1, c.in_err-operand.ensures.1) (sign_far sums (c.loop-op.invariant.reads around base fits) c.in-Some.ensures plus-binary c.in_err-operand.ensures.0)

pub expr-returns-in_err-right-clause-reads : goal.expr-returns-in_err-right-clause-reads
expr-returns-in_err-right-clause-reads t c = λ around base fits. rw (err-of c.from_residual-in_err-right.ensures.1) (item_fails sums _ _ (sign_taken sums _ _ (c.loop-op.invariant.reads around base fits) base c.in-Some.ensures (operator_separates plus-binary c.in_ok-operand.ensures.0) c.in_ok-operand.ensures.1) (c.in_err-right.ensures.reads around base fits))

pub expr-loop-op-preserved : goal.expr-loop-op-preserved
expr-loop-op-preserved t c = record {
  moved = (omega (arith, ap (λ s. s.at) c.in_ok-operand.ensures.1, c.in_ok-right.ensures.moved.0), c.in_ok-right.ensures.moved.1);
  reads = λ around base fits. rw c.in_ok-left.ensures (item_read sums (sign_taken sums _ _ (c.loop-op.invariant.reads around base fits) base c.in-Some.ensures (operator_separates plus-binary c.in_ok-operand.ensures.0) c.in_ok-operand.ensures.1) (c.in_ok-right.ensures.reads around base fits));
}

pub expr-returns-clause-reads : goal.expr-returns-clause-reads
expr-returns-clause-reads t c = λ around base fits. all_read sums (c.loop-op.invariant.reads around base fits) c.in_default.ensures

pub exprs-returns-in_err-first-clause-reads : goal.exprs-returns-in_err-first-clause-reads
exprs-returns-in_err-first-clause-reads t c = λ around base fits. rw (err-of c.from_residual.ensures.1) (first_fails lists _ _ _ _ (c.in_err-first.ensures.reads around base fits))

pub exprs-loop-after_comma-init : goal.exprs-loop-after_comma-init
exprs-loop-after_comma-init t c = record {
  moved = c.in_ok-first.ensures.moved;
  reads = λ around base fits. rw (let h : c.push.new.self.items ≡ c.in_ok-first.first ∷ [] = search rules in h) (first_read lists (c.in_ok-first.ensures.reads around base fits));
}

pub exprs-returns-in_err-e-clause-reads : goal.exprs-returns-in_err-e-clause-reads
exprs-returns-in_err-e-clause-reads t c = λ around base fits. rw (err-of c.from_residual-in_err-e.ensures.1) (item_fails lists _ _ (sign_taken lists _ _ (c.loop-after_comma.invariant.reads around base fits) base (next-of 6 _ _ c.in-Some.ensures.0) (comma_separates _ _) c.in-Some.ensures.1) (c.in_err-e.ensures.reads around base fits))

pub exprs-loop-after_comma-preserved : goal.exprs-loop-after_comma-preserved
exprs-loop-after_comma-preserved t c = record {
  moved = (omega (arith, ap (λ s. s.at) c.in-Some.ensures.1, c.in_ok-e.ensures.moved.0), c.in_ok-e.ensures.moved.1);
  reads = λ around base fits. rw c.in_ok-push-2.ensures.items (item_read lists (sign_taken lists _ _ (c.loop-after_comma.invariant.reads around base fits) base (next-of 6 _ _ c.in-Some.ensures.0) (comma_separates _ _) c.in-Some.ensures.1) (c.in_ok-e.ensures.reads around base fits));
}

pub exprs-returns-clause-reads : goal.exprs-returns-clause-reads
exprs-returns-clause-reads t c = λ around base fits. ended_at (c.from_vec.ensures ∙ c.shrink_to_fit.ensures.items) refl (all_read lists (c.loop-after_comma.invariant.reads around base fits) (none-of 6 c.args.tokens.now c.loop-after_comma.seen.at c.in_default.ensures))

pub parenthesised-returns-in_err-inside-clause-reads : goal.parenthesised-returns-in_err-inside-clause-reads
parenthesised-returns-in_err-inside-clause-reads t c = λ around fits. rw (err-of c.from_residual.ensures.1, c.in_err-inside.ensures.1) (opening_far _ _ opening-paren (begin 6 IsPrimary _ _) c.requires.next c.requires.kind refl fits c.in_err-inside.ensures.0 (paren-ends c.requires.kind))

pub parenthesised-returns-in_err-inner-clause-reads : goal.parenthesised-returns-in_err-inner-clause-reads
parenthesised-returns-in_err-inner-clause-reads t c = λ around fits. rw (err-of c.from_residual-in_err-inner.ensures.1) (inside_fails _ _ closing-paren (omega arith) (paren_stage _ _ _ _ _ c.requires.next c.requires.kind fits c.in_ok-inside.ensures.0 c.in_ok-inside.ensures.1) (c.in_err-inner.ensures.reads (bracket ∷ around) refl (omega (arith, c.in_ok-inside.ensures.0))))

pub parenthesised-returns-in_err-end-clause-reads : goal.parenthesised-returns-in_err-end-clause-reads
parenthesised-returns-in_err-end-clause-reads t c = λ around fits. rw (err-of c.from_residual-in_err-end.ensures.1, c.in_err-end.ensures.1) (close_stuck {before = c.args.seen} (inside_read closing-paren (omega arith) (paren_stage _ _ _ _ _ c.requires.next c.requires.kind fits c.in_ok-inside.ensures.0 c.in_ok-inside.ensures.1) (c.in_ok-inner.ensures.reads (bracket ∷ around) refl (omega (arith, c.in_ok-inside.ensures.0)))) c.in_ok-inner.ensures.moved.1 c.in_err-end.ensures.0)

pub parenthesised-returns-clause-reads : goal.parenthesised-returns-clause-reads
parenthesised-returns-clause-reads t c = λ around fits. ended_at refl c.in_ok-end.ensures.1 (close_read closing-paren (inside_read closing-paren (omega arith) (paren_stage _ _ _ _ _ c.requires.next c.requires.kind fits c.in_ok-inside.ensures.0 c.in_ok-inside.ensures.1) (c.in_ok-inner.ensures.reads (bracket ∷ around) refl (omega (arith, c.in_ok-inside.ensures.0)))) c.in_ok-end.ensures.0)

pub tuple-returns-in_err-inside-clause-reads : goal.tuple-returns-in_err-inside-clause-reads
tuple-returns-in_err-inside-clause-reads t c = λ around fits. rw (err-of c.from_residual.ensures.1, c.in_err-inside.ensures.1) (opening_far _ _ opening-bracket (begin 6 IsPrimary _ _) c.requires.next c.requires.kind refl fits c.in_err-inside.ensures.0 (tuple-ends c.requires.kind))

pub tuple-returns-in_err-parts-clause-reads : goal.tuple-returns-in_err-parts-clause-reads
tuple-returns-in_err-parts-clause-reads t c = λ around fits. rw (err-of c.from_residual-in_err-parts.ensures.1) (done_fails _ _ (omega arith) (tuple_stage _ _ _ _ _ c.requires.next c.requires.kind fits c.in_ok-inside.ensures.0 c.in_ok-inside.ensures.1) (c.in_err-parts.ensures.reads around (omega (arith, c.in_ok-inside.ensures.0))))

pub tuple-returns-clause-reads : goal.tuple-returns-clause-reads
tuple-returns-clause-reads t c = λ around fits. done_read (omega arith) (tuple_stage _ _ _ _ _ c.requires.next c.requires.kind fits c.in_ok-inside.ensures.0 c.in_ok-inside.ensures.1) (c.in_ok-parts.ensures.reads around (omega (arith, c.in_ok-inside.ensures.0)))

pub list-returns-in_err-inside-clause-reads : goal.list-returns-in_err-inside-clause-reads
list-returns-in_err-inside-clause-reads t c = λ around fits. rw (err-of c.from_residual.ensures.1, c.in_err-inside.ensures.1) (opening_far _ _ opening-brace (begin 6 IsPrimary _ _) c.requires.next c.requires.kind refl fits c.in_err-inside.ensures.0 (list-ends c.requires.kind))

pub list-returns-in-Some-clause-reads : goal.list-returns-in-Some-clause-reads
list-returns-in-Some-clause-reads t c = λ around fits. ended_at (c.list_at.ensures ∙ ap (λ es. at_spot c.args.token.spot (F.List es)) c.new.ensures) c.in-Some.ensures.1 (list_empty c.args.tokens.now c.args.seen _ (list_stage _ _ _ _ _ c.requires.next c.requires.kind fits c.in_ok-inside.ensures.0 c.in_ok-inside.ensures.1) c.in-Some.ensures.0)

pub list-returns-in_err-elements-clause-reads : goal.list-returns-in_err-elements-clause-reads
list-returns-in_err-elements-clause-reads t c = λ around fits. rw (err-of c.from_residual-in_err-elements.ensures.1) (inner_fails _ _ (elements_stage c.args.tokens.now c.args.seen _ (list_stage _ _ _ _ _ c.requires.next c.requires.kind fits c.in_ok-inside.ensures.0 c.in_ok-inside.ensures.1) c.in_default.ensures) (λ es ts e rest ends y. list_end-follow _ es ts e rest y) (list_end-ends _) (c.in_err-elements.ensures.reads (bracket ∷ around) refl (omega (arith, c.in_ok-inside.ensures.0))))

pub list-returns-in_err-tail-clause-reads : goal.list-returns-in_err-tail-clause-reads
list-returns-in_err-tail-clause-reads t c = λ around fits. rw (err-of c.from_residual-in_err-tail.ensures.1) (inside_fails _ _ closing-brace (omega arith) (tail_stage _ (elements_read c.args.tokens.now c.args.seen _ (list_stage _ _ _ _ _ c.requires.next c.requires.kind fits c.in_ok-inside.ensures.0 c.in_ok-inside.ensures.1) c.in_default.ensures (c.in_ok-elements.ensures.reads (bracket ∷ around) refl (omega (arith, c.in_ok-inside.ensures.0)))) c.in-Some-past_sign.ensures.0 c.in-Some-past_sign.ensures.1) (c.in_err-tail.ensures.reads (bracket ∷ around) refl (omega (arith, c.in_ok-inside.ensures.0))))

pub list-returns-in_err-end-clause-reads : goal.list-returns-in_err-end-clause-reads
list-returns-in_err-end-clause-reads t c = λ around fits. rw (err-of c.from_residual-in_err-end.ensures.1, c.in_err-end.ensures.1) (close_stuck {before = c.args.seen} (inside_read closing-brace (omega arith) (tail_stage _ (elements_read c.args.tokens.now c.args.seen _ (list_stage _ _ _ _ _ c.requires.next c.requires.kind fits c.in_ok-inside.ensures.0 c.in_ok-inside.ensures.1) c.in_default.ensures (c.in_ok-elements.ensures.reads (bracket ∷ around) refl (omega (arith, c.in_ok-inside.ensures.0)))) c.in-Some-past_sign.ensures.0 c.in-Some-past_sign.ensures.1) (c.in_ok-tail.ensures.reads (bracket ∷ around) refl (omega (arith, c.in_ok-inside.ensures.0)))) c.in_ok-tail.ensures.moved.1 c.in_err-end.ensures.0)

pub list-returns-in-Some-past_sign-clause-reads : goal.list-returns-in-Some-past_sign-clause-reads
list-returns-in-Some-past_sign-clause-reads t c = λ around fits. ended_at c.in_ok-with_tail.ensures c.in_ok-end.ensures.1 (close_read closing-brace (inside_read closing-brace (omega arith) (tail_stage _ (elements_read c.args.tokens.now c.args.seen _ (list_stage _ _ _ _ _ c.requires.next c.requires.kind fits c.in_ok-inside.ensures.0 c.in_ok-inside.ensures.1) c.in_default.ensures (c.in_ok-elements.ensures.reads (bracket ∷ around) refl (omega (arith, c.in_ok-inside.ensures.0)))) c.in-Some-past_sign.ensures.0 c.in-Some-past_sign.ensures.1) (c.in_ok-tail.ensures.reads (bracket ∷ around) refl (omega (arith, c.in_ok-inside.ensures.0)))) c.in_ok-end.ensures.0)

pub list-returns-in_err-end-2-clause-reads : goal.list-returns-in_err-end-2-clause-reads
list-returns-in_err-end-2-clause-reads t c = λ around fits. rw (err-of c.from_residual-in_err-end-2.ensures.1, c.in_err-end-2.ensures.1) (close_stuck {before = c.args.seen} (list_end _ (elements_read c.args.tokens.now c.args.seen _ (list_stage _ _ _ _ _ c.requires.next c.requires.kind fits c.in_ok-inside.ensures.0 c.in_ok-inside.ensures.1) c.in_default.ensures (c.in_ok-elements.ensures.reads (bracket ∷ around) refl (omega (arith, c.in_ok-inside.ensures.0)))) c.in_default-past_sign.ensures) c.in_ok-elements.ensures.moved.1 c.in_err-end-2.ensures.0)

pub list-returns-clause-reads : goal.list-returns-clause-reads
list-returns-clause-reads t c = λ around fits. ended_at c.list_at-2.ensures c.in_ok-end-2.ensures.1 (close_read closing-brace (list_end _ (elements_read c.args.tokens.now c.args.seen _ (list_stage _ _ _ _ _ c.requires.next c.requires.kind fits c.in_ok-inside.ensures.0 c.in_ok-inside.ensures.1) c.in_default.ensures (c.in_ok-elements.ensures.reads (bracket ∷ around) refl (omega (arith, c.in_ok-inside.ensures.0)))) c.in_default-past_sign.ensures) c.in_ok-end-2.ensures.0)

pub listed-returns-in-Some-clause-reads : goal.listed-returns-in-Some-clause-reads
listed-returns-in-Some-clause-reads t c = λ around fits. ended_at c.new.ensures c.in-Some.ensures.1 (listed_empty c.args.tokens.now c.args.seen around c.args.close c.requires.close c.in-Some.ensures.0)

pub listed-returns-in_err-all-clause-reads : goal.listed-returns-in_err-all-clause-reads
listed-returns-in_err-all-clause-reads t c = λ around fits. rw (err-of c.from_residual.ensures.1) (inside_fails _ _ (close-closing _ c.requires.close) (omega arith) (listed_stage c.args.tokens.now c.args.seen _ _ c.in_default.ensures) (c.in_err-all.ensures.reads (bracket ∷ around) refl fits))

pub listed-returns-in_err-end-clause-reads : goal.listed-returns-in_err-end-clause-reads
listed-returns-in_err-end-clause-reads t c = λ around fits. rw (err-of c.from_residual-in_err-end.ensures.1, c.in_err-end.ensures.1) (close_stuck {before = c.args.seen} (inside_read (close-closing _ c.requires.close) (omega arith) (listed_stage c.args.tokens.now c.args.seen _ _ c.in_default.ensures) (c.in_ok-all.ensures.reads (bracket ∷ around) refl fits)) c.in_ok-all.ensures.moved.1 c.in_err-end.ensures.0)

pub listed-returns-clause-reads : goal.listed-returns-clause-reads
listed-returns-clause-reads t c = λ around fits. ended_at refl c.in_ok-end.ensures.1 (close_read (close-closing _ c.requires.close) (inside_read (close-closing _ c.requires.close) (omega arith) (listed_stage c.args.tokens.now c.args.seen _ _ c.in_default.ensures) (c.in_ok-all.ensures.reads (bracket ∷ around) refl fits)) c.in_ok-end.ensures.0)

pub bracketed-returns-else-opening-eq-LEFT_BRACE-clause-reads : goal.bracketed-returns-else-opening-eq-LEFT_BRACE-clause-reads
bracketed-returns-else-opening-eq-LEFT_BRACE-clause-reads t c = λ around fits. let h : begins_primary (Kind.Sign c.args.opening) ≡ false = grind (arith, nat_tests) in none_begins c.args.tokens.now c.args.seen around (Kind.Sign c.args.opening) c.requires.next c.requires.kind h

pub primary-returns-in-Number-clause-reads : goal.primary-returns-in-Number-clause-reads
primary-returns-in-Number-clause-reads t c = λ around fits. ended_at (search rules) c.past.ensures (leaf_read c.args.tokens.now c.args.seen around (Kind.Number c.in-Number.n) (at_spot c.in-Some.token.spot (F.Int c.in-Number.n)) c.in-Some.ensures.next c.in-Number.is refl refl (λ rest. IsPrimary.number c.in-Number.is) (λ ts e rest x. number-only c.in-Number.n c.in-Number.is x))

pub primary-returns-in_ok-copy_text-in-Text-clause-reads : goal.primary-returns-in_ok-copy_text-in-Text-clause-reads
primary-returns-in_ok-copy_text-in-Text-clause-reads t c = λ around fits. ended_at (ap (λ s. at_spot c.in-Some.token.spot (F.Text s)) c.in_ok-copy_text-in-Text.ensures) c.past-in-Text.ensures (leaf_read c.args.tokens.now c.args.seen around (Kind.Text c.in-Text.text) (at_spot c.in-Some.token.spot (F.Text c.in-Text.text)) c.in-Some.ensures.next c.in-Text.is refl refl (λ rest. IsPrimary.text c.in-Text.is) (λ ts e rest x. text-only c.in-Text.text c.in-Text.is x))

pub primary-returns-in-Word-clause-reads : goal.primary-returns-in-Word-clause-reads
primary-returns-in-Word-clause-reads t c = λ around fits. c.this.ensures.reads around

pub primary-returns-in-None-clause-reads : goal.primary-returns-in-None-clause-reads
primary-returns-in-None-clause-reads t c = λ around fits. none_next c.args.tokens.now c.args.seen around c.requires c.in-None.ensures.next

pub negative-returns-in_err-operand-clause-reads : goal.negative-returns-in_err-operand-clause-reads
negative-returns-in_err-operand-clause-reads t c = λ around fits. rw (err-of c.from_residual.ensures.1, c.in_err-operand.ensures.1) (minus_far _ _ _ _ c.requires.next c.requires.kind fits c.in_err-operand.ensures.0)

pub negative-returns-in_err-e-clause-reads : goal.negative-returns-in_err-e-clause-reads
negative-returns-in_err-e-clause-reads t c = λ around fits. rw (err-of c.from_residual-in_err-e.ensures.1) (done_fails _ _ (omega arith) (minus_stage _ _ _ _ _ c.requires.next c.requires.kind fits c.in_ok-operand.ensures.0 c.in_ok-operand.ensures.1 c.in_ok-operand.ensures.2) (c.in_err-e.ensures.reads (negative ∷ around) (omega (arith, c.in_ok-operand.ensures.0))))

pub negative-returns-clause-reads : goal.negative-returns-clause-reads
negative-returns-clause-reads t c = λ around fits. ended_at c.in_ok-negate.ensures refl (minus_closed (done_read (omega arith) (minus_stage _ _ _ _ _ c.requires.next c.requires.kind fits c.in_ok-operand.ensures.0 c.in_ok-operand.ensures.1 c.in_ok-operand.ensures.2) (c.in_ok-e.ensures.reads (negative ∷ around) (omega (arith, c.in_ok-operand.ensures.0)))))

pub unary-returns-in-None-clause-reads : goal.unary-returns-in-None-clause-reads
unary-returns-in-None-clause-reads t c = λ around fits. primary_reads c.args.tokens.now c.args.seen around c.primary.result c.in-None.ensures (c.primary.ensures.reads around fits)

use Rattle.rn_net.proofs.Names.{rules, ◌≡◌, ◌+◌, length, drop, [], ◌∷◌, ◌++◌, refl, sym, ◌∙◌, subst, arith, done, close_bracket, close_brace, IsConstant, constant_at, declaring, Stage, AreConstantsUpTo}
use Rattle.rn_notation.specs.declared.token.TokenKind.TheVariants as Kind
use Rattle.rn_reading.specs.declared.fault.ReadFault.TheVariants as Fault
use Rattle.rn_net.specs.declared.constants.PConstForm.TheVariants as C
use Rattle.rn_net.proofs.Sorts.{kind_read, kind_stuck}
use Rattle.rn_net.proofs.Steps.{failed, failed_as, same_end, whole_reads, then_read, then_fails}
use Rattle.rn_net.proofs.Rows.{row_on, row_up_to, row_first, row_comma, row_close, one-less}
use Rattle.rn_net.proofs.ConstantPhrases.{constants, listed, constant_row, number_leaf, text_leaf, none_next, tuple_open, tuple_deep, list_open, list_deep, listed_none, listed_some, end_small, end-comma}
use Rattle.rn_net.proofs.constant_reader.+constant.Goals as goal

pub constant-returns-in-Some-clause-reads : goal.constant-returns-in-Some-clause-reads
constant-returns-in-Some-clause-reads t c = λ depth fits. same_end (search rules) (number_leaf c.in-Some.number c.args.tokens.now c.args.at _ depth c.in-Some.ensures.0 c.in-Some.ensures.1)

pub constant-returns-in-Some-past_text-clause-reads : goal.constant-returns-in-Some-past_text-clause-reads
constant-returns-in-Some-past_text-clause-reads t c = λ depth fits. same_end (search rules) (text_leaf c.in-Some-past_text.text.now c.args.tokens.now c.args.at _ depth c.in-Some-past_text.ensures.0 c.in-Some-past_text.ensures.1)

pub constant-returns-in-Some-past_sign-clause-reads : goal.constant-returns-in-Some-past_sign-clause-reads
constant-returns-in-Some-past_sign-clause-reads t c = λ depth fits. c.negative.ensures.reads depth

pub constant-returns-clause-reads : goal.constant-returns-clause-reads
constant-returns-clause-reads t c = λ depth fits. none_next c.args.tokens.now c.args.at (declaring depth) c.requires.inside (c.in_default.ensures) (c.in_default-past_text.ensures) (c.in_default-past_sign.ensures) (c.in_default-past_sign-2.ensures) (c.in_default-past_sign-3.ensures)

pub constants_listed-returns-in-Some-clause-reads : goal.constants_listed-returns-in-Some-clause-reads
constants_listed-returns-in-Some-clause-reads t c = λ depth fits last there. same_end c.new.ensures (listed_none c.args.tokens.now c.args.at _ depth c.args.close last c.requires.close c.in-Some.ensures.0 c.in-Some.ensures.1 there)

pub constants_listed-returns-clause-reads : goal.constants_listed-returns-clause-reads
constants_listed-returns-clause-reads t c = λ depth fits last there. whole_reads (row_up_to constant_row (Kind.Sign c.args.close)) c.args.tokens.now c.args.at c.args.at (declaring depth) (declaring depth) last c.constants_up_to.result (listed_some c.args.tokens.now c.args.at c.args.close (declaring depth) c.in_default.ensures) (c.constants_up_to.ensures.reads depth fits last there)

pub constants_up_to-returns-in_err-first-clause-reads : goal.constants_up_to-returns-in_err-first-clause-reads
constants_up_to-returns-in_err-first-clause-reads t c = λ depth fits last there. failed (AreConstantsUpTo (Kind.Sign c.args.close)) c.args.tokens.now c.args.at (declaring depth) last c.from_residual.result c.in_err-first.field-0.0 c.from_residual.ensures.1
    (then_fails constants (λ e. row_on constant_row (Kind.Sign c.args.close) (e ∷ [])) (length c.args.tokens.now) c.in_err-first.field-0.0 (row_first constant_row (Kind.Sign c.args.close) (drop c.args.at c.args.tokens.now) (declaring depth)) (c.in_err-first.ensures.reads depth fits))

pub constants_up_to-loop-next-init : goal.constants_up_to-loop-next-init
constants_up_to-loop-next-init t c = record {
  moved = c.in_ok-first.ensures.moved;
  reads = λ depth fits. subst (λ all. Stage (AreConstantsUpTo (Kind.Sign c.args.close)) (drop c.args.at c.args.tokens.now) (declaring depth) (row_on constant_row (Kind.Sign c.args.close) all) (drop c.in_ok-first.after_first c.args.tokens.now) (declaring depth)) (let h : c.in_ok-first.first ∷ [] ≡ c.push.new.self.items = search rules in h)
      (then_read constants (λ e. row_on constant_row (Kind.Sign c.args.close) (e ∷ [])) (row_first constant_row (Kind.Sign c.args.close) (drop c.args.at c.args.tokens.now) (declaring depth)) (c.in_ok-first.ensures.reads depth fits));
}

pub constants_up_to-returns-in_err-more-clause-reads : goal.constants_up_to-returns-in_err-more-clause-reads
constants_up_to-returns-in_err-more-clause-reads t c = λ depth fits last there. failed (AreConstantsUpTo (Kind.Sign c.args.close)) c.args.tokens.now c.args.at (declaring depth) last c.from_residual-in_err-more.result c.in_err-more.field-0.0 c.from_residual-in_err-more.ensures.1
    (then_fails constants (λ e. row_on constant_row (Kind.Sign c.args.close) (c.loop-next.all.items ++ e ∷ [])) (length c.args.tokens.now) c.in_err-more.field-0.0 (row_comma constant_row (Kind.Sign c.args.close) c.args.tokens.now c.loop-next.now c.in-Some.next (end-comma c.args.close c.requires.close) (c.loop-next.invariant.reads depth fits) c.in-Some.ensures.0 c.in-Some.ensures.1) (c.in_err-more.ensures.reads depth fits))

pub constants_up_to-loop-next-preserved : goal.constants_up_to-loop-next-preserved
constants_up_to-loop-next-preserved t c = record {
  moved = (omega (arith, c.in-Some.ensures.1, c.in_ok-more.ensures.moved.0), c.in_ok-more.ensures.moved.1);
  reads = λ depth fits. subst (λ all. Stage (AreConstantsUpTo (Kind.Sign c.args.close)) (drop c.args.at c.args.tokens.now) (declaring depth) (row_on constant_row (Kind.Sign c.args.close) all) (drop c.in_ok-more.after c.args.tokens.now) (declaring depth)) (sym c.in_ok-push-2.ensures.items)
      (then_read constants (λ e. row_on constant_row (Kind.Sign c.args.close) (c.loop-next.all.items ++ e ∷ [])) (row_comma constant_row (Kind.Sign c.args.close) c.args.tokens.now c.loop-next.now c.in-Some.next (end-comma c.args.close c.requires.close) (c.loop-next.invariant.reads depth fits) c.in-Some.ensures.0 c.in-Some.ensures.1) (c.in_ok-more.ensures.reads depth fits));
}

pub constants_up_to-returns-in_err-end-clause-reads : goal.constants_up_to-returns-in_err-end-clause-reads
constants_up_to-returns-in_err-end-clause-reads t c = λ depth fits last there. failed_as (AreConstantsUpTo (Kind.Sign c.args.close)) c.args.tokens.now c.args.at (declaring depth) last c.from_residual-in_err-end.result c.in_err-end.field-0.0 (Fault.Stopped c.loop-next.now) c.from_residual-in_err-end.ensures.1 c.in_err-end.ensures.1
    (kind_stuck (λ spot. done c.loop-next.all.items) c.args.tokens.now c.loop-next.now (row_close constant_row (Kind.Sign c.args.close) c.args.tokens.now c.loop-next.now (c.loop-next.invariant.reads depth fits) c.in_default.ensures) c.loop-next.invariant.moved.1 c.in_err-end.ensures.0)

pub constants_up_to-returns-clause-reads : goal.constants_up_to-returns-clause-reads
constants_up_to-returns-clause-reads t c = λ depth fits last there. same_end (c.from_vec.ensures ∙ c.shrink_to_fit.ensures.items) (kind_read (λ spot. done c.loop-next.all.items) c.args.tokens.now c.loop-next.now _ last (row_close constant_row (Kind.Sign c.args.close) c.args.tokens.now c.loop-next.now (c.loop-next.invariant.reads depth fits) c.in_default.ensures) c.in_ok-end.ensures.0 c.in_ok-end.ensures.1 (end_small c.args.close depth c.requires.close) there)

pub tuple-returns-in_err-levels_inside-clause-reads : goal.tuple-returns-in_err-levels_inside-clause-reads
tuple-returns-in_err-levels_inside-clause-reads t c = λ depth fits. failed_as IsConstant c.args.tokens.now c.args.at (declaring depth) (declaring depth) c.from_residual.result c.in_err-levels_inside.field-0.0 (Fault.TooFar c.args.at) c.from_residual.ensures.1 c.in_err-levels_inside.ensures.1
    (tuple_deep c.args.tokens.now c.args.at depth c.args.levels c.requires.next c.in_err-levels_inside.ensures.0 fits)

pub tuple-returns-in_err-parts-clause-reads : goal.tuple-returns-in_err-parts-clause-reads
tuple-returns-in_err-parts-clause-reads t c = λ depth fits. failed IsConstant c.args.tokens.now c.args.at (declaring depth) (declaring depth) c.from_residual-in_err-parts.result c.in_err-parts.field-0.0 c.from_residual-in_err-parts.ensures.1
    (then_fails (listed close_bracket) (λ parts. done (constant_at c.args.spot (C.Tuple parts))) (length c.args.tokens.now) c.in_err-parts.field-0.0 (tuple_open c.args.tokens.now c.args.at c.args.inside depth c.in_ok-levels_inside.levels_inside c.args.levels c.requires.next c.requires.inside c.in_ok-levels_inside.ensures fits) (c.in_err-parts.ensures.reads (depth + 1) (omega (arith, c.in_ok-levels_inside.ensures)) (declaring depth) (one-less depth 3 refl)))

pub tuple-returns-clause-reads : goal.tuple-returns-clause-reads
tuple-returns-clause-reads t c = λ depth fits. then_read (listed close_bracket) (λ parts. done (constant_at c.args.spot (C.Tuple parts))) (tuple_open c.args.tokens.now c.args.at c.args.inside depth c.in_ok-levels_inside.levels_inside c.args.levels c.requires.next c.requires.inside c.in_ok-levels_inside.ensures fits) (c.in_ok-parts.ensures.reads (depth + 1) (omega (arith, c.in_ok-levels_inside.ensures)) (declaring depth) (one-less depth 3 refl))

pub list-returns-in_err-levels_inside-clause-reads : goal.list-returns-in_err-levels_inside-clause-reads
list-returns-in_err-levels_inside-clause-reads t c = λ depth fits. failed_as IsConstant c.args.tokens.now c.args.at (declaring depth) (declaring depth) c.from_residual.result c.in_err-levels_inside.field-0.0 (Fault.TooFar c.args.at) c.from_residual.ensures.1 c.in_err-levels_inside.ensures.1
    (list_deep c.args.tokens.now c.args.at depth c.args.levels c.requires.next c.in_err-levels_inside.ensures.0 fits)

pub list-returns-in_err-parts-clause-reads : goal.list-returns-in_err-parts-clause-reads
list-returns-in_err-parts-clause-reads t c = λ depth fits. failed IsConstant c.args.tokens.now c.args.at (declaring depth) (declaring depth) c.from_residual-in_err-parts.result c.in_err-parts.field-0.0 c.from_residual-in_err-parts.ensures.1
    (then_fails (listed close_brace) (λ parts. done (constant_at c.args.spot (C.List parts))) (length c.args.tokens.now) c.in_err-parts.field-0.0 (list_open c.args.tokens.now c.args.at c.args.inside depth c.in_ok-levels_inside.levels_inside c.args.levels c.requires.next c.requires.inside c.in_ok-levels_inside.ensures fits) (c.in_err-parts.ensures.reads (depth + 1) (omega (arith, c.in_ok-levels_inside.ensures)) (declaring depth) (one-less depth 1 refl)))

pub list-returns-clause-reads : goal.list-returns-clause-reads
list-returns-clause-reads t c = λ depth fits. then_read (listed close_brace) (λ parts. done (constant_at c.args.spot (C.List parts))) (list_open c.args.tokens.now c.args.at c.args.inside depth c.in_ok-levels_inside.levels_inside c.args.levels c.requires.next c.requires.inside c.in_ok-levels_inside.ensures fits) (c.in_ok-parts.ensures.reads (depth + 1) (omega (arith, c.in_ok-levels_inside.ensures)) (declaring depth) (one-less depth 1 refl))

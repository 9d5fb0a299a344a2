use Rattle.rn_net.proofs.Names.{rules, ◌≡◌, ◌+◌, length, drop, [], ◌∷◌, ◌++◌, refl, sym, subst, arith, done, close_bracket, IsKind, kind_at, declaring, Stage, AreKindsUpTo}
use Rattle.rn_notation.specs.declared.token.TokenKind.TheVariants as Kind
use Rattle.rn_reading.specs.declared.fault.ReadFault.TheVariants as Fault
use Rattle.rn_net.specs.declared.kinds.PKindForm.TheVariants as K
use Rattle.rn_net.proofs.Sorts.{kind_read, kind_stuck}
use Rattle.rn_net.proofs.Steps.{failed, failed_as, same_end, whole_reads, then_read, then_fails}
use Rattle.rn_net.proofs.Rows.{row_on, row_first, row_comma, row_close, close_small, close_after, close-comma, one-less, row_up_to}
use Rattle.rn_net.proofs.KindPhrases.{kinds, listed, kind_row, int_read, text_read, net_read, none_next, tuple_open, tuple_deep, list_open, list_deep, list_end, listed_none, listed_some}
use Rattle.rn_net.proofs.kind_reader.+kind.Goals as goal

pub kind-returns-in-Some-clause-reads : goal.kind-returns-in-Some-clause-reads
kind-returns-in-Some-clause-reads t c = λ depth fits. int_read c.args.tokens.now c.args.at _ depth c.in-Some.ensures.0 c.in-Some.ensures.1

pub kind-returns-in-Some-past_word-clause-reads : goal.kind-returns-in-Some-past_word-clause-reads
kind-returns-in-Some-past_word-clause-reads t c = λ depth fits. text_read c.args.tokens.now c.args.at _ depth c.in-Some-past_word.ensures.0 c.in-Some-past_word.ensures.1

pub kind-returns-in-Some-past_word-2-clause-reads :
    goal.kind-returns-in-Some-past_word-2-clause-reads
kind-returns-in-Some-past_word-2-clause-reads t c = λ depth fits. net_read c.args.tokens.now c.args.at _ depth c.in-Some-past_word-2.ensures.0 c.in-Some-past_word-2.ensures.1

pub kind-returns-clause-reads : goal.kind-returns-clause-reads
kind-returns-clause-reads t c = λ depth fits. none_next c.args.tokens.now c.args.at (declaring depth) c.requires (c.in_default.ensures) (c.in_default-past_word.ensures) (c.in_default-past_word-2.ensures) (c.in_default-past_sign.ensures) (c.in_default-past_sign-2.ensures)

pub kinds_listed-returns-in-Some-clause-reads : goal.kinds_listed-returns-in-Some-clause-reads
kinds_listed-returns-in-Some-clause-reads t c = λ depth fits. same_end c.new.ensures (listed_none c.args.tokens.now c.args.at _ depth c.args.close c.requires.close c.in-Some.ensures.0 c.in-Some.ensures.1)

pub kinds_listed-returns-clause-reads : goal.kinds_listed-returns-clause-reads
kinds_listed-returns-clause-reads t c = λ depth fits. whole_reads (row_up_to kind_row (Kind.Sign c.args.close)) c.args.tokens.now c.args.at c.args.at (declaring (depth + 1)) (declaring (depth + 1)) (declaring depth) c.kinds_up_to.result (listed_some c.args.tokens.now c.args.at c.args.close (declaring (depth + 1)) c.in_default.ensures) (c.kinds_up_to.ensures.reads depth fits)

pub kinds_up_to-returns-in_err-first-clause-reads :
    goal.kinds_up_to-returns-in_err-first-clause-reads
kinds_up_to-returns-in_err-first-clause-reads t c = λ depth fits. failed (AreKindsUpTo (Kind.Sign c.args.close)) c.args.tokens.now c.args.at (declaring (depth + 1)) (declaring depth) c.from_residual.result c.in_err-first.field-0.0 c.from_residual.ensures.1
    (then_fails kinds (λ e. row_on kind_row (Kind.Sign c.args.close) (e ∷ [])) (length c.args.tokens.now) c.in_err-first.field-0.0 (row_first kind_row (Kind.Sign c.args.close) (drop c.args.at c.args.tokens.now) (declaring (depth + 1))) (c.in_err-first.ensures.reads (depth + 1) fits))

pub kinds_up_to-loop-next-init : goal.kinds_up_to-loop-next-init
kinds_up_to-loop-next-init t c = record {
  moved = c.in_ok-first.ensures.moved;
  reads = λ depth fits. subst (λ all. Stage (AreKindsUpTo (Kind.Sign c.args.close)) (drop c.args.at c.args.tokens.now) (declaring (depth + 1)) (row_on kind_row (Kind.Sign c.args.close) all) (drop c.in_ok-first.after_first c.args.tokens.now) (declaring (depth + 1))) (let h : c.in_ok-first.first ∷ [] ≡ c.push.new.self.items = search rules in h)
      (then_read kinds (λ e. row_on kind_row (Kind.Sign c.args.close) (e ∷ [])) (row_first kind_row (Kind.Sign c.args.close) (drop c.args.at c.args.tokens.now) (declaring (depth + 1))) (c.in_ok-first.ensures.reads (depth + 1) fits));
}

pub kinds_up_to-returns-in_err-more-clause-reads :
    goal.kinds_up_to-returns-in_err-more-clause-reads
kinds_up_to-returns-in_err-more-clause-reads t c = λ depth fits. failed (AreKindsUpTo (Kind.Sign c.args.close)) c.args.tokens.now c.args.at (declaring (depth + 1)) (declaring depth) c.from_residual-in_err-more.result c.in_err-more.field-0.0 c.from_residual-in_err-more.ensures.1
    (then_fails kinds (λ e. row_on kind_row (Kind.Sign c.args.close) (c.loop-next.all.items ++ e ∷ [])) (length c.args.tokens.now) c.in_err-more.field-0.0 (row_comma kind_row (Kind.Sign c.args.close) c.args.tokens.now c.loop-next.now c.in-Some.next (close-comma c.args.close c.requires.close) (c.loop-next.invariant.reads depth fits) c.in-Some.ensures.0 c.in-Some.ensures.1) (c.in_err-more.ensures.reads (depth + 1) fits))

pub kinds_up_to-loop-next-preserved : goal.kinds_up_to-loop-next-preserved
kinds_up_to-loop-next-preserved t c = record {
  moved = (omega (arith, c.in-Some.ensures.1, c.in_ok-more.ensures.moved.0), c.in_ok-more.ensures.moved.1);
  reads = λ depth fits. subst (λ all. Stage (AreKindsUpTo (Kind.Sign c.args.close)) (drop c.args.at c.args.tokens.now) (declaring (depth + 1)) (row_on kind_row (Kind.Sign c.args.close) all) (drop c.in_ok-more.after c.args.tokens.now) (declaring (depth + 1))) (sym c.in_ok-push-2.ensures.items)
      (then_read kinds (λ e. row_on kind_row (Kind.Sign c.args.close) (c.loop-next.all.items ++ e ∷ [])) (row_comma kind_row (Kind.Sign c.args.close) c.args.tokens.now c.loop-next.now c.in-Some.next (close-comma c.args.close c.requires.close) (c.loop-next.invariant.reads depth fits) c.in-Some.ensures.0 c.in-Some.ensures.1) (c.in_ok-more.ensures.reads (depth + 1) fits));
}

pub kinds_up_to-returns-in_err-end-clause-reads : goal.kinds_up_to-returns-in_err-end-clause-reads
kinds_up_to-returns-in_err-end-clause-reads t c = λ depth fits. failed_as (AreKindsUpTo (Kind.Sign c.args.close)) c.args.tokens.now c.args.at (declaring (depth + 1)) (declaring depth) c.from_residual-in_err-end.result c.in_err-end.field-0.0 (Fault.Stopped c.loop-next.now) c.from_residual-in_err-end.ensures.1 c.in_err-end.ensures.1
    (kind_stuck (λ spot. done c.loop-next.all.items) c.args.tokens.now c.loop-next.now (row_close kind_row (Kind.Sign c.args.close) c.args.tokens.now c.loop-next.now (c.loop-next.invariant.reads depth fits) c.in_default.ensures) c.loop-next.invariant.moved.1 c.in_err-end.ensures.0)

pub kinds_up_to-returns-clause-reads : goal.kinds_up_to-returns-clause-reads
kinds_up_to-returns-clause-reads t c = λ depth fits. same_end c.from_vec.ensures (kind_read (λ spot. done c.loop-next.all.items) c.args.tokens.now c.loop-next.now _ (declaring depth) (row_close kind_row (Kind.Sign c.args.close) c.args.tokens.now c.loop-next.now (c.loop-next.invariant.reads depth fits) c.in_default.ensures) c.in_ok-end.ensures.0 c.in_ok-end.ensures.1 (close_small c.args.close (depth + 1) c.requires.close) (close_after c.args.close depth c.requires.close))

pub list-returns-in_err-levels_inside-clause-reads : goal.list-returns-in_err-levels_inside-clause-reads
list-returns-in_err-levels_inside-clause-reads t c = λ depth fits. failed_as IsKind c.args.tokens.now c.args.at (declaring depth) (declaring depth) c.from_residual.result c.in_err-levels_inside.field-0.0 (Fault.TooFar c.args.at) c.from_residual.ensures.1 c.in_err-levels_inside.ensures.1
    (list_deep c.args.tokens.now c.args.at depth c.args.levels c.requires.next c.in_err-levels_inside.ensures.0 fits)

pub list-returns-in_err-element-clause-reads : goal.list-returns-in_err-element-clause-reads
list-returns-in_err-element-clause-reads t c = λ depth fits. failed IsKind c.args.tokens.now c.args.at (declaring depth) (declaring depth) c.from_residual-in_err-element.result c.in_err-element.field-0.0 c.from_residual-in_err-element.ensures.1
    (then_fails kinds (list_end c.args.spot) (length c.args.tokens.now) c.in_err-element.field-0.0 (list_open c.args.tokens.now c.args.at c.args.inside depth c.in_ok-levels_inside.levels_inside c.args.levels c.requires.next c.requires.inside c.in_ok-levels_inside.ensures fits) (c.in_err-element.ensures.reads (depth + 1) (omega (arith, c.in_ok-levels_inside.ensures))))

pub list-returns-in_err-end-clause-reads : goal.list-returns-in_err-end-clause-reads
list-returns-in_err-end-clause-reads t c = λ depth fits. failed_as IsKind c.args.tokens.now c.args.at (declaring depth) (declaring depth) c.from_residual-in_err-end.result c.in_err-end.field-0.0 (Fault.Stopped c.in_ok-element.after) c.from_residual-in_err-end.ensures.1 c.in_err-end.ensures.1
    (kind_stuck (λ end. done (kind_at c.args.spot (K.List c.in_ok-element.element))) c.args.tokens.now c.in_ok-element.after (then_read kinds (list_end c.args.spot) (list_open c.args.tokens.now c.args.at c.args.inside depth c.in_ok-levels_inside.levels_inside c.args.levels c.requires.next c.requires.inside c.in_ok-levels_inside.ensures fits) (c.in_ok-element.ensures.reads (depth + 1) (omega (arith, c.in_ok-levels_inside.ensures)))) c.in_ok-element.ensures.moved.1 c.in_err-end.ensures.0)

pub list-returns-clause-reads : goal.list-returns-clause-reads
list-returns-clause-reads t c = λ depth fits. same_end (search rules)
    (kind_read (λ end. done (kind_at c.args.spot (K.List c.in_ok-element.element))) c.args.tokens.now c.in_ok-element.after _ (declaring depth) (then_read kinds (list_end c.args.spot) (list_open c.args.tokens.now c.args.at c.args.inside depth c.in_ok-levels_inside.levels_inside c.args.levels c.requires.next c.requires.inside c.in_ok-levels_inside.ensures fits) (c.in_ok-element.ensures.reads (depth + 1) (omega (arith, c.in_ok-levels_inside.ensures)))) c.in_ok-end.ensures.0 c.in_ok-end.ensures.1 refl (one-less depth 1 refl))

pub tuple-returns-in_err-levels_inside-clause-reads : goal.tuple-returns-in_err-levels_inside-clause-reads
tuple-returns-in_err-levels_inside-clause-reads t c = λ depth fits. failed_as IsKind c.args.tokens.now c.args.at (declaring depth) (declaring depth) c.from_residual.result c.in_err-levels_inside.field-0.0 (Fault.TooFar c.args.at) c.from_residual.ensures.1 c.in_err-levels_inside.ensures.1
    (tuple_deep c.args.tokens.now c.args.at depth c.args.levels c.requires.next c.in_err-levels_inside.ensures.0 fits)

pub tuple-returns-in_err-parts-clause-reads : goal.tuple-returns-in_err-parts-clause-reads
tuple-returns-in_err-parts-clause-reads t c = λ depth fits. failed IsKind c.args.tokens.now c.args.at (declaring depth) (declaring depth) c.from_residual-in_err-parts.result c.in_err-parts.field-0.0 c.from_residual-in_err-parts.ensures.1
    (then_fails (listed close_bracket) (λ parts. done (kind_at c.args.spot (K.Tuple parts))) (length c.args.tokens.now) c.in_err-parts.field-0.0
    (tuple_open c.args.tokens.now c.args.at c.args.inside depth c.in_ok-levels_inside.levels_inside c.args.levels c.requires.next c.requires.inside c.in_ok-levels_inside.ensures fits)
    (c.in_err-parts.ensures.reads depth (omega (arith, c.in_ok-levels_inside.ensures))))

pub tuple-returns-clause-reads : goal.tuple-returns-clause-reads
tuple-returns-clause-reads t c = λ depth fits.
    then_read (listed close_bracket) (λ parts. done (kind_at c.args.spot (K.Tuple parts)))
    (tuple_open c.args.tokens.now c.args.at c.args.inside depth c.in_ok-levels_inside.levels_inside c.args.levels c.requires.next c.requires.inside c.in_ok-levels_inside.ensures fits)
    (c.in_ok-parts.ensures.reads depth (omega (arith, c.in_ok-levels_inside.ensures)))

use Rattle.std.proofs.Common.{◌-◌, ◌++◌, [], ◌∷◌, map, length, sym, ap, ◌∙◌, subst, rules, arith}
use Rattle.std.specs.Prelude.{Some}
use Rattle.std.proofs.lemmas.Result.{err_from_is_err_and}
use Rattle.rn_lines.specs.link.Said.{said}
use Rattle.rn_lines.specs.Reading.{Misses, with_front, tail_at, value_at}
use Rattle.rn_lines.proofs.Rows.{comma_on, comma_ends, closes, stops, no_brackets, row_is_empty, row_begins, row_fails}
use Rattle.rn_lines.proofs.values.+values.Goals as goal

pub others_at-returns-in_default : goal.others_at-returns-in_default
others_at-returns-in_default t c =
    stops (value_at c.args.depth) c.args.close c.args.most c.loop.counter c.loop.rest.now c.loop.values.items (map said c.loop.mentions.items) _ c.loop-test.true c.in_default.ensures.cases c.loop.invariant

pub others_at-returns-then-first-ne44 : goal.others_at-returns-then-first-ne44
others_at-returns-then-first-ne44 t c =
    closes (value_at c.args.depth) (λ x. x.now) c.byte_at.result c.args.close c.args.most c.loop.counter c.in-Some.first.now c.loop.rest.now c.in-Some.others.now c.loop.values.items (map said c.loop.mentions.items) _
    c.loop-test.true c.in-Some.ensures.cases.0 (search rules) c.byte_at.ensures c.loop.invariant

pub others_at-returns-in_err-value : goal.others_at-returns-in_err-value
others_at-returns-in_err-value t c =
    let p = err_from_is_err_and c.from_residual.result c.from_residual.ensures.1 in
    rw (p.1, p.2) (comma_ends (value_at c.args.depth) c.in_err-value.field-0.0 c.args.close c.args.most c.loop.counter c.loop.rest.now c.in-Some.others.now c.loop.values.items (map said c.loop.mentions.items) _
    c.loop-test.true (c.in-Some.ensures.cases.0 ∙ ap (λ f. f ∷ c.in-Some.others.now) c.if-first-ne44.false) c.in_err-value.ensures c.loop.invariant)

pub others_at-loop-preserved : goal.others_at-loop-preserved
others_at-loop-preserved t c =
    comma_on (value_at c.args.depth) c.args.close c.args.most c.loop.counter c.loop.rest.now c.in-Some.others.now c.in_ok-value.more.now c.loop.values.items c.push.new.self.items (map said c.loop.mentions.items) (map said c.value_at.new.mentions.items) c.in_ok-value.value _
    c.loop-test.true (c.in-Some.ensures.cases.0 ∙ ap (λ f. f ∷ c.in-Some.others.now) c.if-first-ne44.false) c.in_ok-value.ensures c.in_ok-push.ensures.items c.loop.invariant

pub row_at-returns-then-depth-eq0 : goal.row_at-returns-then-depth-eq0
row_at-returns-then-depth-eq0 t c = no_brackets c.args.depth c.args.close c.args.bytes.now [] (map said c.args.mentions.now.items) c.if-depth-eq0.true

pub row_at-returns-in-Some : goal.row_at-returns-in-Some
row_at-returns-in-Some t c =
    row_is_empty c.args.depth c.args.close c.args.bytes.now c.in-Some.rest.now c.new.result (map said c.args.mentions.now.items) (omega arith) (sym c.in-Some.ensures) c.new.ensures

pub row_at-returns-in_err-first : goal.row_at-returns-in_err-first
row_at-returns-in_err-first t c =
    let p = err_from_is_err_and c.from_residual.result c.from_residual.ensures.1 in
    rw (p.1, p.2) (row_fails c.in_err-first.field-0.0 c.args.depth c.args.close c.args.bytes.now (map said c.args.mentions.now.items) (omega arith) (search rules) c.in_err-first.ensures)

pub row_at-returns-in_err-rest : goal.row_at-returns-in_err-rest
row_at-returns-in_err-rest t c =
    let p = err_from_is_err_and c.from_residual-in_err-rest.result c.from_residual-in_err-rest.ensures.1 in
    let begins = row_begins c.args.depth c.args.close c.args.bytes.now c.in_ok-first.rest.now c.in_ok-first.first (map said c.args.mentions.now.items) (map said c.value_at.new.mentions.items) (omega arith) (search rules) c.in_ok-first.ensures in
    rw (p.1, p.2) (subst (Misses c.in_err-rest.field-0.0)
    (ap (λ vs. with_front vs (map said c.value_at.new.mentions.items) (tail_at (value_at (c.args.depth - 1)) c.args.close (length c.args.bytes.now) c.in_ok-first.rest.now)) (c.in_ok-push.ensures.items ∙ ap (λ vs. vs ++ c.in_ok-first.first ∷ []) c.new-values.ensures.items) ∙ sym begins)
    c.in_err-rest.ensures)

pub row_at-returns : goal.row_at-returns
row_at-returns t c =
    row_begins c.args.depth c.args.close c.args.bytes.now c.in_ok-first.rest.now c.in_ok-first.first (map said c.args.mentions.now.items) (map said c.value_at.new.mentions.items) (omega arith) (search rules) c.in_ok-first.ensures
    ∙ ap (λ vs. with_front vs (map said c.value_at.new.mentions.items) (tail_at (value_at (c.args.depth - 1)) c.args.close (length c.args.bytes.now) c.in_ok-first.rest.now)) (sym (c.in_ok-push.ensures.items ∙ ap (λ vs. vs ++ c.in_ok-first.first ∷ []) c.new-values.ensures.items))
    ∙ c.in_ok-rest.ensures
    ∙ ap (λ vs. Some (vs, map said c.others_at.new.mentions.items, c.in_ok-rest.rest.now)) (sym c.from_vec.ensures)

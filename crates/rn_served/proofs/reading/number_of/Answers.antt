-- One digit more.
use Rattle.std.proofs.Common.{◌≡◌, ◌-◌, ◌+◌, ◌∷◌, drop, get_or, sym, ap, ◌∙◌, subst, arith}
use Rattle.std.specs.Prelude.{IsTrue}
use Rattle.std.specs.List.{list_all}
use Rattle.std.proofs.lemmas.List.{drop_more}
use Rattle.rn_items.proofs.Bools.{both_true}
use Rattle.rn_value.specs.Characters.{is_digit, number_after}
use Rattle.rn_served.proofs.LineReading.{digit_units, more_nines, nines_low}
use Rattle.rn_served.proofs.reading.number_of.Goals as goal

pub overflow_mul-number : goal.overflow_mul-number
overflow_mul-number c =
    let low = c.loop-digit.invariant.low in
    let most = nines_low c.loop-digit.digit-index (omega (arith, c.loop-digit.invariant.few, c.loop-digit-test.true)) in
    omega (arith, low, most)

pub overflow_add-number : goal.overflow_add-number
overflow_add-number c =
    let bytes = c.args.bytes.now in
    let i = c.loop-digit.digit-index in
    let d = get_or bytes i 0 in
    let split : drop i bytes ≡ d ∷ drop (i + 1) bytes = drop_more bytes i 0 c.loop-digit-test.true in
    let all : IsTrue (list_all is_digit (d ∷ drop (i + 1) bytes)) = subst (λ ds. IsTrue (list_all is_digit ds)) split c.loop-digit.invariant.digits in
    let few = digit_units d (both_true (is_digit d) (list_all is_digit (drop (i + 1) bytes)) all).0 in
    let low = c.loop-digit.invariant.low in
    let most = nines_low i (omega (arith, c.loop-digit.invariant.few, c.loop-digit-test.true)) in
    omega (arith, low, most, few)

pub loop-digit-preserved : goal.loop-digit-preserved
loop-digit-preserved c =
    let bytes = c.args.bytes.now in
    let i = c.loop-digit.digit-index in
    let n = c.loop-digit.number in
    let d = get_or bytes i 0 in
    let split : drop i bytes ≡ d ∷ drop (i + 1) bytes = drop_more bytes i 0 c.loop-digit-test.true in
    let all : IsTrue (list_all is_digit (d ∷ drop (i + 1) bytes)) = subst (λ ds. IsTrue (list_all is_digit ds)) split c.loop-digit.invariant.digits in
    let both = both_true (is_digit d) (list_all is_digit (drop (i + 1) bytes)) all in
    record {
      spelled = sym (ap (number_after n) split) ∙ c.loop-digit.invariant.spelled;
      low = more_nines n (d - 48) i c.loop-digit.invariant.low (digit_units d both.0);
      digits = both.1;
      few = c.loop-digit.invariant.few;
    }

use Rattle.rn_notation.proofs.Names.{◌≡◌, ◌+◌, drop, get_or, true, sym, ap, ◌∙◌, rules, arith, drop_more, is_digit}
use Rattle.std.proofs.lemmas.Grind.{common_steps}
use Rattle.std.proofs.lemmas.Int.{ints}
use Rattle.rn_notation.proofs.NumberLemmas.{leading_number, number_stands, number_too_great}
use Rattle.rn_notation.proofs.numbers.number_piece.Goals as goal

pub returns-then-not-is_digit : goal.returns-then-not-is_digit
returns-then-not-is_digit c = number_stands c.args.text.now c.loop-i.i c.loop-i.number _ c.requires (grind (arith, common_steps)) (grind (arith, common_steps)) c.loop-i.invariant.low (omega (arith, ints))

pub returns-then-units-number : goal.returns-then-units-number
returns-then-units-number c =
    let text = c.args.text.now in
    let i = c.loop-i.i in
    let split = drop_more text i 0 c.loop-i-test.true in
    let digit : is_digit (get_or text i 0) ≡ true = search rules in
    number_too_great text (get_or text i 0) c.loop-i.number (drop (i + 1) text) c.requires digit (sym (ap (leading_number c.loop-i.number) split) ∙ c.loop-i.invariant.spelled) c.if-units-number.true

pub returns : goal.returns
returns c = number_stands c.args.text.now _ c.loop-i.number _ c.requires (grind (arith, common_steps)) (grind (arith, common_steps)) c.loop-i.invariant.low (omega (arith, ints))

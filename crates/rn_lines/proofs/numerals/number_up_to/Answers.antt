use Rattle.std.proofs.Common.{◌≡◌, ◌-◌, ◌+◌, ◌<◌, drop, get_or, ◌∷◌, sym, ap, ◌∙◌, arith}
use Rattle.std.proofs.lemmas.List.{drop_more}
use Rattle.rn_value.specs.Characters.{number_after}
use Rattle.rn_lines.proofs.Digits.{too_great, too_many_units, none_above}
use Rattle.rn_lines.proofs.numerals.number_up_to.Goals.{then-most-units-via-then-most-units, then-most-units-via-else-most-units+then-most-units-2}
use Rattle.rn_lines.proofs.numerals.number_up_to.Goals as goal

pub returns-then-most-units-clause-exact : goal.returns-then-most-units-clause-exact
returns-then-most-units-clause-exact c =
    let most = c.args.most in
    let n = c.loop-digit.number in
    let digits = c.args.digits.now in
    let i = c.loop-digit.digit-index in
    let d = get_or digits i 0 in
    let u = c.saturating_sub-units.result in
    let is : u ≡ d - 48 = c.saturating_sub-units.ensures in
    let split : drop i digits ≡ d ∷ drop (i + 1) digits = drop_more digits i 0 c.loop-digit-test.true in
    let whole : number_after n (d ∷ drop (i + 1) digits) ≡ number_after 0 digits = sym (ap (number_after n) split) ∙ c.loop-digit.invariant.spelled in
    let over : most < number_after 0 digits = elim c.then-most-units.branch as (λ _. most < number_after 0 digits) [
      | then-most-units-via-then-most-units w ↦
          let high = w.if-most-units.true in
          too_many_units most n d (drop (i + 1) digits) digits (omega (arith, high, is)) whole
      | then-most-units-via-else-most-units+then-most-units-2 w ↦
          let low = w.if-most-units.false in
          too_great most u n d (drop (i + 1) digits) digits is (omega (arith, low)) w.if-most-units-2.true whole
    ] in
    sym (none_above most (number_after 0 digits) over)

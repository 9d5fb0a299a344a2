-- What is appended in turn is the line.
use Rattle.std.proofs.Common.{◌≡◌, ◌++◌, ◌∷◌, [], List, ℕ, ap, ◌∙◌, append_assoc, arith}
use Rattle.rn_value.specs.Text.{numeral}
use Rattle.rn_value.proofs.Numerals.{decimal-numeral}
use Rattle.rn_commands.proofs.Counted.{decimal_wide}
use Rattle.rn_commands.proofs.counting.put_count.Goals as goal

in_turn : (text steps space number end : List ℕ) →
    text ++ steps ++ space ++ number ++ end ≡ text ++ (steps ++ space ++ number ++ end)
in_turn text steps space number end = simp append_assoc

pub returns : goal.returns
returns c =
    let steps : c.as_bytes.result.now ≡ numeral c.args.fired =
    c.as_bytes.ensures.value ∙ c.in_ok-steps.ensures.ok
    ∙ decimal-numeral c.args.fired c.ranges.fired.fits in
    let number : c.as_bytes-2.result.now ≡ numeral c.args.count =
    c.as_bytes-2.ensures.value ∙ c.in_ok-number.ensures.ok
    ∙ decimal_wide c.args.count (omega (arith, c.ranges.count.fits)) in
    let all = c.in_ok-push-2.ensures.items
    ∙ ap (λ x. x ++ 10 ∷ []) (c.in_ok-extend_from_slice-2.ensures.items
    ∙ ap (λ x. x ++ c.as_bytes-2.result.now) (c.in_ok-push.ensures.items
    ∙ ap (λ x. x ++ 32 ∷ []) c.in_ok-extend_from_slice.ensures.items))
    ∙ ap (λ s. c.args.text.now.items ++ s ++ 32 ∷ [] ++ c.as_bytes-2.result.now ++ 10 ∷ []) steps
    ∙ ap (λ n. c.args.text.now.items ++ numeral c.args.fired ++ 32 ∷ [] ++ n ++ 10 ∷ []) number in
    all ∙ in_turn c.args.text.now.items (numeral c.args.fired) (32 ∷ []) (numeral c.args.count) (10 ∷ [])

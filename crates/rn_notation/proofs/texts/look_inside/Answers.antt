use Rattle.rn_notation.proofs.Names.{◌≡◌, ◌∷◌, false, refl, sym, ap, ◌∙◌, rules, itself, escape, is_special}
use Rattle.rn_notation.proofs.Parts.{plain_char, escape_means}
use Rattle.rn_notation.proofs.Runs.{one_item}
use Rattle.rn_notation.proofs.texts.look_inside.Goals as goal

pub returns-in-Some-escaped_char : goal.returns-in-Some-escaped_char
returns-in-Some-escaped_char c =
    let found = sym c.escaped_char.ensures ∙ c.in-Some-escaped_char.is in
    let whole = c.in-Some.ensures.cases.0 ∙ ap (λ first. first ∷ c.in-Some.others.now) c.in-92.is ∙ ap (λ others. 92 ∷ others) c.in-Some-split_first.ensures.cases.0 in
    one_item (escape c.in-Some-split_first.byte.now) (c.in-Some-escaped_char.c, found) whole (sym (escape_means c.in-Some-split_first.byte.now c.in-Some-escaped_char.c found))

pub returns-in-Some-first_char : goal.returns-in-Some-first_char
returns-in-Some-first_char c =
    let whole = c.in-Some-first_char.ensures.found in
    let plain : is_special c.in-Some.first.now ≡ false = search rules in
    one_item (itself c.in-Some-first_char.c) (c.in-Some-first_char.ensures.scalar, plain_char c.in-Some.first.now c.in-Some-first_char.c c.in-Some.others.now c.in-Some-first_char.rest.now (sym c.in-Some.ensures.cases.0 ∙ whole) plain) whole refl

use Rattle.rn_notation.proofs.Names.{refl, arith, subst, nat_eq, not, ap, ◌∙◌, nil_from_length, begins_with}
use Rattle.rn_notation.proofs.Characters.{shorter}
use Rattle.rn_notation.proofs.TextLemmas.{Commented, run_commented, char_commented, comment_goes_on, comment_ends, comment_breaks}
use Rattle.rn_notation.proofs.Runs.{shortens}
use Rattle.rn_notation.proofs.comments.comment_piece.Goals as goal

pub loop-first-init : goal.loop-first-init
loop-first-init c = subst (λ t. Commented t c.plain_run.result.1.now) c.split_at.ensures.back (run_commented c.plain_run.ensures)

pub returns-then-first-eq10 : goal.returns-then-first-eq10
returns-then-first-eq10 c = comment_ends c.args.text.now c.loop-first.rest.now _ c.requires c.loop-first.invariant
    (ap (begins_with (λ c. not (nat_eq c 10))) c.in-Some.ensures.cases.0 ∙ ap (λ c. not (nat_eq c 10)) c.if-first-eq10.true) refl

pub returns-in_default-first_char : goal.returns-in_default-first_char
returns-in_default-first_char c = comment_breaks c.args.text.now c.loop-first.rest.now _ _ c.requires c.loop-first.invariant c.in-Some.ensures.cases.0 c.in_default-first_char.ensures.none

pub loop-first-smaller : goal.loop-first-smaller
loop-first-smaller c =
    let less = shorter c.in-Some-first_char.field-0-0 c.in-Some-first_char.more.now c.loop-first.rest.now c.in-Some-first_char.ensures.found in
    let runs = shortens c.plain_run-in-Some.ensures in
    omega (arith, less, runs)

pub loop-first-preserved : goal.loop-first-preserved
loop-first-preserved c =
    let char = char_commented c.loop-first.rest.now _ _ _ _ c.in-Some.ensures.cases.0 c.if-first-eq10.false c.in-Some-first_char.ensures.scalar c.in-Some-first_char.ensures.found in
    comment_goes_on c.loop-first.invariant (comment_goes_on char (run_commented c.plain_run-in-Some.ensures))

pub returns : goal.returns
returns c = let none = c.in_default.ensures.cases in comment_ends c.args.text.now c.loop-first.rest.now _ c.requires c.loop-first.invariant (ap (begins_with (λ c. not (nat_eq c 10))) (nil_from_length c.loop-first.rest.now none)) (omega (arith, none))

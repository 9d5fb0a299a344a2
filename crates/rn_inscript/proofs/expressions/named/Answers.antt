use Rattle.rn_inscript.proofs.Names.{◌≡◌, ap, refl, arith, rules, codes, at_spot, IsNotNextSign}
use Rattle.rn_inscript.specs.declared.exprs.PForm.TheVariants as F
use Rattle.rn_inscript.proofs.ListReading.{name_stage, name_read, step-ends, step_inside}
use Rattle.rn_inscript.proofs.BracketSteps.{can_end_takes, opening-paren, opening_far, closing-paren, close_first}
use Rattle.rn_inscript.proofs.Passing.{stuck_sign}
use Rattle.rn_inscript.proofs.ReaderExits.{err-of, ended_at}
use Rattle.rn_inscript.proofs.expressions.named.Goals as goal
use Rattle.rn_inscript.proofs.expressions.named.Goals.{then-is_step+in_default, else-is_step}

pub returns-in_err-inside-clause-reads : goal.returns-in_err-inside-clause-reads
returns-in_err-inside-clause-reads c = λ around fits.
    let step : c.args.name.now ≡ codes "step" = search rules in
    rw (err-of c.from_residual.ensures.1, c.in_err-inside.ensures.1) (let paren = c.in-Some.ensures.0 in opening_far _ _ opening-paren (name_stage _ _ _ around _ c.requires.next c.requires.name c.past-after.ensures) paren.1 paren.2 refl fits c.in_err-inside.ensures.0 (step-ends step paren.2))

pub returns-in_err-end-clause-reads : goal.returns-in_err-end-clause-reads
returns-in_err-end-clause-reads c = λ around fits.
    let step : c.args.name.now ≡ codes "step" = search rules in
    let paren = c.in-Some.ensures.0 in
    rw (err-of c.from_residual-in_err-end.ensures.1, c.in_err-end.ensures.1) (stuck_sign _ _ 5 (step_inside c.args.tokens.now c.args.seen (name_stage _ _ _ around _ c.requires.next c.requires.name c.past-after.ensures) step c.in-Some.ensures.0 fits c.in_ok-inside.ensures.0 c.in_ok-inside.ensures.1) (omega (arith, paren.1.1, ap (λ s. s.at) c.in_ok-inside.ensures.1)) (can_end_takes _ _) c.in_err-end.ensures.0)

pub returns-in-Some-clause-reads : goal.returns-in-Some-clause-reads
returns-in-Some-clause-reads c = λ around fits.
    let step : c.args.name.now ≡ codes "step" = search rules in
    ended_at refl c.in_ok-end.ensures.1 (close_first _ _ _ closing-paren (step_inside c.args.tokens.now c.args.seen (name_stage _ _ _ around _ c.requires.next c.requires.name c.past-after.ensures) step c.in-Some.ensures.0 fits c.in_ok-inside.ensures.0 c.in_ok-inside.ensures.1) c.in_ok-end.ensures.0)

pub returns-clause-reads : goal.returns-clause-reads
returns-clause-reads c = λ around fits.
    let other : (c.args.name.now ≡ codes "step" → IsNotNextSign c.args.tokens.now c.past-after.result.at 4) = λ step. elim c.if-is_step.branch [
      | then-is_step+in_default w ↦ w.in_default.ensures
      | else-is_step w ↦ absurd (search (rules, step))
    ] in
    ended_at (ap (λ s. at_spot c.args.token.spot (F.Name s)) c.in_ok-text.ensures) refl (name_read _ _ _ around _ c.requires.next c.requires.name c.past-after.ensures other)

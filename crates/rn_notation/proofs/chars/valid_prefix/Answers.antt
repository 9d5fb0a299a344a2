use Rattle.rn_notation.proofs.Names.{length, sym, ap, ◌∙◌, subst, arith, IsValidUpTo}
use Rattle.rn_notation.proofs.Characters.{none_at_empty, none_at_fault}
use Rattle.rn_notation.proofs.chars.valid_prefix.Goals as goal

pub returns-in-Ok-clause-none : goal.returns-in-Ok-clause-none
returns-in-Ok-clause-none c four none = none_at_empty c.args.text.now c.split_at.result.0.now c.min-length.result c.split_at.ensures.front c.split_at.ensures.front_len
    (λ some. omega (arith, c.min-length.ensures, some, four)) (sym (ap length (c.in-Ok.ensures.cases.0)) ∙ none)

pub returns-in-Ok-from_utf8-clause-none : goal.returns-in-Ok-from_utf8-clause-none
returns-in-Ok-from_utf8-clause-none c four none = none_at_fault c.args.text.now c.split_at.result.0.now c.args.most c.min-length.result c.valid_up_to.result four c.split_at.ensures.front
    (λ few. omega (arith, c.min-length.ensures, few)) (λ many. omega (arith, c.min-length.ensures, many)) (subst (IsValidUpTo c.split_at.result.0.now) (sym c.valid_up_to.ensures) c.in-Err.ensures.cases.1)
    (sym c.split_at-in-Err.ensures.front_len ∙ sym (ap length (c.in-Ok-from_utf8.ensures.cases.0)) ∙ none)

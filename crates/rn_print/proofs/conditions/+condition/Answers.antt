-- After the loop all alternatives are written.
use Rattle.std.proofs.Common.{◌++◌, ap, sym, ◌∙◌, map}
use Rattle.std.specs.Prelude.{codes}
use Rattle.std.specs.List.{join_by}
use Rattle.rn_print.specs.Conditions.{all_step, simple_text}
use Rattle.rn_print.proofs.ConditionTexts.{cond_text-out, all_written}
use Rattle.rn_print.proofs.conditions.+condition.Goals as goal

pub put_cond-returns-after-loop-simples : goal.put_cond-returns-after-loop-simples
put_cond-returns-after-loop-simples t c =
    all_written all_step (map simple_text) (codes " || ") c.as_slice.result.now
    c.loop-simples.simples-index c.first-item.result c.args.out.now.items
    c.put_simples.new.out.items c.loop-simples.out.items
    c.in-len1-up.len_at_least c.first-item.is
    (c.in_ok-put_simples-in-len1-up.ensures
    ∙ ap (λ simples. c.args.out.now.items ++ all_step (map simple_text simples))
    c.as_slice-in-len1-up.ensures)
    c.loop-simples-test.false c.loop-simples.invariant
    ∙ ap (λ all. c.args.out.now.items ++ join_by all_step (codes " || ") (map (map simple_text) all))
    c.as_slice.ensures
    ∙ ap (λ text. c.args.out.now.items ++ text) (sym (cond_text-out c.args.cond.now))

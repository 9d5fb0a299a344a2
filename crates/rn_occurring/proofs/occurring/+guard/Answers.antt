-- The variables of all lists are those of the condition.
use Rattle.std.proofs.Common.{◌∙◌, ◌++◌, ap, sym}
use Rattle.std.specs.Prelude.{flat_map}
use Rattle.std.proofs.lemmas.List.{append-nil, drop_all}
use Rattle.rn_occurring.specs.link.OccurringParts.{vars_of_simple}
use Rattle.rn_occurring.proofs.OccurringLemmas.{cond_vars}
use Rattle.rn_occurring.proofs.occurring.+guard.Goals as goal

pub put_cond-returns : goal.put_cond-returns
put_cond-returns t c =
    sym
    (ap (λ xs. c.loop-simples.vars.items ++ flat_map (flat_map vars_of_simple) xs)
    (drop_all c.loop-simples.simples-index c.as_slice-simples-items.result.now c.loop-simples-test.false)
    ∙ append-nil c.loop-simples.vars.items)
    ∙ c.loop-simples.invariant
    ∙ ap (λ xs. c.args.vars.now.items ++ flat_map (flat_map vars_of_simple) xs)
    c.as_slice-simples-items.ensures
    ∙ ap (λ xs. c.args.vars.now.items ++ xs) (sym (cond_vars c.args.cond.now))

use Rattle.std.proofs.Common.{ap, sym, ◌∙◌}
use Rattle.std.specs.Ordering.{is_lt}
use Rattle.rn_value.specs.declared.value.Value.TheVariants as Value
use Rattle.rn_bag.proofs.CutLemmas.{first_part_below}
use Rattle.rn_bag.proofs.cut.is_below_first.Goals as goal

pub returns-in-len1-up : goal.returns-in-len1-up
returns-in-len1-up c =
    c.is_lt.ensures ∙ ap is_lt c.cmp.ensures
    ∙ first_part_below c.part-item.result c.args.first.now c.args.value.now c.as_slice.result.now c.part-item.is c.in-len1-up.len_at_least (c.in-Tuple.is ∙ ap (λ xs. Value.Tuple xs) (sym (c.as_slice.ensures ∙ c.deref.ensures)))

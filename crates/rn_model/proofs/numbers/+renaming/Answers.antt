use Rattle.std.proofs.Common.{map, sym, ap, ◌∙◌}
use Rattle.rn_value.specs.declared.value.Value.TheVariants as Value
use Rattle.rn_model.specs.Firing.{renamed_value}
use Rattle.rn_model.specs.Numbers.{numbered_by}
use Rattle.rn_model.proofs.NumberedInstances.{renamed-Tuple, renamed-List}
use Rattle.rn_model.proofs.StillValues.{numbered_is_still}
use Rattle.rn_model.proofs.numbers.+renaming.Goals as goal

pub renamed-returns-then-not-holds_new : goal.renamed-returns-then-not-holds_new
renamed-returns-then-not-holds_new t c =
    c.in_ok-copy.ensures
    ∙ sym (numbered_is_still c.args.value.now c.args.numbers.now (sym c.holds_new.ensures ∙ c.if-not-holds_new.true))

pub renamed-returns-in_ok-tuple_value-in-Tuple : goal.renamed-returns-in_ok-tuple_value-in-Tuple
renamed-returns-in_ok-tuple_value-in-Tuple t c =
    let name = numbered_by c.args.numbers.now in
    c.in_ok-tuple_value-in-Tuple.ensures
    ∙ ap (λ vs. Value.Tuple vs) (c.in_ok-parts-in-Tuple.ensures ∙ ap (map (λ v. renamed_value v name)) (c.as_slice.ensures ∙ c.deref.ensures))
    ∙ sym (ap (λ v. renamed_value v name) c.in-Tuple.is ∙ renamed-Tuple c.in-Tuple.parts name)

pub renamed-returns-in_ok-list_value-in-List : goal.renamed-returns-in_ok-list_value-in-List
renamed-returns-in_ok-list_value-in-List t c =
    let name = numbered_by c.args.numbers.now in
    c.in_ok-list_value-in-List.ensures
    ∙ ap (λ vs. Value.List vs) (c.in_ok-elements-in-List.ensures ∙ ap (map (λ v. renamed_value v name)) (c.as_slice-in-List.ensures ∙ c.deref-in-List.ensures))
    ∙ sym (ap (λ v. renamed_value v name) c.in-List.is ∙ renamed-List c.in-List.elements name)

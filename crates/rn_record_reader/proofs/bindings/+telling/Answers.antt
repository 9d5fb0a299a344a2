use Rattle.std.proofs.Common.{map, sym, ap, ◌∙◌}
use Rattle.rn_value.specs.declared.value.Value.TheVariants as Value
use Rattle.rn_model.specs.Firing.{renamed_value}
use Rattle.rn_model.proofs.NumberedInstances.{renamed-Tuple, renamed-List}
use Rattle.rn_record_reader.specs.Bindings.{unnumbered}
use Rattle.rn_record_reader.proofs.bindings.+telling.Goals as goal

pub told_value-returns-in_ok-tuple_value-in-Tuple : goal.told_value-returns-in_ok-tuple_value-in-Tuple
told_value-returns-in_ok-tuple_value-in-Tuple t c =
    let name = unnumbered c.args.makers.now c.args.count in
    c.in_ok-tuple_value-in-Tuple.ensures
    ∙ ap (λ vs. Value.Tuple vs) (c.in_ok-parts-in-Tuple.ensures ∙ ap (map (λ v. renamed_value v name)) (c.as_slice.ensures ∙ c.deref.ensures))
    ∙ sym (ap (λ v. renamed_value v name) c.in-Tuple.is ∙ renamed-Tuple c.in-Tuple.parts name)

pub told_value-returns-in_ok-list_value-in-List : goal.told_value-returns-in_ok-list_value-in-List
told_value-returns-in_ok-list_value-in-List t c =
    let name = unnumbered c.args.makers.now c.args.count in
    c.in_ok-list_value-in-List.ensures
    ∙ ap (λ vs. Value.List vs) (c.in_ok-elements-in-List.ensures ∙ ap (map (λ v. renamed_value v name)) (c.as_slice-in-List.ensures ∙ c.deref-in-List.ensures))
    ∙ sym (ap (λ v. renamed_value v name) c.in-List.is ∙ renamed-List c.in-List.elements name)

use Rattle.std.proofs.Common.{length, map, refl, sym, ap, ◌∙◌, subst, arith}
use Rattle.std.proofs.lemmas.List.{map-set}
use Rattle.rn_model.specs.Markings.{Instance}
use Rattle.rn_table.specs.link.Leaves.{Ascending}
use Rattle.rn_table.specs.link.Steps.{Step, after_step}
use Rattle.rn_table.proofs.InstanceLemmas.{NoneHas, read_value}
use Rattle.rn_table.proofs.StepLemmas.{none_stay, one_set}
use Rattle.rn_table.proofs.page.Page.edit.Goals as goal

pub edit_instance-requires : goal.edit_instance-requires
edit_instance-requires c =
    let here = read_value (λ a. a.value) c.self.inside.instances.items c.args.self.now c.in-Some.index c.index_mut.result.now c.self.view_is c.in-Some.ensures.inside c.index_mut.ensures.value in
    ap (λ (i : Instance). i.number) here ∙ c.in-Some.ensures.here c.index_mut.result.now.value ∙ ap (λ (s : Step). s.inst) c.edit.view_is

pub returns-in_default : goal.returns-in_default
returns-in_default c = sym (none_stay c.args.edit.now c.args.self.now (subst (λ n. NoneHas n c.args.self.now) (ap (λ (s : Step). s.inst) c.edit.view_is) c.in_default.ensures.none))

pub returns : goal.returns
returns c =
    let xs = c.self.inside.instances.items in
    let seen = map (λ a. a.value) xs in
    let here = read_value (λ a. a.value) xs seen c.in-Some.index c.index_mut.result.now refl (omega (arith, c.in-Some.ensures.inside, ap length c.self.view_is)) c.index_mut.ensures.value in
    let whole = read_value (λ a. a.value) xs c.args.self.now c.in-Some.index c.index_mut.result.now c.self.view_is c.in-Some.ensures.inside c.index_mut.ensures.value in
    map-set (λ a. a.value) xs c.in-Some.index c.edit_instance.new.inst
    ∙ one_set c.args.edit.now seen c.in-Some.index c.index_mut.result.now.value c.edit_instance.new.inst.value (subst Ascending (sym c.self.view_is) c.requires) (omega (arith, c.in-Some.ensures.inside, ap length c.self.view_is)) here
    (ap (λ (i : Instance). i.number) whole ∙ c.in-Some.ensures.here c.index_mut.result.now.value ∙ ap (λ (s : Step). s.inst) c.edit.view_is) c.in_ok-edit_instance.ensures
    ∙ ap (map (after_step c.args.edit.now)) c.self.view_is

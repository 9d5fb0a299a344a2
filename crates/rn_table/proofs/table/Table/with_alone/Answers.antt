use Rattle.std.proofs.Common.{List, map, sym, ap, ◌∙◌, subst}
use Rattle.std.specs.Option.{option_copied, option_to_list}
use Rattle.rn_value.specs.declared.value.Value.{Value}
use Rattle.rn_model.specs.Markings.{Marking}
use Rattle.rn_table.specs.Alone.{alone}
use Rattle.rn_table.specs.Tables.{Kept, starting_in}
use Rattle.rn_table.specs.link.Leaves.{IsTable, instances_in, starting_from}
use Rattle.rn_table.specs.link.Steps.{after_step}
use Rattle.rn_table.proofs.AloneLemmas.{instances_alone, starts_alone}
use Rattle.rn_table.proofs.table.Table.with_alone.Goals as goal

pub invariant_of-result : goal.invariant_of-result
invariant_of-result c = c.in_ok-edit_one.ensures.table c.self.inside.next (subst (IsTable c.self.inside.next) (sym c.in_ok-leaves.ensures) c.self.invariant)

pub returns-clause-marking : goal.returns-clause-marking
returns-clause-marking c =
    let s = c.holding-edit.result in
    let is = c.holding-edit.ensures in
    let vs : List Value = option_to_list (option_copied c.args.token) in
    ap (λ is. let m : Marking = record { next = c.self.inside.next; instances = is } in m)
    (c.in_ok-edit_one.ensures.instances ∙ ap (λ ls. map (after_step s) (instances_in ls)) c.in_ok-leaves.ensures
    ∙ instances_alone s c.args.n c.args.place vs is.inst is.place is.alone is.tokens (instances_in c.self.inside.leaves))
    ∙ ap (λ (t : Kept). alone c.args.n c.args.place vs t.marking) c.self.view_is

pub returns-clause-of_system : goal.returns-clause-of_system
returns-clause-of_system c = λ system was.
    let s = c.holding-edit.result in
    let is = c.holding-edit.ensures in
    let vs : List Value = option_to_list (option_copied c.args.token) in
    c.in_ok-edit_one.ensures.starting ∙ ap (starting_from 0) c.in_ok-leaves.ensures ∙ ap (λ (t : Kept). t.starting) c.self.view_is
    ∙ was ∙ sym (starts_alone s c.args.n c.args.place vs is.inst is.place is.alone is.tokens system c.args.self.now.marking)
    ∙ ap (starting_in system) (sym (returns-clause-marking c))

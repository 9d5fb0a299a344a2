use Rattle.std.proofs.Common.{◌∙◌, sym, arith, []}
use Rattle.std.specs.Prelude.{⊤}
use Rattle.rn_model.specs.declared.binding.Binding.{Binding}
use Rattle.rn_finder.specs.Starting.{HasStartIn}
use Rattle.rn_finder.proofs.FirstBindings.{first_of_all, none_first}
use Rattle.rn_finder.proofs.JustThese.{just_none}
use Rattle.rn_finder.proofs.StartingBindings.{all_before, more_before}
use Rattle.rn_finder.proofs.StartingBindings.{next_is_below, next_is_later}
use Rattle.rn_parted.proofs.firsts.first_at.Goals as goal

pub overflow_add-from : goal.overflow_add-from
overflow_add-from c =
    let below = next_is_below c.args.marked.system.now c.args.marked.uplinks.now
    c.args.marked.table.now c.args.marked.depth c.requires.searched c.loop-number.from c.in-Some.number
    (sym c.first_starting.ensures ∙ c.in-Some.is) in
    omega arith

pub loop-number-preserved : goal.loop-number-preserved
loop-number-preserved c =
    more_before c.args.marked.system.now c.args.marked.uplinks.now c.args.marked.table.now
    c.args.marked.depth c.requires.searched c.loop-number.from c.in-Some.number [] []
    (sym c.first_starting.ensures ∙ c.in-Some.is) c.loop-number.invariant
    (just_none c.args.marked.system.now c.args.marked.table.now.marking c.args.marked.depth
    (HasStartIn c.in-Some.number) (rw c.in_default-found.is at c.in_ok-found.ensures))

pub loop-number-smaller : goal.loop-number-smaller
loop-number-smaller c =
    let later = next_is_later c.args.marked.system.now c.args.marked.uplinks.now
    c.args.marked.table.now c.args.marked.depth c.requires.searched c.loop-number.from c.in-Some.number
    (sym c.first_starting.ensures ∙ c.in-Some.is) in
    let below = next_is_below c.args.marked.system.now c.args.marked.uplinks.now
    c.args.marked.table.now c.args.marked.depth c.requires.searched c.loop-number.from c.in-Some.number
    (sym c.first_starting.ensures ∙ c.in-Some.is) in
    omega arith

pub returns-in-Some-found : goal.returns-in-Some-found
returns-in-Some-found c =
    first_of_all c.args.marked.system.now c.args.marked.uplinks.now c.args.marked.table.now
    c.args.marked.depth c.requires.searched c.loop-number.from c.in-Some.number c.in-Some-found.first
    (sym c.first_starting.ensures ∙ c.in-Some.is) c.loop-number.invariant
    (rw c.in-Some-found.is at c.in_ok-found.ensures)

pub returns : goal.returns
returns c =
    none_first c.args.marked.system.now c.args.marked.table.now.marking c.args.marked.depth
    (λ (b : Binding). ⊤)
    (all_before c.args.marked.system.now c.args.marked.uplinks.now c.args.marked.table.now
    c.args.marked.depth c.requires.searched c.loop-number.from []
    (sym c.first_starting.ensures ∙ c.in_default.is) c.loop-number.invariant)

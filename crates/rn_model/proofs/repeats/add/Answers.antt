use Rattle.std.proofs.Common.{ap, sym, subst, ◌∙◌}
use Rattle.rn_model.specs.Repeats.{values_of, AreParted, EndsIn}
use Rattle.rn_model.proofs.RepeatedValues.{more_are_parted, more_values, another_at_end}
use Rattle.rn_model.proofs.repeats.add.Goals as goal

pub returns-then-ends_in-clause-parted : goal.returns-then-ends_in-clause-parted
returns-then-ends_in-clause-parted c =
    subst AreParted (sym c.repeat_last.ensures)
    (more_are_parted c.args.parts.now.items c.args.count c.requires.parted)

pub returns-then-ends_in-clause-ok : goal.returns-then-ends_in-clause-ok
returns-then-ends_in-clause-ok c =
    let ends : EndsIn c.args.value c.args.parts.now.items =
    subst (EndsIn c.args.value) c.as_slice.ensures.value (c.ends_in.ensures.0 c.if-ends_in.true) in
    ap values_of c.repeat_last.ensures
    ∙ more_values c.args.parts.now.items c.args.value c.args.count ends

pub returns-clause-parted : goal.returns-clause-parted
returns-clause-parted c =
    let other : EndsIn c.args.value c.args.parts.now.items → ⊥ =
    λ ends.
    let is = c.ends_in.ensures.1 (subst (EndsIn c.args.value) (sym c.as_slice.ensures.value) ends) in
    let f = c.if-ends_in.false in
    let no : ⊥ = cc in no in
    subst AreParted (sym c.in_ok-push.ensures.items)
    (another_at_end c.args.parts.now.items c.args.value c.args.count c.requires.parted other c.requires.some)

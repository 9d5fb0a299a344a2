use Rattle.std.proofs.Common.{◌≡◌, [], sym, subst}
use Rattle.std.specs.Prelude.{None, Some, IfOk, ◌↔◌}
use Rattle.rn_value.specs.declared.value.InstRef.{InstRef}
use Rattle.rn_value.specs.declared.value.Value.TheVariants as Worth
use Rattle.rn_growing.specs.declared.slot.Unknown.TheVariants.{Var, Hole}
use Rattle.rn_growing.specs.Decisions.{site_of}
use Rattle.rn_growing.specs.Equations.{IsForcedTo, read_at}
use Rattle.rn_growing.specs.link.Layouts.{asked}
use Rattle.rn_growing.proofs.BuildingSteps.{neg_is, op_is, this_is, var_is}
use Rattle.rn_growing.proofs.ForcedInstances.{NamesNone, cons_names_none, int_names_none}
use Rattle.rn_growing.proofs.ForcedInstances.{list_names_none, step_names_none, text_names_none}
use Rattle.rn_growing.proofs.ForcedInstances.{told_alike, told_none, told_this, tuple_names_none}
use Rattle.rn_growing.proofs.growing.Growing.target.Goals as goal

pub returns-in_ok-inst-in-This : goal.returns-in_ok-inst-in-This
returns-in_ok-inst-in-This c =
    subst (λ g. (i : InstRef) → (Some c.in_ok-inst-in-This.inst ≡ Some i) ↔ IsForcedTo g.system
    g.decisions (λ a. read_at a c.args.head.now (site_of c.args.site) c.args.target.now)
    (Worth.Inst i)) c.self.view_is
    (told_this c.self.inside.system.now c.self.inside.laid c.self.inside.decisions.items
    c.self.invariant.0.says
    (λ a. read_at a c.args.head.now (site_of c.args.site) c.args.target.now)
    c.args.head.now.inst c.in_ok-inst-in-This.inst c.in_ok-inst-in-This.ensures
    (λ a. sym (this_is c.args.head.now (site_of c.args.site) [] c.args.target.now c.in-This.is a)))

pub returns-in-Var : goal.returns-in-Var
returns-in-Var c =
    told_alike c.instance.result c.args.self.now.system c.args.self.now.decisions
    (λ a. Some (asked a c.args.head.now.path (Var c.in-Var.x)))
    (λ a. read_at a c.args.head.now (site_of c.args.site) c.args.target.now)
    (var_is c.args.head.now (site_of c.args.site) [] c.args.target.now c.in-Var.x c.in-Var.is)
    c.instance.ensures

pub returns-in-Neg : goal.returns-in-Neg
returns-in-Neg c =
    told_alike c.instance-in-Neg.result c.args.self.now.system c.args.self.now.decisions
    (λ a. Some (asked a c.args.head.now.path (Hole c.args.site [])))
    (λ a. read_at a c.args.head.now (site_of c.args.site) c.args.target.now)
    (neg_is c.args.head.now (site_of c.args.site) [] c.args.target.now _ c.in-Neg.is)
    (subst (λ w. IfOk c.instance-in-Neg.result
    (λ told. (i : InstRef) → (told ≡ Some i) ↔ IsForcedTo c.args.self.now.system
    c.args.self.now.decisions (λ a. Some (asked a c.args.head.now.path (Hole c.args.site w)))
    (Worth.Inst i))) c.new.ensures c.instance-in-Neg.ensures)

pub returns-in-Op : goal.returns-in-Op
returns-in-Op c =
    told_alike c.instance-in-Op.result c.args.self.now.system c.args.self.now.decisions
    (λ a. Some (asked a c.args.head.now.path (Hole c.args.site [])))
    (λ a. read_at a c.args.head.now (site_of c.args.site) c.args.target.now)
    (op_is c.args.head.now (site_of c.args.site) [] c.args.target.now _ _ _ c.in-Op.is)
    (subst (λ w. IfOk c.instance-in-Op.result
    (λ told. (i : InstRef) → (told ≡ Some i) ↔ IsForcedTo c.args.self.now.system
    c.args.self.now.decisions (λ a. Some (asked a c.args.head.now.path (Hole c.args.site w)))
    (Worth.Inst i))) c.new-in-Op.ensures c.instance-in-Op.ensures)

pub returns-in-Int : goal.returns-in-Int
returns-in-Int c =
    subst (λ g. (i : InstRef) → (None ≡ Some i) ↔ IsForcedTo g.system g.decisions
    (λ a. read_at a c.args.head.now (site_of c.args.site) c.args.target.now) (Worth.Inst i))
    c.self.view_is
    (told_none c.self.inside.system.now c.self.inside.laid c.self.inside.decisions.items
    c.self.invariant.0.says
    (λ a. read_at a c.args.head.now (site_of c.args.site) c.args.target.now)
    (λ a. subst (λ e. NamesNone (read_at a c.args.head.now (site_of c.args.site) e))
    (sym c.in-Int.is) (int_names_none _ _)))

pub returns-in-Text : goal.returns-in-Text
returns-in-Text c =
    subst (λ g. (i : InstRef) → (None ≡ Some i) ↔ IsForcedTo g.system g.decisions
    (λ a. read_at a c.args.head.now (site_of c.args.site) c.args.target.now) (Worth.Inst i))
    c.self.view_is
    (told_none c.self.inside.system.now c.self.inside.laid c.self.inside.decisions.items
    c.self.invariant.0.says
    (λ a. read_at a c.args.head.now (site_of c.args.site) c.args.target.now)
    (λ a. subst (λ e. NamesNone (read_at a c.args.head.now (site_of c.args.site) e))
    (sym c.in-Text.is) (text_names_none _ _)))

pub returns-in-Step : goal.returns-in-Step
returns-in-Step c =
    subst (λ g. (i : InstRef) → (None ≡ Some i) ↔ IsForcedTo g.system g.decisions
    (λ a. read_at a c.args.head.now (site_of c.args.site) c.args.target.now) (Worth.Inst i))
    c.self.view_is
    (told_none c.self.inside.system.now c.self.inside.laid c.self.inside.decisions.items
    c.self.invariant.0.says
    (λ a. read_at a c.args.head.now (site_of c.args.site) c.args.target.now)
    (λ a. subst (λ e. NamesNone (read_at a c.args.head.now (site_of c.args.site) e))
    (sym c.in-Step.is) (step_names_none _)))

pub returns-in-Tuple : goal.returns-in-Tuple
returns-in-Tuple c =
    subst (λ g. (i : InstRef) → (None ≡ Some i) ↔ IsForcedTo g.system g.decisions
    (λ a. read_at a c.args.head.now (site_of c.args.site) c.args.target.now) (Worth.Inst i))
    c.self.view_is
    (told_none c.self.inside.system.now c.self.inside.laid c.self.inside.decisions.items
    c.self.invariant.0.says
    (λ a. read_at a c.args.head.now (site_of c.args.site) c.args.target.now)
    (λ a. subst (λ e. NamesNone (read_at a c.args.head.now (site_of c.args.site) e))
    (sym c.in-Tuple.is) (tuple_names_none _ _)))

pub returns-in-List : goal.returns-in-List
returns-in-List c =
    subst (λ g. (i : InstRef) → (None ≡ Some i) ↔ IsForcedTo g.system g.decisions
    (λ a. read_at a c.args.head.now (site_of c.args.site) c.args.target.now) (Worth.Inst i))
    c.self.view_is
    (told_none c.self.inside.system.now c.self.inside.laid c.self.inside.decisions.items
    c.self.invariant.0.says
    (λ a. read_at a c.args.head.now (site_of c.args.site) c.args.target.now)
    (λ a. subst (λ e. NamesNone (read_at a c.args.head.now (site_of c.args.site) e))
    (sym c.in-List.is) (list_names_none _ _)))

pub returns-in-Cons : goal.returns-in-Cons
returns-in-Cons c =
    subst (λ g. (i : InstRef) → (None ≡ Some i) ↔ IsForcedTo g.system g.decisions
    (λ a. read_at a c.args.head.now (site_of c.args.site) c.args.target.now) (Worth.Inst i))
    c.self.view_is
    (told_none c.self.inside.system.now c.self.inside.laid c.self.inside.decisions.items
    c.self.invariant.0.says
    (λ a. read_at a c.args.head.now (site_of c.args.site) c.args.target.now)
    (λ a. subst (λ e. NamesNone (read_at a c.args.head.now (site_of c.args.site) e))
    (sym c.in-Cons.is) (cons_names_none _ _ _)))

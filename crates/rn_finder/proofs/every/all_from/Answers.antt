use Rattle.std.proofs.Common.{subst, sym, ap}
use Rattle.std.specs.Prelude.{IsTrue}
use Rattle.rn_model.specs.declared.binding.Binding.{Binding}
use Rattle.rn_search.specs.Missing.{MayStart}
use Rattle.rn_search.specs.Sought.{Sought, StartsAt}
use Rattle.rn_finder.specs.Starting.{AreJust, start_of}
use Rattle.rn_finder.proofs.Branches.{just_found, opened_at}
use Rattle.rn_finder.proofs.JustThese.{just_none}
use Rattle.rn_finder.proofs.KeptStarts.{kept_may_start, none_unless_may}
use Rattle.rn_finder.proofs.every.all_from.Goals as goal

pub returns-then-not-may_start : goal.returns-then-not-may_start
returns-then-not-may_start c =
    let i = c.args.inst.now in
    let system = c.args.marked.system.now in
    let m = c.args.marked.table.now.marking in
    let Of = λ (b : Binding). StartsAt b (start_of i.number i.net c.args.transition) in
    subst (AreJust system m c.args.marked.depth Of) (sym c.new.ensures.items)
    (just_none system m c.args.marked.depth Of
    (none_unless_may system m c.args.marked.depth i c.args.transition c.requires.kept
    (λ may. let starts : IsTrue c.may_start.result = c.may_start.ensures.1 may in
    let no : ⊥ = cc in no)))

pub problem_at-requires-clause-starts : goal.problem_at-requires-clause-starts
problem_at-requires-clause-starts c =
    let system = c.args.marked.system.now in
    let m = c.args.marked.table.now.marking in
    let i = c.args.inst.now in
    subst (λ n. MayStart system m (start_of n c.net.result c.args.transition))
    (sym c.number.ensures)
    (subst (λ n. MayStart system m (start_of i.number n c.args.transition)) (sym c.net.ensures)
    (kept_may_start system m i c.args.transition c.requires.kept c.requires.there
    (c.may_start.ensures.0 c.if-not-may_start.false).0))

pub all-requires : goal.all-requires
all-requires c =
    opened_at c.in_ok-problem.problem c.args.marked.system.now c.open-branch.result
    (sym (ap (λ (p : Sought). p.system) c.in_ok-problem.ensures)) c.open-branch.ensures

pub returns : goal.returns
returns c =
    let system = c.args.marked.system.now in
    let m = c.args.marked.table.now.marking in
    let depth = c.args.marked.depth in
    let found = c.in_ok-found.found.items in
    subst
    (λ n. AreJust system m depth
    (λ b. StartsAt b (start_of n c.args.inst.now.net c.args.transition)) found)
    c.number.ensures
    (subst
    (λ n. AreJust system m depth
    (λ b. StartsAt b (start_of c.number.result n c.args.transition)) found)
    c.net.ensures
    (subst
    (λ (p : Sought). AreJust p.system p.marking p.depth (λ b. StartsAt b p.start) found)
    c.in_ok-problem.ensures
    (just_found c.in_ok-problem.problem found c.in_ok-found.ensures.all
    c.in_ok-found.ensures.once)))

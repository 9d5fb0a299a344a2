-- By what is decided.
use Rattle.std.proofs.Common.{sym, subst}
use Rattle.std.specs.Prelude.{IfOk}
use Rattle.rn_growing.specs.Grown.{IsNew, Tries}
use Rattle.rn_growing.specs.Turns.{MayCome}
use Rattle.rn_branch.proofs.settling.decide.Goals as goal

pub enter-requires-clause-may_come : goal.enter-requires-clause-may_come
enter-requires-clause-may_come c =
    subst (MayCome c.args.growing.now.system c.args.growing.now.decisions) c.in-Entered.is
    c.requires.may_come

pub enter-requires-clause-fresh : goal.enter-requires-clause-fresh
enter-requires-clause-fresh c =
    subst (IsNew c.args.growing.now.decisions) c.in-Entered.is c.requires.fresh

pub find-requires-clause-may_come : goal.find-requires-clause-may_come
find-requires-clause-may_come c =
    subst (MayCome c.args.growing.now.system c.args.growing.now.decisions) c.in-Found.is
    c.requires.may_come

pub find-requires-clause-fresh : goal.find-requires-clause-fresh
find-requires-clause-fresh c =
    subst (IsNew c.args.growing.now.decisions) c.in-Found.is c.requires.fresh

pub compute-requires-clause-may_come : goal.compute-requires-clause-may_come
compute-requires-clause-may_come c =
    subst (MayCome c.args.growing.now.system c.args.growing.now.decisions) c.in-Computed.is
    c.requires.may_come

pub compute-requires-clause-fresh : goal.compute-requires-clause-fresh
compute-requires-clause-fresh c =
    subst (IsNew c.args.growing.now.decisions) c.in-Computed.is c.requires.fresh

pub returns-in-Entered-clause-tries : goal.returns-in-Entered-clause-tries
returns-in-Entered-clause-tries c =
    subst (λ d. IfOk c.enter.result (λ yes. Tries c.args.growing.now d c.enter.new.self yes))
    (sym c.in-Entered.is) c.enter.ensures.tries

pub returns-in-Found-clause-tries : goal.returns-in-Found-clause-tries
returns-in-Found-clause-tries c =
    subst (λ d. IfOk c.find.result (λ yes. Tries c.args.growing.now d c.find.new.self yes))
    (sym c.in-Found.is) c.find.ensures.tries

pub returns-in-Computed-clause-tries : goal.returns-in-Computed-clause-tries
returns-in-Computed-clause-tries c =
    subst (λ d. IfOk c.compute.result (λ yes. Tries c.args.growing.now d c.compute.new.self yes))
    (sym c.in-Computed.is) c.compute.ensures.tries

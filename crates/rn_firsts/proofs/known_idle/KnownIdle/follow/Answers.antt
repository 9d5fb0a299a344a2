use Rattle.std.proofs.Common.{sym, subst}
use Rattle.rn_firsts.specs.Resting.{KnowsIdle}
use Rattle.rn_firsts.proofs.known_idle.KnownIdle.follow.Goals as goal

pub returns-in-Ok : goal.returns-in-Ok
returns-in-Ok c system before depth known comes =
    c.in-Ok.ensures system before depth
    (subst (KnowsIdle system before depth) (sym c.is_due.ensures) known) comes

pub returns-then-not-is_due : goal.returns-then-not-is_due
returns-then-not-is_due c system before depth known comes =
    c.forget.ensures system c.args.table.now.marking depth

pub returns-in-Err : goal.returns-in-Err
returns-in-Err c system before depth known comes =
    c.forget-in-Err.ensures system c.args.table.now.marking depth

-- Where it is due, all that isn't live is listed.
use Rattle.std.proofs.Common.{◌≡◌, ◌∙◌}
use Rattle.std.specs.Prelude.{true}
use Rattle.rn_worker.proofs.DroppingFirst.{due_holds}
use Rattle.rn_worker.proofs.considering.plan_at.Goals as goal

pub returns-clause-due : goal.returns-clause-due
returns-clause-due c is =
    let due : c.is_due-due.result ≡ true =
    due_holds c.args.task.options.now.sweep_every c.args.view.sight.table.marking.next c.next.result c.args.pace c.is_due-due.result c.next.ensures.number c.is_due-due.ensures.exact is in
    (c.in_ok-dead.ensures.all due, c.in_ok-dead.ensures.met ∙ due)

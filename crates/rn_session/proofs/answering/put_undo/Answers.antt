-- The names that are left begin those of before.
use Rattle.std.proofs.Common.{sym, subst}
use Rattle.std.specs.Prelude.{Ok}
use Rattle.rn_fire.specs.States.{State}
use Rattle.rn_session.specs.link.Serving.{AreNamesBefore}
use Rattle.rn_session.specs.Sessions.{UndoesBy}
use Rattle.rn_session.proofs.AnsweredRequests.{names_left}
use Rattle.rn_session.proofs.answering.put_undo.Goals as goal

pub cut_names-requires : goal.cut_names-requires
cut_names-requires c =
    let old : State = c.args.session.now in
    let new : State = c.undo.new.self in
    subst (AreNamesBefore new) (sym c.requires)
    (names_left old new c.args.k
    (subst (λ done. UndoesBy old c.args.k (Ok done) new) c.if-branch.true c.in_ok-undo.ensures))

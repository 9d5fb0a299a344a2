-- The marks are those of the live part at the end of the log, and can be written.
use Rattle.std.proofs.Common.{sym, ap, subst, ◌∙◌}
use Rattle.std.specs.Prelude.{All}
use Rattle.rn_value.specs.Names.{AreNamed}
use Rattle.rn_model.specs.declared.system.System.{System}
use Rattle.rn_model.specs.Markings.{IsMarking}
use Rattle.rn_live.proofs.GoodPlaces.{good_places}
use Rattle.rn_fire.specs.States.{State}
use Rattle.rn_session.proofs.AnsweredRequests.{marks_named}
use Rattle.rn_session.proofs.showing.put_show.Goals as goal

pub live_part-requires : goal.live_part-requires
live_part-requires c =
    let t = c.table.result.now in
    good_places c.system-system.result.now t.marking c.system-system.ensures.good
    (subst (λ (x : System). IsMarking x t.marking) (sym c.system-system.ensures.system) c.table.ensures.stands.form)

pub put_marks-requires-clause-named : goal.put_marks-requires-clause-named
put_marks-requires-clause-named c =
    let s : State = c.args.session.now in
    let t = c.table.result.now in
    let marks = c.in_ok-marks.marks in
    let own = c.system-system.ensures.system ∙ ap (λ (x : State). x.setup.system) c.state-state.ensures.state in
    let table = c.table.ensures.table ∙ ap (λ (x : State). x.table) c.state-state.ensures.state in
    subst (λ lines. All (λ line. All (AreNamed c.args.names.now) line.values) lines) (sym c.as_slice.ensures)
    (subst (λ ns. All (λ line. All (AreNamed ns) line.values) marks) (sym c.requires)
    (marks_named s c.state-state.ensures.session c.system-system.result.now t own table marks c.in_ok-marks.ensures))

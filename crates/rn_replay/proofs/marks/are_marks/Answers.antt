-- The lines of the table decide.
use Rattle.std.proofs.Common.{◌≡◌, sym, subst}
use Rattle.std.specs.Prelude.{◌↔◌, IsTrue}
use Rattle.rn_model.specs.Liveness.{LivePart}
use Rattle.rn_model.specs.Markings.{IsMarking}
use Rattle.rn_fire.specs.States.{end_marking}
use Rattle.rn_live.proofs.GoodPlaces.{good_places}
use Rattle.rn_replay.proofs.MarkLemmas.{marks_decide}
use Rattle.rn_replay.proofs.marks.are_marks.Goals as goal

pub live_part-requires : goal.live_part-requires
live_part-requires c =
    let table = c.table-table.result.now.marking in
    good_places c.system-system.result.now table c.system-system.ensures.good
    (subst (λ x. IsMarking x table) (sym c.system-system.ensures.system) c.table-table.ensures.stands.form)

pub returns : goal.returns
returns c =
    let s = c.args.state.now in
    let table = c.table-table.result.now.marking in
    let marks = c.args.marks.now in
    marks_decide s.setup.system table (end_marking s) c.in_ok-lines.lines marks c.same_lines.result
    c.table-table.ensures.stands
    (subst (λ x. LivePart x table c.in_ok-lines.lines) c.system-system.ensures.system c.in_ok-lines.ensures)
    (subst (λ x. IsTrue c.same_lines.result ↔ (x ≡ marks)) c.as_slice.ensures c.same_lines.ensures)

-- The table stands for the end of the log, so its live part is that of the end.
use Rattle.std.proofs.Common.{◌≡◌, sym, ◌∙◌, subst}
use Rattle.std.proofs.lemmas.Result.{IfOk-weaker}
use Rattle.rn_live.proofs.GoodPlaces.{good_places}
use Rattle.rn_record.specs.RecordText.{record_text}
use Rattle.rn_record.specs.Writable.{HasText}
use Rattle.rn_fire.specs.States.{logged}
use Rattle.rn_state_record.specs.Written.{IsRecordOf}
use Rattle.rn_state_record.proofs.WrittenStates.{has_text, is_marking, live_at_end}
use Rattle.rn_state_record.proofs.writing.write_record.Goals as goal

pub live_part-requires : goal.live_part-requires
live_part-requires c =
    let system = c.system-system in
    let table = c.table-table in
    good_places system.result.now table.result.now.marking system.ensures.good
    (is_marking c.args.state.now system.result.now table.result.now.marking system.ensures.system
    system.ensures.good table.ensures.stands)

pub write_run-requires-clause-text : goal.write_run-requires-clause-text
write_run-requires-clause-text c =
    let system = c.system-system in
    let table = c.table-table in
    subst (λ marks. HasText system.result.now (record { entries = c.entries.result.now; marks = marks }))
    (sym c.as_slice.ensures)
    (has_text c.args.state.now system.result.now table.result.now.marking system.ensures.system
    system.ensures.good table.ensures.stands c.in_ok-marks.marks c.in_ok-marks.ensures
    c.entries.result.now c.entries.ensures.entries c.entries.ensures.log)

pub returns : goal.returns
returns c =
    let s = c.args.state.now in
    let system = c.system-system in
    let table = c.table-table in
    let marks = c.in_ok-marks.marks in
    let entries = c.entries.result.now in
    let are : entries ≡ logged s = c.entries.ensures.entries in
    let live =
    live_at_end s system.result.now table.result.now.marking system.ensures.system
    system.ensures.good table.ensures.stands marks c.in_ok-marks.ensures in
    IfOk-weaker c.write_run.result
    (λ text. text.items ≡ record_text c.args.format system.result.now (record { entries = entries; marks = c.as_slice.result.now }))
    (λ text. IsRecordOf c.args.format s text.items)
    (λ text is. record {
      marks = marks;
      live = live;
      text = is ∙ (λ i. record_text c.args.format (system.ensures.system i)
          (record { entries = are i; marks = c.as_slice.ensures i }));
    }) c.write_run.ensures

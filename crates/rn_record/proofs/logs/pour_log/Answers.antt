-- The entries come after the first line.
use Rattle.std.proofs.Common.{subst}
use Rattle.rn_pour.specs.Flows.{Standing, Flows}
use Rattle.rn_pour.proofs.Flows.{flows_on, breaks_later}
use Rattle.rn_record.specs.RecordText.{entries_text, header_text}
use Rattle.rn_record.specs.Nets.{first_of}
use Rattle.rn_record.proofs.PartsOfRecords.{on_err_by, on_ok_by}
use Rattle.rn_record.proofs.logs.pour_log.Goals as goal

pub returns-clause-ok : goal.returns-clause-ok
returns-clause-ok g c =
    let sink = g.O.Sink in
    let start : Standing = record { held = sink.held c.args.sink.now; faults = sink.faults c.args.sink.now; writes = sink.writes c.args.sink.now; empty_writes = sink.empty_writes c.args.sink.now } in
    let mid : Standing = record { held = sink.held c.pour.new.sink; faults = sink.faults c.pour.new.sink; writes = sink.writes c.pour.new.sink; empty_writes = sink.empty_writes c.pour.new.sink } in
    let since : Standing = record { held = sink.held c.pour_entries.new.sink; faults = sink.faults c.pour_entries.new.sink; writes = sink.writes c.pour_entries.new.sink; empty_writes = sink.empty_writes c.pour_entries.new.sink } in
    let text = header_text c.args.log.now.format in
    let later = entries_text c.args.log.now.system.now (first_of c.args.log.now.system.now c.args.log.now.nets.now 1) 1 c.args.log.now.entries.now in
    let first : Flows start c.args.window.now.kept text mid c.pour.new.window.kept =
    subst (λ t. Flows start c.args.window.now.kept t mid c.pour.new.window.kept) c.header.ensures c.in_ok-pour.ensures.ok in
    on_ok_by c.pour_entries.result
    (λ flows. flows_on start mid since c.args.window.now.kept text c.pour.new.window.kept later c.pour_entries.new.window.kept first flows)
    c.pour_entries.ensures.ok

pub returns-clause-err : goal.returns-clause-err
returns-clause-err g c =
    let sink = g.O.Sink in
    let start : Standing = record { held = sink.held c.args.sink.now; faults = sink.faults c.args.sink.now; writes = sink.writes c.args.sink.now; empty_writes = sink.empty_writes c.args.sink.now } in
    let mid : Standing = record { held = sink.held c.pour.new.sink; faults = sink.faults c.pour.new.sink; writes = sink.writes c.pour.new.sink; empty_writes = sink.empty_writes c.pour.new.sink } in
    let since : Standing = record { held = sink.held c.pour_entries.new.sink; faults = sink.faults c.pour_entries.new.sink; writes = sink.writes c.pour_entries.new.sink; empty_writes = sink.empty_writes c.pour_entries.new.sink } in
    let text = header_text c.args.log.now.format in
    let later = entries_text c.args.log.now.system.now (first_of c.args.log.now.system.now c.args.log.now.nets.now 1) 1 c.args.log.now.entries.now in
    let first : Flows start c.args.window.now.kept text mid c.pour.new.window.kept =
    subst (λ t. Flows start c.args.window.now.kept t mid c.pour.new.window.kept) c.header.ensures c.in_ok-pour.ensures.ok in
    on_err_by c.pour_entries.result
    (λ breaks. breaks_later start mid since c.args.window.now.kept text c.pour.new.window.kept later first breaks)
    c.pour_entries.ensures.err

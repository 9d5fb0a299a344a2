use Rattle.std.proofs.Common.{sym, ◌∙◌, append-nil}
use Rattle.rn_pour.specs.Flows.{Standing}
use Rattle.rn_pour.proofs.Flows.{piece_taken}
use Rattle.rn_pour.proofs.pouring.flush.Goals as goal

pub returns-in-Ok-clause-ok : goal.returns-in-Ok-clause-ok
returns-in-Ok-clause-ok g c =
    let sink = g.O.Sink in
    let before : Standing = record {
      held = sink.held c.args.sink.now;
      faults = sink.faults c.args.sink.now;
      writes = sink.writes c.args.sink.now;
      empty_writes = sink.empty_writes c.args.sink.now;
    } in
    let since : Standing = record {
      held = sink.held c.write_all.new.sink;
      faults = sink.faults c.write_all.new.sink;
      writes = sink.writes c.write_all.new.sink;
      empty_writes = sink.empty_writes c.write_all.new.sink;
    } in
    let wrote = c.in-Ok.ensures in
    piece_taken before since _ _ _ (c.kept.ensures ∙ sym (append-nil _))
    wrote.all wrote.no_fault wrote.calls_ok wrote.none_empty

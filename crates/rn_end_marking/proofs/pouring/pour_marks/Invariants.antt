use Rattle.std.proofs.Common.{◌≡◌}
use Rattle.rn_pour.specs.Flows.{Flows}
use Rattle.rn_end_marking.specs.MarkTexts.{marks_text}
use Rattle.rn_end_marking.specs.link.Lines.{lines_below}
use Rattle.rn_end_marking.proofs.pouring.pour_marks.Given as goal

-- the lines of the first instances came, and wait or were written
abbrev pub invariant-loop-number : goal.invariant-loop-number
invariant-loop-number g l =
    let sink = g.O.Sink in
    let m = l.marks in
    record {
      came : Flows
          (record {
            held = sink.held l.initial.sink;
            faults = sink.faults l.initial.sink;
            writes = sink.writes l.initial.sink;
            empty_writes = sink.empty_writes l.initial.sink;
          })
          l.initial.window.kept
          (marks_text m.format m.system.now m.nets.now (lines_below m.table.now.marking m.live.now.marks l.number))
          (record {
            held = sink.held l.sink;
            faults = sink.faults l.sink;
            writes = sink.writes l.sink;
            empty_writes = sink.empty_writes l.sink;
          })
          l.window.kept;
      room : l.window.room ≡ l.initial.window.room;
    }

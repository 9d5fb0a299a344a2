use Rattle.std.proofs.Common.{◌≡◌, ◌+◌, ◌-◌, ◌≤◌, length, take}
use Rattle.rn_pour.specs.Flows.{Flows}
use Rattle.rn_pour.proofs.pouring.pour.Given as goal

-- the first bytes of the text came, and wait or were written
abbrev pub invariant-loop-next : goal.invariant-loop-next
invariant-loop-next g l =
    let sink = g.O.Sink in
    let text = g.T.Text.text l.text in
    record {
      within : l.skip ≤ length text;
      came : Flows
          (record {
            held = sink.held l.initial.sink;
            faults = sink.faults l.initial.sink;
            writes = sink.writes l.initial.sink;
            empty_writes = sink.empty_writes l.initial.sink;
          })
          l.initial.window.kept (take l.skip text)
          (record {
            held = sink.held l.sink;
            faults = sink.faults l.sink;
            writes = sink.writes l.sink;
            empty_writes = sink.empty_writes l.sink;
          })
          l.window.kept;
      room : l.window.room ≡ l.initial.window.room;
    }

abbrev pub decreases-loop-next : goal.decreases-loop-next
decreases-loop-next g l = (length (g.T.Text.text l.text) - l.skip) + length l.window.kept

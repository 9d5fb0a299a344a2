use Rattle.std.proofs.Common.{◌≡◌, ◌+◌, ◌-◌, ◌≤◌, [], length, take}
use Rattle.rn_outside.specs.Bytes.{Appends}
use Rattle.rn_outside.proofs.writing.write_all.Given as goal

-- the prefix of the bytes that was taken stands in the sink, by at most one call for each byte
abbrev pub invariant-loop-taken : goal.invariant-loop-taken
invariant-loop-taken g l =
    let sink = g.O.Sink in
    record {
      within : l.taken ≤ length l.bytes;
      appends : Appends (sink.held l.initial.sink) (take l.taken l.bytes) (sink.held l.sink);
      no_fault : sink.faults l.sink ≡ sink.faults l.initial.sink;
      few : sink.writes l.sink ≤ sink.writes l.initial.sink + l.taken;
      filled : sink.empty_writes l.sink ≡ sink.empty_writes l.initial.sink;
      nothing : l.bytes ≡ [] → l.sink ≡ l.initial.sink;
    }

abbrev pub decreases-loop-taken : goal.decreases-loop-taken
decreases-loop-taken g l = length l.bytes - l.taken

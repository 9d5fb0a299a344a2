use Rattle.std.proofs.Common.{◌≡◌, ◌+◌, ◌++◌, List, ℕ, drop}
use Rattle.rn_pour.specs.Flows.{Flows}
use Rattle.rn_record.specs.RecordText.{entries_text}
use Rattle.rn_record.specs.Nets.{EntriesFit, first_of}
use Rattle.rn_record.specs.Parts.{entry_parts, AreShort}
use Rattle.rn_record.proofs.logs.pour_entries.Given as goal

-- what came so far, and the entries to come, are all; those fit, and are short
abbrev pub invariant-loop-i : goal.invariant-loop-i
invariant-loop-i g l =
    let system = l.log.system.now in
    let nets = l.log.nets.now in
    let entries = l.log.entries.now in
    let names = first_of system nets l.before in
    EntriesFit system nets l.before (drop l.i entries)
    × AreShort (entry_parts system names (l.i + 1) (drop l.i entries))
    × ((came : List ℕ)
    × (came ++ entries_text system names (l.i + 1) (drop l.i entries) ≡ entries_text system (first_of system nets 1) 1 entries)
    × Flows
    (record { held = g.O.Sink.held l.initial.sink; faults = g.O.Sink.faults l.initial.sink; writes = g.O.Sink.writes l.initial.sink; empty_writes = g.O.Sink.empty_writes l.initial.sink })
    l.initial.window.kept came
    (record { held = g.O.Sink.held l.sink; faults = g.O.Sink.faults l.sink; writes = g.O.Sink.writes l.sink; empty_writes = g.O.Sink.empty_writes l.sink })
    l.window.kept)
    × (l.window.room ≡ l.initial.window.room)

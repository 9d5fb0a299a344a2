use Rattle.std.proofs.Common.{◌≡◌, ◌+◌, drop}
use Rattle.std.specs.Prelude.{◌↔◌}
use Rattle.rn_record.specs.Nets.{EntriesFit, first_of}
use Rattle.rn_record.specs.Parts.{entry_parts, AreShort}
use Rattle.rn_record.proofs.logs.log_is_short.Given as goal

-- the entries to come fit, and what they are tells what all are
abbrev pub invariant-loop-i : goal.invariant-loop-i
invariant-loop-i l =
    let system = l.log.system.now in
    let nets = l.log.nets.now in
    let entries = l.log.entries.now in
    EntriesFit system nets l.before (drop l.i entries)
    × (AreShort (entry_parts system (first_of system nets l.before) (l.i + 1) (drop l.i entries)) ↔ AreShort (entry_parts system (first_of system nets 1) 1 entries))
    × (l.window.room ≡ l.initial.window.room)

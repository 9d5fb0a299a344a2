use Rattle.std.proofs.Common.{◌≡◌, drop}
use Rattle.rn_record.specs.RecordText.{names_at_end}
use Rattle.rn_record.specs.Nets.{EntriesFit, first_of}
use Rattle.rn_record.proofs.logs.count_named.Given as goal

-- the entries to come fit, and the names at the end are those after them
abbrev pub invariant-loop-entry : goal.invariant-loop-entry
invariant-loop-entry l =
    let system = l.log.system.now in
    let nets = l.log.nets.now in
    let entries = l.log.entries.now in
    EntriesFit system nets l.before (drop l.entry-index entries)
    × (names_at_end system (first_of system nets l.before) (drop l.entry-index entries) ≡ names_at_end system (first_of system nets 1) entries)

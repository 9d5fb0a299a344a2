use Rattle.std.proofs.Common.{◌≡◌, ◌++◌, ◌+◌, drop}
use Rattle.rn_record.specs.RecordText.{entries_text, names_at_end}
use Rattle.rn_record.specs.Writable.{HaveEntries}
use Rattle.rn_record.proofs.entries.put_entries.Given as goal

-- what is written so far and the entries to come are all, and those can be written
abbrev pub invariant-loop-i : goal.invariant-loop-i
invariant-loop-i l =
    (l.out.items ++ entries_text l.system l.names (l.i + 1) (drop l.i l.entries) ≡ l.initial.out.items ++ entries_text l.system l.initial.names 1 l.entries)
    × (names_at_end l.system l.names (drop l.i l.entries) ≡ names_at_end l.system l.initial.names l.entries)
    × HaveEntries l.system l.names (drop l.i l.entries)

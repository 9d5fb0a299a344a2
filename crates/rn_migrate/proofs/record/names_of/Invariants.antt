-- The names so far, with those of the entries to come, are all.
use Rattle.std.proofs.Common.{◌≡◌, drop}
use Rattle.rn_record.specs.RecordText.{first_names, names_at_end}
use Rattle.rn_migrate.proofs.record.names_of.Given as goal

abbrev pub invariant-loop-entry : goal.invariant-loop-entry
invariant-loop-entry l =
    names_at_end l.system l.names (drop l.entry-index l.entries) ≡ names_at_end l.system first_names l.entries

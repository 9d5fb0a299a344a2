use Rattle.std.proofs.Common.{take}
use Rattle.rn_fire.specs.link.Changed.{EntryHasNodeOn, Gets, OneHas}
use Rattle.rn_fire.proofs.changed.put_entries.Given as goal

abbrev pub invariant-loop-entry : goal.invariant-loop-entry
invariant-loop-entry l = Gets (OneHas EntryHasNodeOn (take l.entry-index l.entries)) l.initial.changed.items l.changed.items

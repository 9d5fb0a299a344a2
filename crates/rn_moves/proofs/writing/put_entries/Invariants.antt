use Rattle.std.proofs.Common.{drop, length}
use Rattle.rn_moves.specs.link.Movable.{HaveMoves}
use Rattle.rn_moves.proofs.Continuing.{Continues}
use Rattle.rn_moves.proofs.writing.put_entries.Given as goal

-- the lines so far go on with those of the entries that are left, and these can be listed
abbrev pub invariant-loop-entry : goal.invariant-loop-entry
invariant-loop-entry l = record {
  goes : Continues l.by.system.now l.by.nets.now l.by.names.now l.entries l.initial.out.items
      l.numbers.next l.numbers.step (drop l.entry-index l.entries) l.out.items;
  may : HaveMoves l.by.system.now (length l.by.names.now) l.numbers.next l.numbers.step
      (drop l.entry-index l.entries);
}

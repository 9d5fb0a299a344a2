use Rattle.std.proofs.Common.{◌≡◌, ◌<◌, ℕ, [], true}
use Rattle.rn_live.specs.Rooms.{is_marked}
use Rattle.rn_end_marking.specs.link.Lines.{AreShortAt}
use Rattle.rn_end_marking.proofs.short.marks_are_short.Given as goal

-- the lines of the first instances are short
abbrev pub invariant-loop-number : goal.invariant-loop-number
invariant-loop-number l = record {
  short : (k : ℕ) → k < l.number → is_marked l.marks.live.now.marks k ≡ true → AreShortAt l.marks.format l.marks.system.now l.marks.nets.now l.marks.table.now.marking k;
  room : l.window.room ≡ l.initial.window.room;
  kept : l.initial.window.kept ≡ [] → l.window.kept ≡ [];
}

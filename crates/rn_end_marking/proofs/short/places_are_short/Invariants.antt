use Rattle.std.proofs.Common.{◌≡◌, ◌<◌, ℕ, []}
use Rattle.rn_end_marking.proofs.ShortLines.{IsShortThere}
use Rattle.rn_end_marking.proofs.short.places_are_short.Given as goal

-- the lines of the first places are short
abbrev pub invariant-loop-place : goal.invariant-loop-place
invariant-loop-place l = record {
  short : (k : ℕ) → k < l.place → IsShortThere l.marks.format l.marks.system.now l.marks.nets.now l.marks.table.now.marking l.number l.net k;
  room : l.window.room ≡ l.initial.window.room;
  kept : l.initial.window.kept ≡ [] → l.window.kept ≡ [];
}

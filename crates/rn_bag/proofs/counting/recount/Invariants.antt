use Rattle.std.proofs.Common.{◌≡◌, ◌≤◌, ◌*◌, length, take}
use Rattle.rn_bag.specs.link.Chunks.{AreCounted, tokens_in, values_in}
use Rattle.rn_bag.proofs.counting.recount.Given as goal

abbrev pub invariant-loop-i : goal.invariant-loop-i
invariant-loop-i l = record {
  counted : AreCounted 0 0 (take l.i l.chunks);
  count : l.total ≡ length (tokens_in (take l.i l.chunks));
  bound : l.total ≤ 64 * l.i;
  tokens : tokens_in l.chunks ≡ tokens_in l.initial.chunks;
  values : values_in l.chunks ≡ values_in l.initial.chunks;
  size : length l.chunks ≡ length l.initial.chunks;
}

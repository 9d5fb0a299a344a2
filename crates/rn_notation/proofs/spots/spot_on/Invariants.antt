use Rattle.rn_notation.proofs.Names.{◌≡◌, ◌+◌, ◌<◌, ◌^◌, drop, length, spot_on}
use Rattle.rn_notation.proofs.spots.spot_on.Given as goal

abbrev pub invariant-loop-byte : goal.invariant-loop-byte
invariant-loop-byte l = record {
  same : spot_on l.spot (drop l.byte-index l.bytes) ≡ spot_on l.fn.from l.bytes;
  lines : l.spot.line + length (drop l.byte-index l.bytes) < 2 ^ 32;
  columns : l.spot.column + length (drop l.byte-index l.bytes) < 2 ^ 32;
}

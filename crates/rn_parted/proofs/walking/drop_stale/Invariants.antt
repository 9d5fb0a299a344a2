use Rattle.std.proofs.Common.{◌≡◌, ◌≤◌, ◌-◌, length, take, drop}
use Rattle.std.specs.Prelude.{Contains}
use Rattle.rn_parted.specs.declared.share.Share.{Share}
use Rattle.rn_parted.proofs.walking.drop_stale.Given as goal

abbrev pub invariant-stale : goal.invariant-stale
invariant-stale l = record {
  before : take l.cursor l.shares.items ≡ take l.cursor l.initial.shares.items;
  ahead : (s : Share) → Contains (drop l.cursor l.shares.items) s →
      Contains (drop l.cursor l.initial.shares.items) s;
  long : l.cursor ≤ length l.initial.shares.items → l.cursor ≤ length l.shares.items;
}

abbrev pub decreases-stale : goal.decreases-stale
decreases-stale l = length l.shares.items - l.cursor

use Rattle.std.proofs.Common.{◌≤◌, ◌-◌, length, take}
use Rattle.std.specs.Prelude.{Contains}
use Rattle.rn_model.specs.Markings.{Marking}
use Rattle.rn_parted.specs.declared.share.Share.{Share}
use Rattle.rn_parted.specs.Parted.{IsShare}
use Rattle.rn_parted.specs.link.Walks.{HasComeTo, SharesStay}
use Rattle.rn_parted.proofs.walking.settle_bag.Given as goal

abbrev pub invariant-runs : goal.invariant-runs
invariant-runs l = record {
  within : l.cursor ≤ length l.shares.items;
  low : l.index ≤ length l.bag;
  come : (other : Marking) →
      SharesStay l.walk.site.marked.system.now other l.walk.site.marked.table.now.marking
      l.walk.site.marked.depth l.walk.site.instance l.walk.site.place l.walk.found.now.keys →
      ((s : Share) → Contains l.initial.shares.items s → IsShare l.walk.site.marked.system.now
      other l.walk.site.marked.depth l.walk.site.instance l.walk.site.place s) →
      HasComeTo l.walk.site.marked.system.now other l.walk.site.marked.table.now.marking
      l.walk.site.marked.depth l.walk.site.instance l.walk.site.place l.cursor
      (take l.index l.bag) l.shares.items;
}

abbrev pub decreases-runs : goal.decreases-runs
decreases-runs l = length l.bag - l.index

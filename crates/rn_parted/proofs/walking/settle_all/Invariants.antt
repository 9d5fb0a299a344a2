use Rattle.std.proofs.Common.{◌≤◌, ◌++◌, List, length, take}
use Rattle.rn_value.specs.declared.value.Value.{Value}
use Rattle.rn_model.specs.Markings.{Marking}
use Rattle.rn_parted.specs.link.Walks.{HasComeTo, SharesStay}
use Rattle.rn_parted.proofs.walking.settle_all.Given as goal

abbrev pub invariant-loop-token : goal.invariant-loop-token
invariant-loop-token l = record {
  within : l.end ≤ length l.shares.items;
  come : (other : Marking) (before : List Value) →
      SharesStay l.walk.site.marked.system.now other l.walk.site.marked.table.now.marking
      l.walk.site.marked.depth l.walk.site.instance l.walk.site.place l.walk.found.now.keys →
      HasComeTo l.walk.site.marked.system.now other l.walk.site.marked.table.now.marking
      l.walk.site.marked.depth l.walk.site.instance l.walk.site.place l.cursor before
      l.initial.shares.items →
      HasComeTo l.walk.site.marked.system.now other l.walk.site.marked.table.now.marking
      l.walk.site.marked.depth l.walk.site.instance l.walk.site.place l.end
      (before ++ take l.token-index l.tokens) l.shares.items;
}

use Rattle.std.proofs.Common.{◌≡◌, ◌<◌, ℕ, length, get_or}
use Rattle.rn_table.specs.declared.leaf.Words.{Words}
use Rattle.rn_table.proofs.leaves.none_kept.Given as goal

abbrev pub invariant-loop-index : goal.invariant-loop-index
invariant-loop-index l = (i : ℕ) (w : Words) → i < l.index → i < length l.words → w ≡ get_or l.words i w → w.kept ≡ 0

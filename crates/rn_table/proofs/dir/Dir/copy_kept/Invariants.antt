use Rattle.std.proofs.Common.{◌≡◌, ◌≢◌, ◌<◌, ℕ, [], length, map, get_or}
use Rattle.std.specs.Option.{option_map_or}
use Rattle.rn_table.specs.declared.leaf.Words.{Words}
use Rattle.rn_table.proofs.dir.Dir.copy_kept.Given as goal

abbrev pub invariant-loop-index : goal.invariant-loop-index
invariant-loop-index l = record {
  size : length l.pages.items ≡ l.index;
  same : (i : ℕ) (w : Words) → i < l.index → i < length l.words → w ≡ get_or l.words i w → w.kept ≢ 0 → get_or (map (λ page. option_map_or (λ p. p.value) page []) l.pages.items) i [] ≡ get_or l.self i [];
}

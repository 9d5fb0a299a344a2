use Rattle.std.proofs.Common.{◌≡◌, [], length, map, take}
use Rattle.std.specs.Option.{option_map_or}
use Rattle.rn_table.proofs.leaves.Leaves.copy.Given as goal

abbrev pub invariant-loop-dir : goal.invariant-loop-dir
invariant-loop-dir l = record {
  size : length l.dirs.items ≡ l.dir-index;
  same : map (λ dir. option_map_or (λ d. d.value) dir []) l.dirs.items ≡ map (λ dir. option_map_or (λ d. d.value) dir []) (take l.dir-index l.dir-items);
}

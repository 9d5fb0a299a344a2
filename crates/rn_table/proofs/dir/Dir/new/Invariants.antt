use Rattle.std.proofs.Common.{◌≡◌, ℕ, [], length, map, get_or}
use Rattle.std.specs.Option.{option_map_or}
use Rattle.rn_table.proofs.dir.Dir.new.Given as goal

abbrev pub invariant-loop : goal.invariant-loop
invariant-loop l = record {
  size : length l.pages.items ≡ l.counter;
  empty : (i : ℕ) → get_or (map (λ page. option_map_or (λ p. p.value) page []) l.pages.items) i [] ≡ [];
}

use Rattle.std.proofs.Common.{ℕ, ◌<◌, take}
use Rattle.std.specs.Prelude.{All, Contains}
use Rattle.rn_firsts.proofs.following.mark_all.Given as goal

abbrev pub invariant-loop-number : goal.invariant-loop-number
invariant-loop-number l = record {
  stay : (n : ℕ) → Contains l.initial.again.keys n → Contains l.again.keys n;
  come : (n : ℕ) → Contains (take l.number-index l.numbers) n → n < l.until →
      Contains l.again.keys n;
  below : All (λ n. n < l.until) l.initial.again.keys → All (λ n. n < l.until) l.again.keys;
}

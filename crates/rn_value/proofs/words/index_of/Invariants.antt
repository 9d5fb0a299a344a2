use Rattle.std.proofs.Common.{◌≡◌, ◌+◌, drop, map}
use Rattle.std.specs.Option.{option_map}
use Rattle.rn_value.specs.Words.{index_of}
use Rattle.rn_value.proofs.words.index_of.Given as goal

abbrev pub invariant-loop-i : goal.invariant-loop-i
invariant-loop-i l = option_map (λ k. l.i + k) (index_of (map (λ word. word.now) (drop l.i l.words)) l.word) ≡ index_of (map (λ word. word.now) l.words) l.word

use Rattle.std.proofs.Common.{◌≡◌, ◌+◌, drop}
use Rattle.rn_words.specs.Reading.{name_length}
use Rattle.rn_words.proofs.options.name_length.Given as goal

abbrev pub invariant-loop-i : goal.invariant-loop-i
invariant-loop-i l = l.i + name_length (drop l.i l.word) ≡ name_length l.word

use Rattle.std.proofs.Common.{◌≡◌, ◌+◌, drop, map, string_bytes, None}
use Rattle.rn_words.specs.Reading.{read_from}
use Rattle.rn_words.specs.Choices.{nothing}
use Rattle.rn_words.proofs.options.read_options.Given as goal

-- reading on gives what reading all gives
abbrev pub invariant-loop-i : goal.invariant-loop-i
invariant-loop-i l =
    read_from l.verb (l.first + l.i) l.state.chosen l.state.awaits (map string_bytes (drop l.i l.words))
    ≡ read_from l.verb l.first nothing None (map string_bytes l.words)

-- In which order the alternatives of a choice are tried.
use Rattle.std.specs.Prelude.{ℕ, ◌+◌, ◌-◌, ltb, if◌then◌else◌}

-- Alternatives are the numbers below a number. They are tried from a first one on, round:
-- this is the one tried as the `turn`-th, from 0.
abbrev pub turned : ℕ → ℕ → ℕ → ℕ
turned first of turn = (if ltb turn (of - first) then first + turn else turn - (of - first))

-- Which numbers stay where some are given up.
use Rattle.std.specs.Prelude.{ℕ, Bool, List, nat_eq, not}
use Rattle.std.specs.List.{list_any}

-- whether a number is none of these
abbrev pub stays : List ℕ → ℕ → Bool
stays numbers n = not (list_any (nat_eq n) numbers)

-- Numbers in decimal digits.
use Rattle.std.specs.Prelude.{ℕ, ◌≡◌, ◌≢◌, ◌-◌, List, [], IsTrue}
use Rattle.std.specs.List.{list_all}
use Rattle.rn_value.specs.Characters.{is_digit, number_after}

-- bytes are digits, at least one, that spell this number
abbrev pub SpellsNumber : List ℕ → ℕ → Type 0
SpellsNumber digits n =
    (digits ≢ []) × IsTrue (list_all is_digit digits) × (n ≡ number_after 0 digits)

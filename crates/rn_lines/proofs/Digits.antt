-- Numerals, and the numbers that digits spell.
use Rattle.std.proofs.Common.{◌≡◌, ◌<◌, ◌≤◌, ◌+◌, ◌-◌, ◌*◌, ◌/◌, ℕ, List, [], ◌∷◌, nat_le, arith}
use Rattle.std.specs.Prelude.{Some, None, if◌then◌else◌}
use Rattle.std.proofs.lemmas.Bool.Decides.{nat_tests}
use Rattle.rn_value.specs.Characters.{number_after}

-- more digits make no number smaller
grows : (n : ℕ) (ds : List ℕ) → n ≤ number_after n ds
grows n [] = omega arith
grows n (d ∷ ds) = let more = grows (n * 10 + (d - 48)) ds in omega (arith, more)

pub too_great : (limit units n : ℕ) (d : ℕ) (ds digits : List ℕ) → units ≡ d - 48 → units ≤ limit → (limit - units) / 10 < n → number_after n (d ∷ ds) ≡ number_after 0 digits → limit < number_after 0 digits
too_great limit units n d ds digits u few over whole =
    let more = grows (n * 10 + (d - 48)) ds in
    omega (arith, more, whole)

pub too_many_units : (limit n : ℕ) (d : ℕ) (ds digits : List ℕ) → limit < d - 48 → number_after n (d ∷ ds) ≡ number_after 0 digits → limit < number_after 0 digits
too_many_units limit n d ds digits over whole =
    let more = grows (n * 10 + (d - 48)) ds in
    omega (arith, more, whole)

pub none_above : (most n : ℕ) → most < n → (if nat_le n most then Some n else None) ≡ None
none_above most n h = grind (arith, nat_tests)

-- a number within a limit is kept
pub some_within : (most n : ℕ) → n ≤ most → (if nat_le n most then Some n else None) ≡ Some n
some_within most n h = grind (arith, nat_tests)

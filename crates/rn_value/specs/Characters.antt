-- ASCII letters, digits, the bytes of names, and the number that digits spell.
use Rattle.std.specs.Prelude.{ℕ, ◌+◌, ◌-◌, ◌*◌, List, [], ◌∷◌, Bool, ◌||◌, nat_eq}
use Rattle.std.specs.Char.{is_ascii_alphabetic, is_ascii_digit}

-- an ASCII letter
abbrev pub is_letter : ℕ → Bool
is_letter c = is_ascii_alphabetic c

-- an ASCII digit
abbrev pub is_digit : ℕ → Bool
is_digit c = is_ascii_digit c

-- an ASCII letter, a digit or `_`
abbrev pub is_name_byte : ℕ → Bool
is_name_byte c = is_letter c || is_digit c || nat_eq c 95

-- the number that these digits spell after a number: each digit makes it ten times as great
abbrev pub number_after : ℕ → List ℕ → ℕ
number_after n [] = n
number_after n (d ∷ ds) = number_after (n * 10 + (d - 48)) ds

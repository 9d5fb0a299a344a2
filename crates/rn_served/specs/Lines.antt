-- The lines of a session, and what each asks for.
use Rattle.std.specs.Prelude.{ℕ, Bool, ◌&&◌, if◌then◌else◌, nat_eq, nat_le, List, [], ◌∷◌, length, take, drop}
use Rattle.std.specs.Prelude.{Option, Some, None, bytes_eq, codes}
use Rattle.std.specs.List.{list_all}
use Rattle.std.specs.Option.{option_map_or}
use Rattle.rn_value.specs.Characters.{is_digit, number_after}
use Rattle.rn_served.specs.declared.requests.Request.{Request}
use Rattle.rn_served.specs.declared.requests.Request.TheVariants as Ask

-- a byte in front of the first line, which it begins where there is none
abbrev pub in_front : ℕ → List (List ℕ) → List (List ℕ)
in_front c [] = (c ∷ []) ∷ []
in_front c (line ∷ lines) = (c ∷ line) ∷ lines

-- The lines of bytes, each without the line feed (10) that ends it. What stands after the last line
-- feed is a line where it isn't empty.
abbrev pub lines_of : List ℕ → List (List ℕ)
lines_of [] = []
lines_of (c ∷ bytes) = if nat_eq c 10 then [] ∷ lines_of bytes else in_front c (lines_of bytes)

-- whether these are one to six digits
abbrev pub are_digits : List ℕ → Bool
are_digits bytes = nat_le 1 (length bytes) && nat_le (length bytes) 6 && list_all is_digit bytes

-- the number of one to six digits; zeros may come first
abbrev pub number_of : List ℕ → Option ℕ
number_of bytes = if are_digits bytes then Some (number_after 0 bytes) else None

-- what a word and a number ask for, one space between: to fire or to undo
abbrev pub with_number : List ℕ → ℕ → Request
with_number word k =
    if bytes_eq word (codes "fire ") then Ask.Fire k
    else if bytes_eq word (codes "undo ") then Ask.Undo k
    else Ask.Wrong

-- What a line asks for: `list`, `show`, or `fire` or `undo` with one space and a number. Every other
-- line is wrong.
abbrev pub request_of : List ℕ → Request
request_of line =
    if bytes_eq line (codes "list") then Ask.List
    else if bytes_eq line (codes "show") then Ask.Show
    else option_map_or (with_number (take 5 line)) (number_of (drop 5 line)) Ask.Wrong

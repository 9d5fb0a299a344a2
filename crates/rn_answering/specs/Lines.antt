-- The lines of refusals and faults.
use Rattle.std.specs.Prelude.{ℕ, List, ◌++◌, codes}
use Rattle.rn_value.specs.Text.{numeral}
use Rattle.rn_notation.specs.declared.token.Spot.{Spot}
use Rattle.rn_words.specs.declared.command.WordsFault.{WordsFault}
use Rattle.rn_words.specs.declared.command.WordsFault.TheVariants.{U1, U2, U3}

-- a code and a number, as `U3 3`
abbrev pub number_line : List ℕ → ℕ → List ℕ
number_line code n = code ++ codes " " ++ numeral n ++ codes "\n"

-- a code and a spot, as `P2 1:1`
abbrev pub spot_line : List ℕ → Spot → List ℕ
spot_line code spot =
    code ++ codes " " ++ numeral spot.line ++ codes ":" ++ numeral spot.column ++ codes "\n"

-- the line of words that aren't accepted
abbrev pub words_line : WordsFault → List ℕ
words_line (U1 at) = number_line (codes "U1") at
words_line (U2 at) = number_line (codes "U2") at
words_line (U3 at) = number_line (codes "U3") at

-- What a single token is read as.
use Rattle.std.specs.Prelude.{ℕ, Bool, false, nat_eq, Option, Some, None, if◌then◌else◌}
use Rattle.rn_notation.specs.declared.token.Token.{Token}
use Rattle.rn_notation.specs.declared.token.Spot.{Spot}
use Rattle.rn_notation.specs.declared.token.TokenKind.{TokenKind}
use Rattle.rn_notation.specs.declared.token.TokenKind.TheVariants.{Name, Word, Number, Sign}
use Rattle.rn_reading.specs.declared.named.Named.{Named}
use Rattle.rn_reading.specs.declared.named.Numeral.{Numeral}

-- whether a token is the sign, or the reserved word, with this number
abbrev pub is_sign : ℕ → TokenKind → Bool
is_sign wanted (Sign k) = nat_eq k wanted
is_sign wanted _ = false

abbrev pub is_word : ℕ → TokenKind → Bool
is_word wanted (Word k) = nat_eq k wanted
is_word wanted _ = false

-- the spot of this sign, or of this reserved word
abbrev pub sign : ℕ → Token → Option Spot
sign wanted t = if is_sign wanted t.kind then Some t.spot else None

abbrev pub word : ℕ → Token → Option Spot
word wanted t = if is_word wanted t.kind then Some t.spot else None

-- a name, with its spot
abbrev pub name_of : Spot → TokenKind → Option Named
name_of spot (Name text) = Some (record { text = text; spot = spot })
name_of spot _ = None

abbrev pub name : Token → Option Named
name t = name_of t.spot t.kind

-- a number, with its spot
abbrev pub number_of : Spot → TokenKind → Option Numeral
number_of spot (Number value) = Some (record { value = value; spot = spot })
number_of spot _ = None

abbrev pub number : Token → Option Numeral
number t = number_of t.spot t.kind

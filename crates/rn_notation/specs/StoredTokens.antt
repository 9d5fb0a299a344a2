-- How tokens are kept, each with the place of its kind among others, and how they are lent.
use Rattle.std.specs.Prelude.{◌≡◌, ℕ, ◌<◌, List, ◌++◌, get_or}
use Rattle.rn_notation.specs.declared.token.Token.{Token}
use Rattle.rn_notation.specs.declared.token.TokenRef.{TokenRef}
use Rattle.rn_notation.specs.declared.token.TokenKind.{TokenKind}
use Rattle.rn_notation.specs.declared.token.TokenKind.TheVariants.{Word}
use Rattle.rn_notation.specs.declared.tokens.Stored.{Stored}

-- the token that a reference stands for
abbrev pub lent : TokenRef → Token
lent t = record { kind = t.kind.now; start = t.start; end = t.end; spot = t.spot }

-- the token that is kept with the place of its kind among these
abbrev pub token_stored : List TokenKind → Stored → Token
token_stored kinds s =
    record { kind = get_or kinds s.kind (Word 0); start = s.start; end = s.end; spot = s.spot }

-- a kept token has its kind among so many
abbrev pub IsStored : ℕ → Stored → Type 0
IsStored count s = s.kind < count

-- the second list goes on where the first ends
abbrev pub IsPrefixOf : List TokenKind → List TokenKind → Type 0
IsPrefixOf kinds longer = (more : List TokenKind) × (longer ≡ kinds ++ more)

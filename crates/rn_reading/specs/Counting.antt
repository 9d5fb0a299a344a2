-- What is counted along the tokens of a text, as open brackets or operators, and where it goes too
-- far. A grammar that limits nothing counts nothing.
use Rattle.std.specs.Prelude.{◌≡◌, Bool, false, List, [], ◌∷◌}
use Rattle.rn_notation.specs.declared.token.Token.{Token}
use Rattle.rn_notation.specs.declared.token.TokenKind.{TokenKind}

-- What was counted so far, how a token changes it, and which token goes too far after it.
pub record Counting : Type 1 where
  pub Count : Type 0
  pub after : Count → TokenKind → Count
  pub is_too_far : Count → TokenKind → Bool

-- what was counted after some tokens
abbrev pub count_after : (C : Counting) → C.Count → List Token → C.Count
count_after C c [] = c
count_after C c (t ∷ ts) = count_after C (C.after c t.kind) ts

-- none of these tokens goes too far
abbrev pub IsWithin : (C : Counting) → C.Count → List Token → Type 0
IsWithin C c [] = Unit {0}
IsWithin C c (t ∷ ts) = (C.is_too_far c t.kind ≡ false) × IsWithin C (C.after c t.kind) ts

-- nothing is counted, and nothing goes too far
abbrev pub uncounted : Counting
uncounted = record { Count = Unit {0}; after = λ c kind. c; is_too_far = λ c kind. false }

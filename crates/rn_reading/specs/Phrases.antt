-- Phrases, and how they are made of others.
use Rattle.std.specs.Prelude.{◌≡◌, ◌⊎◌, List, [], ◌∷◌, Option, Some, None}
use Rattle.rn_notation.specs.declared.token.Token.{Token}

-- Phrases of one sort: the tokens begin with a phrase that stands for this, and the others come
-- after it.
abbrev pub Phrases : Type 0 → Type 1
Phrases A = List Token → A → List Token → Type 0

-- nothing more comes
abbrev pub Done : {A : Type 0} → A → Phrases A
Done a ts e rest = (e ≡ a) × (rest ≡ ts)

-- a phrase, and then another that may depend on what the first stands for
abbrev pub Then : {A B : Type 0} → Phrases A → (A → Phrases B) → Phrases B
Then {A = A} X Y ts b rest = (a : A) × (mid : List Token) × X ts a mid × Y a mid b rest

-- one token, which is read as this
abbrev pub One : {A : Type 0} → (Token → Option A) → Phrases A
One read ts a rest = (t : Token) × (ts ≡ t ∷ rest) × (read t ≡ Some a)

-- nothing, or one token that opens a phrase, and then the phrase
abbrev pub Maybe : {A B : Type 0} → (Token → Option B) → Phrases A → Phrases (Option A)
Maybe opens X ts a rest =
    Done None ts a rest ⊎ Then (One opens) (λ b. Then X (λ a. Done (Some a))) ts a rest

-- any number of phrases, one after another
abbrev pub Many : {A : Type 0} → Phrases A → Phrases (List A)
Many X ts [] rest = rest ≡ ts
Many X ts (a ∷ more) rest = (mid : List Token) × X ts a mid × Many X mid more rest

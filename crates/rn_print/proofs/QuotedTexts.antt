-- A text in quotes is one token, which stands for the text.
use Rattle.std.proofs.Common.{◌≡◌, ◌≤◌, ℕ, List, [], ◌∷◌, ◌++◌, map, Bool, true, false, ◌||◌, nat_eq, refl, sym, ap, ◌∙◌, subst, arith, true≢false, append_assoc, Some, None, if◌then◌else◌}
use Rattle.std.specs.Prelude.{encode_utf8, ◌⊎◌}
use Rattle.std.specs.List.{AllByRecursion, flat_map}
use Rattle.std.proofs.lemmas.Str.{encode_ascii}
use Rattle.std.proofs.lemmas.Bool.{eqb-true}
use mathlib.Core.Logic.{inl, inr}
use Rattle.rn_value.specs.Text.{escaped, quoted}
use Rattle.rn_notation.specs.Texts.{Part, itself, escape, IsPart, AreParts, spelled, meaning, written, meant, escaped_byte, is_special}
use Rattle.rn_notation.specs.Tokens.{IsToken}
use Rattle.rn_notation.specs.declared.token.TokenKind.TheVariants.{Text}
use Rattle.rn_notation.proofs.Characters.{other_number, bytes_of_char}

-- a part as the canonical text writes it: only a tab is written otherwise
canonical : Part → Part
canonical (itself c) = if nat_eq c 9 then escape 116 else itself c
canonical (escape c) = escape c

flat_join : {A : Type 0} (f : A → List ℕ) (xs ys : List A) →
    flat_map f (xs ++ ys) ≡ flat_map f xs ++ flat_map f ys
flat_join f [] ys = refl
flat_join f (x ∷ xs) ys =
    ap (λ t. f x ++ t) (flat_join f xs ys) ∙ sym (append_assoc (f x) (flat_map f xs) (flat_map f ys))

not_special : (b : ℕ) → is_special b ≡ false →
    (nat_eq b 34 ≡ false) × (nat_eq b 92 ≡ false) × (nat_eq b 10 ≡ false)
not_special b h = by (nat_eq b 34) (nat_eq b 92) (nat_eq b 10) h
  where
    by : (x y z : Bool) → (x || (y || (z || false))) ≡ false →
        (x ≡ false) × (y ≡ false) × (z ≡ false)
    by false false false e = (refl, refl, refl)
    by true y z e = absurd (true≢false e)
    by false true z e = absurd (true≢false e)
    by false false true e = absurd (true≢false e)

plain_byte : (c b : ℕ) → is_special c ≡ false → nat_eq c 9 ≡ false → (128 ≤ b) ⊎ (b ≡ c) →
    escaped b ≡ b ∷ []
plain_byte c b h t (inl high) =
    rw (
      other_number b 34 (λ e. omega arith),
      other_number b 92 (λ e. omega arith),
      other_number b 10 (λ e. omega arith),
      other_number b 9 (λ e. omega arith),
    ) refl
plain_byte c b h t (inr same) =
    let parts = not_special c h in
    ap escaped same ∙ rw (parts.0, parts.1, parts.2, t) (ap (λ b. b ∷ []) (sym same))

plain_bytes : (c : ℕ) (bs : List ℕ) → is_special c ≡ false → nat_eq c 9 ≡ false →
    AllByRecursion (λ b. (128 ≤ b) ⊎ (b ≡ c)) bs → flat_map escaped bs ≡ bs
plain_bytes c [] h t all = refl
plain_bytes c (b ∷ bs) h t (is, all) =
    ap (λ e. e ++ flat_map escaped bs) (plain_byte c b h t is)
    ∙ ap (λ bs. b ∷ bs) (plain_bytes c bs h t all)

-- one part: it is one, means the same, and is written as what it means is escaped
abbrev Canonical : Part → Type 0
Canonical p =
    IsPart (canonical p) × (meaning (canonical p) ≡ meaning p)
    × (spelled (canonical p) ≡ flat_map escaped (meaning p))

one_part : (p : Part) → IsPart p → Canonical p
unfolding canonical
one_part (itself c) is = by (nat_eq c 9) refl
  where
    by : (t : Bool) → nat_eq c 9 ≡ t →
        IsPart (if t then escape 116 else itself c)
        × (meaning (if t then escape 116 else itself c) ≡ encode_utf8 c)
        × (spelled (if t then escape 116 else itself c) ≡ flat_map escaped (encode_utf8 c))
    by true e =
        let tab : encode_utf8 c ≡ 9 ∷ [] = ap encode_utf8 (eqb-true c 9 e) ∙ encode_ascii 9 (omega arith) in
        ((9, refl), sym tab, sym (ap (flat_map escaped) tab))
    by false e = (is, refl, sym (plain_bytes c (encode_utf8 c) is.1 e (bytes_of_char c)))
one_part (escape c) (byte, e) = (
  (byte, e),
  refl,
  at (nat_eq c 34) (nat_eq c 92) (nat_eq c 110) (nat_eq c 116) refl refl refl refl e,
)
  where
    known : (n : ℕ) → nat_eq c n ≡ true → 92 ∷ n ∷ [] ≡ flat_map escaped (meaning (escape n)) →
        92 ∷ c ∷ [] ≡ flat_map escaped (meaning (escape c))
    known n h e =
        subst (λ n. 92 ∷ n ∷ [] ≡ flat_map escaped (meaning (escape n))) (sym (eqb-true c n h)) e

    at : (x y z w : Bool) → nat_eq c 34 ≡ x → nat_eq c 92 ≡ y → nat_eq c 110 ≡ z →
        nat_eq c 116 ≡ w → escaped_byte c ≡ Some byte →
        92 ∷ c ∷ [] ≡ flat_map escaped (meaning (escape c))
    at true y z w f g h i is = known 34 f refl
    at false true z w f g h i is = known 92 g refl
    at false false true w f g h i is = known 110 h refl
    at false false false true f g h i is = known 116 i refl
    at false false false false f g h i is =
        absurd (let none : escaped_byte c ≡ None = rw (f, g, h, i) refl in let no : ⊥ = cc in no)

-- all parts of a text
canonicals : (parts : List Part) → AreParts parts →
    AreParts (map canonical parts) × (meant (map canonical parts) ≡ meant parts)
    × (written (map canonical parts) ≡ flat_map escaped (meant parts))
canonicals [] are = (tt, refl, refl)
canonicals (p ∷ ps) (is, are) =
    let here = one_part p is in
    let later = canonicals ps are in (
      (here.0, later.0),
      ap (λ t. t ++ meant (map canonical ps)) here.1 ∙ ap (λ t. meaning p ++ t) later.1,
      ap (λ t. t ++ written (map canonical ps)) here.2
          ∙ ap (λ t. flat_map escaped (meaning p) ++ t) later.2
          ∙ sym (flat_join escaped (meaning p) (meant ps)),
    )

pub quoted_stands : (parts : List Part) (rest : List ℕ) → AreParts parts →
    IsToken (Text (meant parts)) (quoted (meant parts)) rest
quoted_stands parts rest are =
    let all = canonicals parts are in
    subst (λ inside. IsToken (Text (meant parts)) (34 ∷ inside ++ 34 ∷ []) rest) all.2
    (subst (λ s. IsToken (Text s) (34 ∷ written (map canonical parts) ++ 34 ∷ []) rest) all.1
    (IsToken.text (map canonical parts) all.0))

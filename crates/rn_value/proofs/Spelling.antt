-- The bytes of a text determine the value, and where its text ends.
use Rattle.std.proofs.Common.{◌≡◌, ℕ, zero, suc, ◌-◌, true, false, cond, eqb, ◌||◌, ℤ, pos, negsuc, List, [], ◌∷◌, ◌++◌, Some, None, append_assoc, refl, sym, ap, ◌∙◌, subst, arith}
use Rattle.std.proofs.lemmas.Bool.{false≢true}
use Rattle.std.proofs.lemmas.Bool.Decides.{nat_tests}
use Rattle.std.specs.List.{list_all, slice_get}
use Rattle.rn_value.specs.Grammar.{IsNumeral, IsWholeNumber, IsText, IsRow, IsTail}
use Rattle.rn_value.specs.Grammar.IsWholeNumber.{positive, negative}
use Rattle.rn_value.specs.Names.{name_of}
use Rattle.rn_value.specs.Characters.{is_letter, is_digit, is_name_byte}
use Rattle.rn_value.specs.TextLaws.{AreIdentifiers, is_delimiter, IsDelimited}
use Rattle.rn_value.specs.Words.{begins_with, IsIdentifier}
use Rattle.rn_value.specs.declared.value.InstRef.TheVariants.{Old}
use Rattle.rn_value.specs.declared.value.Value.{Value}
use Rattle.rn_value.specs.declared.value.Value.TheVariants as Value
use Rattle.rn_value.proofs.Numerals.{IsNumeral-same, IsNumeral-digits, IsNumeral-first}
use Rattle.rn_items.proofs.Bools.{and_left, and_right}
use Rattle.rn_value.proofs.Spans.{Stops, same_runs}
use Rattle.rn_value.proofs.Escapes.{same_inside}

delimiter_no_digit : (c : ℕ) → is_delimiter c ≡ true → is_digit c ≡ false
delimiter_no_digit c d = grind (arith, nat_tests)

-- what delimits a value is no digit
pub stops_digits : (x : List ℕ) → IsDelimited x → Stops is_digit x
stops_digits [] d = tt
stops_digits (c ∷ rest) d = delimiter_no_digit c d

same_numeral : {m n : ℕ} {a b : List ℕ} → IsNumeral m a → IsNumeral n b → (x y : List ℕ) → Stops is_digit x → Stops is_digit y → a ++ x ≡ b ++ y → (m ≡ n) × (x ≡ y)
same_numeral {n = n} {a = a} {b = b} p q x y stops ends e =
    let runs = same_runs is_digit a b x y (IsNumeral-digits p) (IsNumeral-digits q) stops ends e in
    (IsNumeral-same p (subst (IsNumeral n) (sym runs.0) q), runs.1)

no_minus : {n : ℕ} {a : List ℕ} → IsNumeral n a → (x y : List ℕ) → a ++ x ≡ 45 ∷ y → ⊥
no_minus {a = a} p x y e =
    let first = IsNumeral-first p in
    let c : ℕ = first.0 in
    let is : a ≡ c ∷ first.1 = first.2 in
    let begins : (c ∷ first.1) ++ x ≡ 45 ∷ y = subst (λ a. a ++ x ≡ 45 ∷ y) is e in
    let minus : c ≡ 45 = cc in
    false≢true (sym (ap is_digit minus) ∙ first.3)

same_whole : {m n : ℤ} {a b : List ℕ} → IsWholeNumber m a → IsWholeNumber n b → (x y : List ℕ) → Stops is_digit x → Stops is_digit y → a ++ x ≡ b ++ y → (m ≡ n) × (x ≡ y)
same_whole (positive p) (positive q) x y stops ends e =
    let same = same_numeral p q x y stops ends e in (ap pos same.0, same.1)
same_whole (positive p) (negative {digits = b} q) x y stops ends e = absurd (no_minus p x (b ++ y) e)
same_whole (negative {digits = a} p) (positive q) x y stops ends e = absurd (no_minus q y (a ++ x) (sym e))
same_whole (negative {n = m} p) (negative {n = n} q) x y stops ends e =
    let same = same_numeral p q x y stops ends cc in
    let sizes : m ≡ n = cc (same.0) in
    (ap negsuc sizes, same.1)

-- the kind of value whose text begins with this byte: 0 a number, 1 a text, 2 a tuple, 3 a list, 4 an instance, 5 none
form : ℕ → ℕ
form c =
    cond (is_digit c || eqb c 45) 0 (cond (eqb c 34) 1 (cond (eqb c 91) 2 (cond (eqb c 123) 3 (cond (is_letter c) 4 5))))

digit_form : (c : ℕ) → is_digit c ≡ true → form c ≡ 0
unfolding form
digit_form c d = rw d refl

letter_apart : (c : ℕ) → is_letter c ≡ true → ((is_digit c || eqb c 45) ≡ false) × (eqb c 34 ≡ false) × (eqb c 91 ≡ false) × (eqb c 123 ≡ false)
letter_apart c d = (grind (arith, nat_tests), grind (arith, nat_tests), grind (arith, nat_tests), grind (arith, nat_tests))

letter_form : (c : ℕ) → is_letter c ≡ true → form c ≡ 4
unfolding form
letter_form c d =
    let apart = letter_apart c d in
    rw (apart.0, apart.1, apart.2, apart.3, d) refl

pub name_bytes : (name : List ℕ) → IsIdentifier name → list_all is_name_byte name ≡ true
name_bytes name is = and_right (begins_with is_letter name) (list_all is_name_byte name) is

name_at : (names : List (List ℕ)) → AreIdentifiers names → (index : ℕ) (name : List ℕ) → slice_get names index ≡ Some name → IsIdentifier name
name_at [] are index name e = cc
name_at (n ∷ names) are zero name e = let same : n ≡ name = cc in subst IsIdentifier same are.0
name_at (n ∷ names) are (suc index) name e = name_at names are.1 index name e

pub named_is : (names : List (List ℕ)) → AreIdentifiers names → (k : ℕ) (name : List ℕ) → name_of names k ≡ Some name → IsIdentifier name
named_is names are k name = elim (eqb k 0) as (λ t. cond t None (slice_get names (k - 1)) ≡ Some name → IsIdentifier name) [
  | true ↦ λ e. cc
  | false ↦ λ e. name_at names are (k - 1) name e
]

-- a closing bracket delimits a value, begins none, and is no comma
record Closes (c : ℕ) : Type 0 where
  delimits : is_delimiter c ≡ true
  begins_none : form c ≡ 5
  no_comma : eqb c 44 ≡ false

bracket_closes : Closes 93
unfolding form
bracket_closes = record { delimits = refl; begins_none = refl; no_comma = refl }

brace_closes : Closes 125
unfolding form
brace_closes = record { delimits = refl; begins_none = refl; no_comma = refl }

-- bytes that begin with a byte of this form
abbrev Begins : ℕ → List ℕ → Type 0
Begins k a = (c : ℕ) × (rest : List ℕ) × (a ≡ c ∷ rest) × (form c ≡ k)

begins_alike : (j k : ℕ) (a b x y : List ℕ) → Begins j a → Begins k b → a ++ x ≡ b ++ y → j ≡ k
begins_alike j k a b x y p q e =
    let both : (p.0 ∷ p.1) ++ x ≡ (q.0 ∷ q.1) ++ y = sym (ap (λ a. a ++ x) p.2) ∙ e ∙ ap (λ b. b ++ y) q.2 in
    let first : p.0 ≡ q.0 = cc in
    sym p.3 ∙ ap form first ∙ q.3

begins_other : (k : ℕ) (a x y : List ℕ) (c : ℕ) → Begins k a → (k ≡ 5 → ⊥) → form c ≡ 5 → a ++ x ≡ c ∷ y → ⊥
begins_other k a x y c p apart other e =
    let both : (p.0 ∷ p.1) ++ x ≡ c ∷ y = sym (ap (λ a. a ++ x) p.2) ∙ e in
    let first : p.0 ≡ c = cc in
    apart (sym p.3 ∙ ap form first ∙ other)

module _ (names : List (List ℕ)) (are : AreIdentifiers names) where
  shape : {v : Value} {a : List ℕ} → IsText names v a → ℕ
  shape (IsText.number n) = 0
  shape (IsText.text s) = 1
  shape (IsText.tuple row) = 2
  shape (IsText.list row) = 3
  shape (IsText.instance named digits) = 4

  shape_low : {v : Value} {a : List ℕ} (t : IsText names v a) → shape t ≡ 5 → ⊥
  unfolding shape
  shape_low (IsText.number n) e = omega arith
  shape_low (IsText.text s) e = omega arith
  shape_low (IsText.tuple row) e = omega arith
  shape_low (IsText.list row) e = omega arith
  shape_low (IsText.instance named digits) e = omega arith

  begins_number : {n : ℤ} {a : List ℕ} → IsWholeNumber n a → Begins 0 a
  unfolding form
  begins_number (positive p) = let first = IsNumeral-first p in (first.0, first.1, first.2, digit_form first.0 first.3)
  begins_number (negative {digits = digits} p) = (45, digits, refl, refl)

  begins_name : (name rest : List ℕ) → IsIdentifier name → Begins 4 (name ++ rest)
  begins_name [] rest is = absurd (false≢true is)
  begins_name (c ∷ cs) rest is =
      (c, cs ++ rest, refl, letter_form c (and_left (is_letter c) (list_all is_name_byte (c ∷ cs)) is))

  begins : {v : Value} {a : List ℕ} (t : IsText names v a) → Begins (shape t) a
  unfolding form shape
  begins (IsText.number n) = begins_number n
  begins (IsText.text {bytes = bytes} s) = (34, bytes ++ 34 ∷ [], refl, refl)
  begins (IsText.tuple {bytes = bytes} row) = (91, bytes ++ 93 ∷ [], refl, refl)
  begins (IsText.list {bytes = bytes} row) = (123, bytes ++ 125 ∷ [], refl, refl)
  begins (IsText.instance {number = k} {name = name} {digits = digits} named is) = begins_name name (91 ∷ digits ++ 93 ∷ []) (named_is names are k name named)

  brackets : (before after : ℕ) (a b x y : List ℕ) → (before ∷ a ++ after ∷ []) ++ x ≡ (before ∷ b ++ after ∷ []) ++ y → a ++ after ∷ x ≡ b ++ after ∷ y
  brackets before after a b x y e =
      let inner : (a ++ after ∷ []) ++ x ≡ (b ++ after ∷ []) ++ y = cc in
      sym (append_assoc a (after ∷ []) x) ∙ inner ∙ append_assoc b (after ∷ []) y

  same_instance : {m n : ℕ} {a b s t : List ℕ} → name_of names m ≡ Some a → name_of names n ≡ Some b → IsNumeral m s → IsNumeral n t → (x y : List ℕ)
      → (a ++ (91 ∷ s ++ 93 ∷ [])) ++ x ≡ (b ++ (91 ∷ t ++ 93 ∷ [])) ++ y → (m ≡ n) × (x ≡ y)
  same_instance {m} {n} {a} {b} {s} {t} p q i j x y e =
      let parts : a ++ (91 ∷ ((s ++ 93 ∷ []) ++ x)) ≡ b ++ (91 ∷ ((t ++ 93 ∷ []) ++ y)) = sym (append_assoc a (91 ∷ s ++ 93 ∷ []) x) ∙ e ∙ append_assoc b (91 ∷ t ++ 93 ∷ []) y in
      let runs = same_runs is_name_byte a b (91 ∷ ((s ++ 93 ∷ []) ++ x)) (91 ∷ ((t ++ 93 ∷ []) ++ y)) (name_bytes a (named_is names are m a p)) (name_bytes b (named_is names are n b q)) refl refl parts in
      let same = same_numeral i j (93 ∷ x) (93 ∷ y) refl refl (brackets 91 93 s t x y runs.1) in
      (same.0, let tails : 93 ∷ x ≡ 93 ∷ y = same.1 in cc)

  tail_delimits : {vs : List Value} {a : List ℕ} → IsTail names vs a → (c : ℕ) (x : List ℕ) → Closes c → IsDelimited (a ++ c ∷ x)
  tail_delimits IsTail.end c x closes = closes.delimits
  tail_delimits (IsTail.comma t rest) c x closes = refl

  row_begins : {v : Value} {a : List ℕ} → IsText names v a → (rest x y : List ℕ) (c : ℕ) → Closes c → (a ++ rest) ++ x ≡ c ∷ y → ⊥
  row_begins {a = a} t rest x y c closes e = begins_other (shape t) a (rest ++ x) y c (begins t) (shape_low t) closes.begins_none (sym (append_assoc a rest x) ∙ e)

  no_comma : (c : ℕ) (x y : List ℕ) → Closes c → c ∷ x ≡ 44 ∷ y → ⊥
  no_comma c x y closes e =
      let first : c ≡ 44 = cc in
      false≢true (sym closes.no_comma ∙ ap (λ c. eqb c 44) first)

  mutual
    unfolding shape

    pub same_value : {v w : Value} {a b : List ℕ} → IsText names v a → IsText names w b → (x y : List ℕ) → IsDelimited x → IsDelimited y → a ++ x ≡ b ++ y → (v ≡ w) × (x ≡ y)
    same_value (IsText.number m) (IsText.number n) x y p q e =
        let same = same_whole m n x y (stops_digits x p) (stops_digits y q) e in (ap Value.Int same.0, same.1)
    same_value (IsText.text {bytes = a} s) (IsText.text {bytes = b} t) x y p q e =
        let same = same_inside s t x y (brackets 34 34 a b x y e) in (ap Value.Text same.0, same.1)
    same_value (IsText.tuple {bytes = a} vs) (IsText.tuple {bytes = b} ws) x y p q e =
        let same = same_row vs ws 93 x y bracket_closes (brackets 91 93 a b x y e) in (ap Value.Tuple same.0, same.1)
    same_value (IsText.list {bytes = a} vs) (IsText.list {bytes = b} ws) x y p q e =
        let same = same_row vs ws 125 x y brace_closes (brackets 123 125 a b x y e) in (ap Value.List same.0, same.1)
    same_value (IsText.instance named m) (IsText.instance called n) x y p q e =
        let same = same_instance named called m n x y e in (ap (λ k. Value.Inst (Old k)) same.0, same.1)
    same_value {a = a} {b = b} t u x y p q e =
        let alike : shape t ≡ shape u = begins_alike (shape t) (shape u) a b x y (begins t) (begins u) e in
        absurd (omega arith)

    same_row : {vs ws : List Value} {a b : List ℕ} → IsRow names vs a → IsRow names ws b → (c : ℕ) (x y : List ℕ) → Closes c → a ++ c ∷ x ≡ b ++ c ∷ y → (vs ≡ ws) × (x ≡ y)
    same_row IsRow.none IsRow.none c x y closes e = (refl, cc)
    same_row IsRow.none (IsRow.some {rest = rest} t others) c x y closes e = absurd (row_begins t rest (c ∷ y) x c closes (sym e))
    same_row (IsRow.some {rest = rest} t others) IsRow.none c x y closes e = absurd (row_begins t rest (c ∷ x) y c closes e)
    same_row (IsRow.some {v = v} {vs = vs} {bytes = a} {rest = s} t tails) (IsRow.some {v = w} {vs = ws} {bytes = b} {rest = r} u others) c x y closes e =
        let parts : a ++ (s ++ c ∷ x) ≡ b ++ (r ++ c ∷ y) = sym (append_assoc a s (c ∷ x)) ∙ e ∙ append_assoc b r (c ∷ y) in
        let first = same_value t u (s ++ c ∷ x) (r ++ c ∷ y) (tail_delimits tails c x closes) (tail_delimits others c y closes) parts in
        let rest = same_tail tails others c x y closes first.1 in
        let heads : v ≡ w = first.0 in
        let ends : vs ≡ ws = rest.0 in
        (cc, rest.1)

    same_tail : {vs ws : List Value} {a b : List ℕ} → IsTail names vs a → IsTail names ws b → (c : ℕ) (x y : List ℕ) → Closes c → a ++ c ∷ x ≡ b ++ c ∷ y → (vs ≡ ws) × (x ≡ y)
    same_tail IsTail.end IsTail.end c x y closes e = (refl, cc)
    same_tail IsTail.end (IsTail.comma {bytes = b} {rest = r} u others) c x y closes e = absurd (no_comma c x ((b ++ r) ++ c ∷ y) closes e)
    same_tail (IsTail.comma {bytes = a} {rest = s} t tails) IsTail.end c x y closes e = absurd (no_comma c y ((a ++ s) ++ c ∷ x) closes (sym e))
    same_tail (IsTail.comma {v = v} {vs = vs} {bytes = a} {rest = s} t tails) (IsTail.comma {v = w} {vs = ws} {bytes = b} {rest = r} u others) c x y closes e =
        let inner : (a ++ s) ++ c ∷ x ≡ (b ++ r) ++ c ∷ y = cc in
        let parts : a ++ (s ++ c ∷ x) ≡ b ++ (r ++ c ∷ y) = sym (append_assoc a s (c ∷ x)) ∙ inner ∙ append_assoc b r (c ∷ y) in
        let first = same_value t u (s ++ c ∷ x) (r ++ c ∷ y) (tail_delimits tails c x closes) (tail_delimits others c y closes) parts in
        let rest = same_tail tails others c x y closes first.1 in
        let heads : v ≡ w = first.0 in
        let ends : vs ≡ ws = rest.0 in
        (cc, rest.1)

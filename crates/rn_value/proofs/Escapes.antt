-- A byte inside a text can be read back, and so can the bytes up to the closing quote.
use Rattle.std.proofs.Common.{◌≡◌, ℕ, cond, eqb, List, [], ◌∷◌, ◌++◌, append_assoc, refl, sym, ap, ◌∙◌}
use Rattle.rn_value.specs.Grammar.{IsEscaped, IsInside}
use Rattle.rn_value.specs.Grammar.IsEscaped.{quote, backslash, newline, tab, itself}
use Rattle.rn_value.specs.Grammar.IsInside.{empty, byte}
use Rattle.std.proofs.lemmas.Bool.{false≢true}
use borrow.Author.Tests.{ne_eqb}

-- the byte that a byte after a backslash stands for
unpaired : ℕ → ℕ
unpaired k = cond (eqb k 110) 10 (cond (eqb k 116) 9 k)

-- the first byte that is spelled by the first of these, and what follows it
head : List ℕ → ℕ
head [] = 0
head (c ∷ rest) = c

tail : List ℕ → List ℕ
tail [] = []
tail (c ∷ rest) = rest

first_byte : List ℕ → ℕ
unfolding head unpaired
first_byte [] = 0
first_byte (c ∷ rest) = cond (eqb c 92) (unpaired (head rest)) c

after_first : List ℕ → List ℕ
unfolding tail
after_first [] = []
after_first (c ∷ rest) = cond (eqb c 92) (tail rest) rest

first_is : {c : ℕ} {written : List ℕ} → IsEscaped c written → (x : List ℕ) → first_byte (written ++ x) ≡ c
unfolding first_byte head unpaired
first_is quote x = refl
first_is backslash x = refl
first_is newline x = refl
first_is tab x = refl
first_is (itself {c = c} q b n t) x = ap (λ test. cond test (unpaired (head x)) c) (ne_eqb c 92 b)

rest_is : {c : ℕ} {written : List ℕ} → IsEscaped c written → (x : List ℕ) → after_first (written ++ x) ≡ x
unfolding after_first tail
rest_is quote x = refl
rest_is backslash x = refl
rest_is newline x = refl
rest_is tab x = refl
rest_is (itself {c = c} q b n t) x = ap (λ test. cond test (tail x) x) (ne_eqb c 92 b)

apart : ◌≡◌ {A = ℕ} 92 34 → ⊥
apart e = false≢true (ap (λ c. eqb c 34) e)

-- the first of the written bytes is no quote
no_quote : {c : ℕ} {written : List ℕ} → IsEscaped c written → (x y : List ℕ) → written ++ x ≡ 34 ∷ y → ⊥
unfolding head
no_quote quote x y e = apart (ap head e)
no_quote backslash x y e = apart (ap head e)
no_quote newline x y e = apart (ap head e)
no_quote tab x y e = apart (ap head e)
no_quote (itself q b n t) x y e = q (ap head e)

-- the closing quote determines where a text ends
pub same_inside : {s t a b : List ℕ} → IsInside s a → IsInside t b → (x y : List ℕ) → a ++ 34 ∷ x ≡ b ++ 34 ∷ y → (s ≡ t) × (x ≡ y)
same_inside empty empty x y e = (refl, cc)
same_inside empty (byte {written = u} {rest = b} d q) x y e =
    absurd (no_quote d (b ++ 34 ∷ y) x (sym (append_assoc u b (34 ∷ y)) ∙ sym e))
same_inside (byte {written = w} {rest = a} c p) empty x y e =
    absurd (no_quote c (a ++ 34 ∷ x) y (sym (append_assoc w a (34 ∷ x)) ∙ e))
same_inside (byte {text = s} {written = w} {rest = a} c p) (byte {text = t} {written = u} {rest = b} d q) x y e =
    let parts : w ++ (a ++ 34 ∷ x) ≡ u ++ (b ++ 34 ∷ y) = sym (append_assoc w a (34 ∷ x)) ∙ e ∙ append_assoc u b (34 ∷ y) in
    let first = sym (first_is c (a ++ 34 ∷ x)) ∙ ap first_byte parts ∙ first_is d (b ++ 34 ∷ y) in
    let rest = sym (rest_is c (a ++ 34 ∷ x)) ∙ ap after_first parts ∙ rest_is d (b ++ 34 ∷ y) in
    let others = same_inside p q x y rest in
    let texts : s ≡ t = others.0 in
    (cc, others.1)

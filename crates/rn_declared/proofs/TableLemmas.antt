-- What a table finds once a name is declared.
use Rattle.std.proofs.Common.{◌≡◌, ℕ, Bool, true, false, cond, Option, Some, None, List, refl, sym, ap, ◌∙◌, subst}
use Rattle.std.proofs.lemmas.Bool.{false≢true}
use Rattle.std.specs.Prelude.{is_some}
use Rattle.std.specs.Ordering.{nat_cmp, is_eq}
use Rattle.std.specs.Cmp.Lexicographic.{slice_cmp, texts_ties, same_text}
use Rattle.rn_declared.specs.Names.{same_name}
use Rattle.rn_declared.specs.link.Tables.{or_number}

found_after : (old : Option ℕ) (same : Bool) (number : ℕ) → (same ≡ true → is_some old ≡ false) →
    cond same (Some number) old ≡ or_number old same number
found_after None true number h = refl
found_after None false number h = refl
found_after (Some n) true number h = absurd (false≢true (sym (h refl)))
found_after (Some n) false number h = refl

-- where a name is new, another finds what it found, and the name the number
pub declared_found : (old new : List ℕ → Option ℕ) (name key : List ℕ) (number : ℕ) →
    key ≡ name → is_some (old name) ≡ false →
    ((other : List ℕ) → new other ≡ cond (is_eq (slice_cmp nat_cmp key other)) (Some number) (old other)) →
    (other : List ℕ) → new other ≡ or_number (old other) (same_name name other) number
declared_found old new name key number copied absent updates other =
    updates other
    ∙ ap (λ k. cond (is_eq (slice_cmp nat_cmp k other)) (Some number) (old other)) copied
    ∙ ap (λ b. cond b (Some number) (old other)) (sym (texts_ties name other))
    ∙ found_after (old other) (same_name name other) number
    (λ same. subst (λ n. is_some (old n) ≡ false) (same_text name other (sym same)) absent)

found_again : (first number : ℕ) (old : Option ℕ) (same : Bool) → (same ≡ true → old ≡ Some first) →
    cond same (Some first) (cond same (Some number) old) ≡ or_number old same number
found_again first number old true h = ap (λ o. or_number o true number) (sym (h refl))
found_again first number None false h = refl
found_again first number (Some n) false h = refl

-- where a name had a number, which it is given back, each finds what it found
pub declared_again : (old mid new : List ℕ → Option ℕ) (name key other_key : List ℕ)
    (number first : ℕ) → key ≡ name → other_key ≡ name → Some first ≡ old key →
    ((other : List ℕ) → mid other ≡ cond (is_eq (slice_cmp nat_cmp key other)) (Some number) (old other)) →
    ((other : List ℕ) → new other ≡ cond (is_eq (slice_cmp nat_cmp other_key other)) (Some first) (mid other)) →
    (other : List ℕ) → new other ≡ or_number (old other) (same_name name other) number
declared_again old mid new name key other_key number first copied again had updates restores other =
    restores other
    ∙ ap (λ k. cond (is_eq (slice_cmp nat_cmp k other)) (Some first) (mid other)) again
    ∙ ap (λ o. cond (is_eq (slice_cmp nat_cmp name other)) (Some first) o)
    (updates other ∙ ap (λ k. cond (is_eq (slice_cmp nat_cmp k other)) (Some number) (old other)) copied)
    ∙ ap (λ b. cond b (Some first) (cond b (Some number) (old other))) (sym (texts_ties name other))
    ∙ found_again first number (old other) (same_name name other)
    (λ same. subst (λ n. old n ≡ Some first) (same_text name other (sym same))
    (ap old (sym copied) ∙ sym had))

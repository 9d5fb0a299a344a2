-- Lists that get one number more, and one after another.
use Rattle.std.proofs.Common.{◌≡◌, ℕ, ◌≤◌, Bool, true, ◌||◌, List, [], ◌∷◌, ◌++◌, length, take, sym}
use Rattle.std.proofs.Common.{◌∙◌, subst, inl, inr, eq-eqb}
use Rattle.std.proofs.lemmas.List.{take_all}
use Rattle.std.proofs.lemmas.List.Elements.{Contains-push, Contains-append_left}
use Rattle.std.proofs.lemmas.List.Elements.{Contains-push_cases}
use Rattle.std.proofs.lemmas.Bool.{eqb-true}
use Rattle.std.specs.Prelude.{◌⊎◌, nat_eq, Contains}
use Rattle.rn_items.proofs.Bools.{or_true, or_left, or_right}
use Rattle.rn_holders.specs.link.Puts.{Puts}

pub one : (k : ℕ) (xs : List ℕ) → Puts (nat_eq k) xs (xs ++ k ∷ [])
one k xs = record {
  stay = λ n. Contains-append_left xs (k ∷ []) n;
  came = λ n new. elim (Contains-push_cases xs k n new) as (λ _. Contains xs n ⊎
      (nat_eq k n ≡ true)) [
        | inl before ↦ inl before
        | inr same ↦ inr (eq-eqb k n same)
      ];
  all = λ n same. subst (Contains (xs ++ k ∷ [])) (eqb-true k n same) (Contains-push xs k);
}

-- what the first puts and then what the second puts
pub then : (p q r : ℕ → Bool) {a b c : List ℕ} → ((n : ℕ) → r n ≡ (p n || q n)) → Puts p a b →
    Puts q b c → Puts r a c
then p q r {a = a} {c = c} either first second = record {
  stay = λ n h. second.stay n (first.stay n h);
  came = λ n new. elim (second.came n new) as (λ _. Contains a n ⊎ (r n ≡ true)) [
    | inr late ↦ inr (either n ∙ or_right (p n) (q n) late)
    | inl soon ↦ elim (first.came n soon) as (λ _. Contains a n ⊎ (r n ≡ true)) [
      | inl before ↦ inl before
      | inr now ↦ inr (either n ∙ or_left (p n) (q n) now)
    ]
  ];
  all = λ n passes. elim (or_true (p n) (q n) (sym (either n) ∙ passes)) as (λ _. Contains c n) [
    | inl early ↦ second.stay n (first.all n early)
    | inr late ↦ second.all n late
  ];
}

-- a list that one has come through
pub through : {X : Type 0} (g : List X → ℕ → Bool) (xs : List X) (i : ℕ) {a b : List ℕ} →
    length xs ≤ i → Puts (g (take i xs)) a b → Puts (g xs) a b
through g xs i {a = a} {b = b} h put = subst (λ ys. Puts (g ys) a b) (take_all i xs h) put

-- the same by another test
pub puts_as : (p q : ℕ → Bool) {a b : List ℕ} → ((n : ℕ) → p n ≡ q n) → Puts p a b → Puts q a b
puts_as p q {a = a} same put = record {
  stay = put.stay;
  came = λ n has. elim (put.came n has) as (λ _. Contains a n ⊎ (q n ≡ true)) [
    | inl early ↦ inl early
    | inr is ↦ inr (sym (same n) ∙ is)
  ];
  all = λ n is. put.all n (same n ∙ is);
}

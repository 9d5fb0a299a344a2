-- Names of one name space that are declared without fault are short and apart.
use Rattle.std.proofs.Common.{◌≡◌, ◌≢◌, ℕ, ◌≤◌, Bool, true, false, not, List, [], ◌∷◌, ◌++◌}
use Rattle.std.proofs.Common.{map}
use Rattle.std.proofs.Common.{sym, ◌∙◌, subst, length, arith, inl, inr}
use Rattle.rn_notation.specs.declared.token.Spot.{Spot}
use Rattle.std.specs.Prelude.{nat_le, AllPairs}
use Rattle.std.specs.List.{AllByRecursion, list_any}
use Rattle.std.proofs.lemmas.Bool.Decides.{nat_tests}
use Rattle.std.proofs.lemmas.List.{length-map}
use Rattle.std.proofs.lemmas.List.Elements.{All-from_recursion}
use Rattle.std.proofs.lemmas.List.Kept.{AllPairs-cons}
use Rattle.rn_items.proofs.Bools.{or_true, or_left, or_right}
use Rattle.rn_items.proofs.Numbers.{numbers_themselves}
use Rattle.rn_model.specs.Limits.{longest_name}
use Rattle.rn_inscript.specs.declared.inscriptions.PName.{PName}
use Rattle.rn_declared.specs.declared.fault.Rule.TheVariants as Rule
use Rattle.rn_declared.specs.Faults.{broken_if, past_limit}
use Rattle.rn_declared.specs.Names.{same_name, name_faults, names_faults, declared_faults}
use Rattle.rn_declared.proofs.Faultless.{both_nil, unbroken, holds, within_limit}

-- what passes the test as at most a number is at most it
pub nat_le_holds : (a b : ℕ) → nat_le a b ≡ true → a ≤ b
nat_le_holds a b e = grind (arith, nat_tests)

-- what passes in a list passes in one that goes on
pub any_left : {A : Type 0} (p : A → Bool) (xs ys : List A) → list_any p xs ≡ true →
    list_any p (xs ++ ys) ≡ true
any_left p [] ys e = absurd (let no : ⊥ = cc in no)
any_left p (x ∷ xs) ys e =
    elim (or_true (p x) (list_any p xs) e) [
      | inl here ↦ or_left (p x) (list_any p (xs ++ ys)) here
      | inr later ↦ or_right (p x) (list_any p (xs ++ ys)) (any_left p xs ys later)
    ]

-- a list has an element that passes where its last one does
pub any_last : {A : Type 0} (p : A → Bool) (xs : List A) (y : A) → p y ≡ true →
    list_any p (xs ++ y ∷ []) ≡ true
any_last p [] y e = or_left (p y) false e
any_last p (x ∷ xs) y e = or_right (p x) (list_any p (xs ++ y ∷ [])) (any_last p xs y e)

abbrev pub IsIn : List (List ℕ) → List ℕ → Type 0
IsIn names name = list_any (λ declared. same_name declared name) names ≡ true

-- a name in which nothing is broken isn't too long, and wasn't declared before
pub short_and_new : (before : List (List ℕ)) (name : PName) → name_faults before name ≡ [] →
    (length name.text ≤ longest_name)
    × (list_any (λ declared. same_name declared name.text) before ≡ false)
short_and_new before name e =
    let long = not (nat_le (length name.text) longest_name) in
    let again = list_any (λ declared. same_name declared name.text) before in
    let both = both_nil (broken_if long Rule.Limit name.spot)
    (broken_if again Rule.Once name.spot) e in (
      nat_le_holds (length name.text) longest_name
          (holds (nat_le (length name.text) longest_name) Rule.Limit name.spot both.0),
      unbroken again Rule.Once name.spot both.1,
    )

module _ {X Y : Type 0} (get : X → PName) (f : X → Y) (name_of : Y → List ℕ)
    (agree : (x : X) → name_of (f x) ≡ (get x).text) where
  each_apart : (before : List (List ℕ)) (t : List ℕ) (xs : List X) → IsIn before t →
      names_faults before (map get xs) ≡ [] → AllByRecursion (λ y. t ≢ name_of y) (map f xs)
  each_apart before t [] there e = tt
  each_apart before t (x ∷ xs) there e =
      let after = before ++ (get x).text ∷ [] in
      let both = both_nil (name_faults before (get x)) (names_faults after (map get xs)) e in
      let new = (short_and_new before (get x) both.0).1 in (
        λ same.
            let again : IsIn before (get x).text = subst (IsIn before) (same ∙ agree x) there in
            let no : true ≡ false = sym again ∙ new in
            absurd (let no : ⊥ = cc in no),
        each_apart after t xs
            (any_left (λ declared. same_name declared t) before ((get x).text ∷ []) there) both.1,
      )

  names_apart : (before : List (List ℕ)) (xs : List X) → names_faults before (map get xs) ≡ [] →
      AllPairs (λ y z. name_of y ≢ name_of z) (map f xs)
  names_apart before [] e = λ i j d low high. absurd (omega (arith, high))
  names_apart before (x ∷ xs) e =
      let t = (get x).text in
      let after = before ++ t ∷ [] in
      let both = both_nil (name_faults before (get x)) (names_faults after (map get xs)) e in
      let later = each_apart after t xs
      (any_last (λ declared. same_name declared t) before t (numbers_themselves t)) both.1 in
      AllPairs-cons (λ y z. name_of y ≢ name_of z) (f x) (map f xs)
      (All-from_recursion (λ y. name_of (f x) ≢ name_of y) (map f xs)
      (subst (λ t. AllByRecursion (λ y. t ≢ name_of y) (map f xs)) (sym (agree x)) later))
      (names_apart after xs both.1)

  names_short : (before : List (List ℕ)) (xs : List X) → names_faults before (map get xs) ≡ [] →
      AllByRecursion (λ x. length (get x).text ≤ longest_name) xs
  names_short before [] e = tt
  names_short before (x ∷ xs) e =
      let after = before ++ (get x).text ∷ [] in
      let both = both_nil (name_faults before (get x)) (names_faults after (map get xs)) e in
      ((short_and_new before (get x) both.0).0, names_short after xs both.1)

  abbrev spots : List X → List Spot
  spots xs = map (λ name. name.spot) (map get xs)

  -- names that are declared without fault are all different
  pub declared_apart : (most : ℕ) (xs : List X) → declared_faults most (map get xs) ≡ [] →
      AllPairs (λ y z. name_of y ≢ name_of z) (map f xs)
  declared_apart most xs e =
      names_apart [] xs (both_nil (names_faults [] (map get xs)) (past_limit most (spots xs)) e).0

  -- none of them is too long
  pub declared_short : (most : ℕ) (xs : List X) → declared_faults most (map get xs) ≡ [] →
      AllByRecursion (λ x. length (get x).text ≤ longest_name) xs
  declared_short most xs e =
      names_short [] xs (both_nil (names_faults [] (map get xs)) (past_limit most (spots xs)) e).0

  -- there aren't more than there may be
  pub declared_few : (most : ℕ) (xs : List X) → declared_faults most (map get xs) ≡ [] →
      length (map f xs) ≤ most
  declared_few most xs e =
      let few = within_limit most (spots xs)
      (both_nil (names_faults [] (map get xs)) (past_limit most (spots xs)) e).1 in
      let same = length-map (map get xs) (λ name. name.spot) in
      let also = length-map xs get in
      let here = length-map xs f in
      omega (arith, few, same, also, here)

-- Names on the left of actions: each is set once, and is used only where it is set before.
use Rattle.std.proofs.Common.{◌≡◌, ◌≢◌, ℕ, suc, ◌+◌, ◌<◌, ◌≤◌, Bool, true, false, ◌||◌}
use Rattle.std.proofs.Common.{List}
use Rattle.std.proofs.Common.{[], ◌∷◌, ◌++◌, map, refl, sym, ap, ◌∙◌, subst, length, arith}
use Rattle.std.specs.Prelude.{Option, Some, None, unwrap_or, is_none, if◌then◌else◌, AllPairs}
use Rattle.std.specs.Prelude.{option_and_then, slice_get}
use Rattle.std.specs.List.{AllByRecursion, list_any}
use Rattle.std.proofs.lemmas.Option.{same_Some}
use Rattle.std.proofs.lemmas.List.{length-map}
use Rattle.std.proofs.lemmas.List.Elements.{All-from_recursion}
use Rattle.std.proofs.lemmas.List.Kept.{AllPairs-cons}
use Rattle.rn_items.proofs.Numbers.{numbers_themselves}
use Rattle.rn_net.specs.declared.plain.Plain.{Plain}
use Rattle.rn_net.specs.declared.plain.PNet.{PNet}
use Rattle.rn_declared.specs.Names.{same_name, number_from, number_among}
use Rattle.rn_declared.specs.Patterns.{pattern_of}
use Rattle.rn_rules.specs.Systems.{scope_of}
use Rattle.rn_numbering.specs.Numbering.{numbers_of}
use Rattle.rn_declared.proofs.DeclaredNames.{any_left, any_last}
use Rattle.rn_check.proofs.ScopeKinds.{same_texts}
use Rattle.rn_numbered.proofs.NumberLemmas.{number_below}

-- A number that is found isn't below the first.
pub number_after : (n m : ℕ) (names : List (List ℕ)) (name : List ℕ) →
    number_from n names name ≡ Some m → n ≤ m
number_after n m [] name e = absurd (let no : ⊥ = cc in no)
number_after n m (d ∷ names) name e = by (same_name d name) (number_after (n + 1) m names name) e
  where
    by : (b : Bool) → (number_from (n + 1) names name ≡ Some m → n + 1 ≤ m) →
        (if b then Some n else number_from (n + 1) names name) ≡ Some m → n ≤ m
    by true later e = let same = same_Some n m e in omega (arith, same)
    by false later e = let more = later e in omega (arith, more)

both_found : (n m : ℕ) (names : List (List ℕ)) (d a b : List ℕ) (x y : Bool) →
    same_name d a ≡ x → same_name d b ≡ y →
    (number_from (n + 1) names a ≡ Some m → number_from (n + 1) names b ≡ Some m → a ≡ b) →
    (if x then Some n else number_from (n + 1) names a) ≡ Some m →
    (if y then Some n else number_from (n + 1) names b) ≡ Some m → a ≡ b
both_found n m names d a b true true p q later e f = sym (same_texts d a p) ∙ same_texts d b q
both_found n m names d a b true false p q later e f =
    let same = same_Some n m e in
    let more = number_after (n + 1) m names b f in
    absurd (omega (arith, same, more))
both_found n m names d a b false true p q later e f =
    let same = same_Some n m f in
    let more = number_after (n + 1) m names a e in
    absurd (omega (arith, same, more))
both_found n m names d a b false false p q later e f = later e f

-- names with one number are the same
pub same_number : (n m : ℕ) (names : List (List ℕ)) (a b : List ℕ) →
    number_from n names a ≡ Some m → number_from n names b ≡ Some m → a ≡ b
same_number n m [] a b e f = absurd (let no : ⊥ = cc in no)
same_number n m (d ∷ names) a b e f =
    both_found n m names d a b (same_name d a) (same_name d b) refl refl
    (same_number (n + 1) m names a b) e f

abbrev pub IsIn : List (List ℕ) → List ℕ → Type 0
IsIn names name = list_any (λ declared. same_name declared name) names ≡ true

-- A name has a number among names exactly where it is in.
early : (n : ℕ) (d : List ℕ) (names rest : List (List ℕ)) (name : List ℕ) (b : Bool) →
    same_name d name ≡ b → (b || list_any (λ x. same_name x name) names) ≡ true →
    (IsIn names name →
    (m : ℕ) × (number_from (n + 1) (names ++ rest) name ≡ Some m) × (m < n + 1 + length names)) →
    (m : ℕ) × ((if b then Some n else number_from (n + 1) (names ++ rest) name) ≡ Some m)
    × (m < n + suc (length names))
early n d names rest name true is there later = (n, refl, omega arith)
early n d names rest name false is there later =
    let found = later there in
    let low = found.2 in (found.0, found.1, omega (arith, low))

pub found_early : (n : ℕ) (names rest : List (List ℕ)) (name : List ℕ) → IsIn names name →
    (m : ℕ) × (number_from n (names ++ rest) name ≡ Some m) × (m < n + length names)
found_early n [] rest name there = absurd (let no : ⊥ = cc in no)
found_early n (d ∷ names) rest name there =
    early n d names rest name (same_name d name) refl there
    (λ there. found_early (n + 1) names rest name there)

late : (n m : ℕ) (d : List ℕ) (names rest : List (List ℕ)) (name : List ℕ) (b : Bool) →
    same_name d name ≡ b → m < n + suc (length names) →
    (if b then Some n else number_from (n + 1) (names ++ rest) name) ≡ Some m →
    (m < n + 1 + length names → number_from (n + 1) (names ++ rest) name ≡ Some m →
    IsIn names name) → (b || list_any (λ x. same_name x name) names) ≡ true
late n m d names rest name true is low e later = refl
late n m d names rest name false is low e later = later (omega (arith, low)) e

-- a number below how many names there are first is that of one of these
pub early_found : (n m : ℕ) (names rest : List (List ℕ)) (name : List ℕ) → m < n + length names →
    number_from n (names ++ rest) name ≡ Some m → IsIn names name
early_found n m [] rest name low e =
    let more = number_after n m rest name e in absurd (omega (arith, low, more))
early_found n m (d ∷ names) rest name low e =
    late n m d names rest name (same_name d name) refl low e
    (λ low e. early_found (n + 1) m names rest name low e)

module _ (plain : Plain) (net : PNet) where
  abbrev pub IsDeclared : List ℕ → Type 0
  IsDeclared name = is_none ((scope_of plain net).pattern_of_var name) ≡ false

  abbrev names : List (List ℕ)
  names = map (λ v. v.name.text) net.vars

  abbrev var : List ℕ → ℕ
  var = (numbers_of plain net).var

  -- a name that is declared has a number
  numbered : (name : List ℕ) (o : Option ℕ) → number_among names name ≡ o →
      is_none (option_and_then (slice_get (map (λ v. pattern_of v.kind) net.vars)) o) ≡ false →
      (n : ℕ) × (number_among names name ≡ Some n)
  numbered name None is e = absurd (let no : ⊥ = cc in no)
  numbered name (Some n) is e = (n, is)

  pub declared_number : (name : List ℕ) → IsDeclared name →
      (n : ℕ) × (number_among names name ≡ Some n) × (var name ≡ n)
  declared_number name e =
      let found = numbered name (number_among names name) refl e in
      (found.0, found.1, ap (λ o. unwrap_or o 0) found.1)

  pub declared_below : (name : List ℕ) → IsDeclared name → var name < length net.vars
  declared_below name e =
      let found = declared_number name e in
      let low = number_below 0 found.0 names name found.1 in
      let same = found.2 in
      let len = length-map net.vars (λ v. v.name.text) in
      omega (arith, low, same, len)

  pub names_same : (a b : List ℕ) → IsDeclared a → IsDeclared b → var a ≡ var b → a ≡ b
  names_same a b da db e =
      let found = declared_number a da in
      let other = declared_number b db in
      same_number 0 found.0 names a b found.1
      (other.1 ∙ ap (λ m. Some m) (sym other.2 ∙ sym e ∙ found.2))

  -- each name is declared, and new after those before it
  abbrev pub NewEach : List (List ℕ) → List (List ℕ) → Type 0
  NewEach before [] = Unit {0}
  NewEach before (x ∷ xs) = (¬ IsIn before x) × IsDeclared x × NewEach (before ++ x ∷ []) xs

  pub all_declared : (before xs : List (List ℕ)) → NewEach before xs → AllByRecursion IsDeclared xs
  all_declared before [] new = tt
  all_declared before (x ∷ xs) new = (new.1, all_declared (before ++ x ∷ []) xs new.2)

  later_apart : (before xs : List (List ℕ)) (t : List ℕ) → IsDeclared t → IsIn before t →
      NewEach before xs → AllByRecursion (λ y. var t ≢ y) (map var xs)
  later_apart before [] t known there new = tt
  later_apart before (x ∷ xs) t known there new = (
    λ same. new.0 (subst (IsIn before) (names_same t x known new.1 same) there),
    later_apart (before ++ x ∷ []) xs t known
        (any_left (λ declared. same_name declared t) before (x ∷ []) there) new.2,
  )

  pub numbers_apart : (before xs : List (List ℕ)) → NewEach before xs →
      AllPairs (λ x y. x ≢ y) (map var xs)
  numbers_apart before [] new = λ i j d low high. absurd (omega (arith, high))
  numbers_apart before (x ∷ xs) new =
      AllPairs-cons (λ x y. x ≢ y) (var x) (map var xs)
      (All-from_recursion (λ y. var x ≢ y) (map var xs)
      (later_apart (before ++ x ∷ []) xs x new.1
      (any_last (λ declared. same_name declared x) before x (numbers_themselves x)) new.2))
      (numbers_apart (before ++ x ∷ []) xs new.2)

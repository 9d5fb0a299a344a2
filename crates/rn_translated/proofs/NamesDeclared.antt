-- Names that are short and apart are declared without fault.
use Rattle.std.proofs.Common.{◌≡◌, ℕ, suc, ◌≤◌, Bool, true, false, not, ◌||◌, List, [], ◌∷◌, ◌++◌, map, length, refl, sym, ap, ◌∙◌, subst, arith}
use Rattle.std.specs.Prelude.{◌≢◌, All, AllPairs, nat_le}
use Rattle.std.specs.List.{AllZip, list_any}
use Rattle.std.specs.Option.{option_map_or}
use Rattle.std.proofs.lemmas.Bool.Decides.{nat_tests}
use Rattle.std.proofs.lemmas.List.{length-map}
use Rattle.std.proofs.lemmas.List.Elements.{All-head, All-tail, All-map}
use Rattle.std.proofs.lemmas.List.Kept.{AllPairs-cons}
use Rattle.std.proofs.lemmas.Option.{slice_get_past}
use Rattle.rn_notation.specs.declared.token.Spot.{Spot}
use Rattle.rn_model.specs.Limits.{longest_name}
use Rattle.rn_inscript.specs.declared.inscriptions.PName.{PName}
use Rattle.rn_declared.specs.declared.fault.Rule.TheVariants as Rule
use Rattle.rn_declared.specs.Faults.{broken, broken_if, past_limit}
use Rattle.rn_declared.specs.Names.{same_name, name_faults, names_faults, declared_faults}
use Rattle.rn_translated.proofs.FormsMean.{differ}
use Rattle.rn_items.proofs.Lists.{pairs_head, pairs_tail}

pub none_both : {A : Type 0} (xs ys : List A) → xs ≡ [] → ys ≡ [] → xs ++ ys ≡ []
none_both xs ys a b = ap (λ zs. zs ++ ys) a ∙ b

pub same_length : {X Y : Type 0} (R : X → Y → Type 0) (xs : List X) (ys : List Y) → AllZip R xs ys →
    length xs ≡ length ys
same_length R [] [] are = refl
same_length R (x ∷ xs) (y ∷ ys) are = ap suc (same_length R xs ys are.1)
same_length R [] (y ∷ ys) are = absurd are
same_length R (x ∷ xs) [] are = absurd are

-- names
not_with : (before : List (List ℕ)) (x name : List ℕ) → x ≢ name →
    list_any (λ declared. same_name declared name) before ≡ false →
    list_any (λ declared. same_name declared name) (before ++ x ∷ []) ≡ false
not_with [] x name apart none = rw (differ x name apart) refl
not_with (y ∷ before) x name apart none =
    by (same_name y name) (list_any (λ declared. same_name declared name) before)
    (list_any (λ declared. same_name declared name) (before ++ x ∷ [])) none
    (λ rest. not_with before x name apart rest)
  where
    by : (here rest more : Bool) → here || rest ≡ false → (rest ≡ false → more ≡ false) →
        here || more ≡ false
    by true rest more e f = e
    by false rest more e f = f e

short : (n : ℕ) → n ≤ longest_name → not (nat_le n longest_name) ≡ false
short n few =
    let is : nat_le n longest_name ≡ true = grind (arith, nat_tests) in
    ap not is

abbrev NewIn : List (List ℕ) → List ℕ → Type 0
NewIn before name = list_any (λ declared. same_name declared name) before ≡ false

names_fine : (before : List (List ℕ)) (names : List PName) →
    All (λ text. length text ≤ longest_name) (map (λ n. n.text) names) →
    All (NewIn before) (map (λ n. n.text) names) →
    AllPairs (λ x y. x ≢ y) (map (λ n. n.text) names) → names_faults before names ≡ []
names_fine before [] few new apart = refl
names_fine before (n ∷ names) few new apart =
    let texts = map (λ n. n.text) names in
    let Few = λ (text : List ℕ). length text ≤ longest_name in
    let later = pairs_head (λ x y. x ≢ y) n.text texts apart in
    let after = All-tail (NewIn before) n.text texts new in
    let fresh : All (NewIn (before ++ n.text ∷ [])) texts =
    λ k d within. not_with before n.text _ (later k d within) (after k d within) in
    none_both (name_faults before n) (names_faults (before ++ n.text ∷ []) names)
    (none_both
    (broken_if (not (nat_le (length n.text) longest_name)) Rule.Limit n.spot)
    (broken_if (list_any (λ declared. same_name declared n.text) before) Rule.Once n.spot)
    (ap (λ b. broken_if b Rule.Limit n.spot) (short (length n.text) (All-head Few n.text texts few)))
    (ap (λ b. broken_if b Rule.Once n.spot) (All-head (NewIn before) n.text texts new)))
    (names_fine (before ++ n.text ∷ []) names (All-tail Few n.text texts few) fresh
    (pairs_tail (λ x y. x ≢ y) n.text texts apart))

pub within_limit : (most : ℕ) (spots : List Spot) → length spots ≤ most → past_limit most spots ≡ []
within_limit most spots few =
    ap (λ o. option_map_or (λ spot. broken Rule.Limit spot ∷ []) o []) (slice_get_past spots most few)

pub declared_fine : (most : ℕ) (names : List PName) (texts : List (List ℕ)) →
    map (λ n. n.text) names ≡ texts → All (λ text. length text ≤ longest_name) texts →
    AllPairs (λ x y. x ≢ y) texts → length names ≤ most → declared_faults most names ≡ []
declared_fine most names texts are few apart fit =
    let count = length-map names (λ n. n.spot) in
    none_both (names_faults [] names) (past_limit most (map (λ n. n.spot) names))
    (names_fine [] names
    (subst (All (λ text. length text ≤ longest_name)) (sym are) few)
    (λ k d within. refl)
    (subst (AllPairs (λ x y. x ≢ y)) (sym are) apart))
    (within_limit most (map (λ n. n.spot) names) (omega (arith, count, fit)))

pub pairs_map : {X : Type 0} (name : X → List ℕ) (xs : List X) →
    AllPairs (λ x y. name x ≢ name y) xs → AllPairs (λ x y. x ≢ y) (map name xs)
pairs_map name [] apart = λ i j d low high. absurd (omega (arith, high))
pairs_map name (x ∷ xs) apart =
    AllPairs-cons (λ x y. x ≢ y) (name x) (map name xs)
    (All-map (λ y. name x ≢ y) name xs (pairs_head (λ x y. name x ≢ name y) x xs apart))
    (pairs_map name xs (pairs_tail (λ x y. name x ≢ name y) x xs apart))

-- Items that are given by their indices.
use Rattle.std.proofs.Common.{◌≡◌, ℕ, zero, suc, ◌+◌, ◌<◌, List, [], ◌∷◌, ◌++◌}
use Rattle.std.proofs.Common.{length, get_or, map, drop, inl, inr, refl, sym, ap, ◌∙◌, subst, arith}
use Rattle.std.specs.Prelude.{Some, Contains, slice_get}
use Rattle.std.proofs.lemmas.Option.{slice_get-get_or}
use Rattle.std.proofs.lemmas.List.{drop_more, drop_all, get_or_default}
use Rattle.std.proofs.lemmas.List.Elements.{Contains-append_left, Contains-append_right}
use Rattle.std.proofs.lemmas.List.Elements.{Contains-append_cases}
use Rattle.rn_model.specs.Derivation.{Item}
use Rattle.std.proofs.lemmas.Grind.{flat_map-append}
use Rattle.rn_binding.specs.declared.part.Part.{Part}
use Rattle.rn_binding.specs.link.Parts.{item_of, item_at, picked, AllWithin, HaveTheSame}

-- one more item
pub pick_more : (parts : List Part) (ks : List ℕ) (i : ℕ) (part : Part) → i < length parts →
    part ≡ get_or parts i part → picked parts (ks ++ i ∷ []) ≡ picked parts ks ++ item_of part ∷ []
pick_more parts ks i part h is =
    flat_map-append (λ k. item_at (slice_get parts k)) ks (i ∷ [])
    ∙ ap (λ o. picked parts ks ++ (item_at o ++ [])) (slice_get-get_or parts i part h)
    ∙ ap (λ p. picked parts ks ++ item_of p ∷ []) (sym is)

-- the rest of indices that are all within
rest_within : (parts : List Part) (k : ℕ) (ks : List ℕ) → AllWithin parts (k ∷ ks) →
    AllWithin parts ks
rest_within parts k ks all j d h = all (suc j) d (omega (arith, h))

pub as_many : (parts : List Part) (ks : List ℕ) → AllWithin parts ks →
    length (picked parts ks) ≡ length ks
as_many parts [] all = refl
as_many [] (k ∷ ks) all =
    let first : k < 0 = all 0 0 (omega arith) in absurd (let no : ⊥ = omega (arith, first) in no)
as_many (p ∷ ps) (k ∷ ks) all =
    let rest = as_many (p ∷ ps) ks (rest_within (p ∷ ps) k ks all) in
    let first : k < length (p ∷ ps) = all 0 0 (omega arith) in
    let here : length (item_of (get_or (p ∷ ps) k p) ∷ picked (p ∷ ps) ks) ≡ length (k ∷ ks) =
    omega (arith, rest) in
    ap (λ o. length (item_at o ++ picked (p ∷ ps) ks)) (slice_get-get_or (p ∷ ps) k p first) ∙ here

pub none_within : (parts : List Part) → AllWithin parts []
none_within parts j d h = absurd (let no : ⊥ = omega (arith, h) in no)

pub more_within : (parts : List Part) (ks : List ℕ) (i : ℕ) → AllWithin parts ks →
    i < length parts → AllWithin parts (ks ++ i ∷ [])
more_within parts [] i all h zero d low = h
more_within parts [] i all h (suc j) d low = absurd (let no : ⊥ = omega (arith, low) in no)
more_within parts (k ∷ ks) i all h zero d low = all 0 d (omega arith)
more_within parts (k ∷ ks) i all h (suc j) d low =
    more_within parts ks i (rest_within parts k ks all) h j d (omega (arith, low))

-- what is picked of one more index before those that come after it
pub picked_before : (parts : List Part) (ks : List ℕ) (k m i : ℕ) (part : Part) → k + 1 ≡ m →
    k < length ks → i ≡ get_or ks k 0 → i < length parts → part ≡ get_or parts i part →
    picked parts (drop k ks) ≡ item_of part ∷ picked parts (drop m ks)
picked_before parts ks k m i part next h is low at =
    ap (picked parts) (drop_more ks k 0 h ∙ ap (λ j. j ∷ drop (k + 1) ks) (sym is)
    ∙ ap (λ n. i ∷ drop n ks) next)
    ∙ ap (λ o. item_at o ++ picked parts (drop m ks)) (slice_get-get_or parts i part low)
    ∙ ap (λ p. item_of p ∷ picked parts (drop m ks)) (sym at)

-- the same items, one in front of the one list and behind the other
same_more : (xs ys : List Item) (x : Item) → HaveTheSame xs ys → HaveTheSame (xs ++ x ∷ []) (x ∷ ys)
same_more xs ys x same item = (
  λ there. elim (Contains-append_cases xs (x ∷ []) item there) [
    | inl early ↦ Contains-append_right (x ∷ []) ys item ((same item).0 early)
    | inr this ↦ Contains-append_left (x ∷ []) ys item this
  ],
  λ there. elim (Contains-append_cases (x ∷ []) ys item there) [
    | inl this ↦ Contains-append_right xs (x ∷ []) item this
    | inr early ↦ Contains-append_left xs (x ∷ []) item ((same item).1 early)
  ],
)

-- at first none are picked, and then one more of the parts before
pub none_picked : (parts : List Part) →
    HaveTheSame (picked parts []) (map item_of (drop (length parts) parts))
none_picked parts = subst (λ ps. HaveTheSame (picked parts []) (map item_of ps))
    (sym (drop_all (length parts) parts (omega arith))) (λ item. (λ there. there, λ there. there))

pub all_before : (parts : List Part) (all : List ℕ) (i m : ℕ) → i + 1 ≡ m → i < length parts →
    HaveTheSame (picked parts all) (map item_of (drop m parts)) →
    HaveTheSame (picked parts (all ++ i ∷ [])) (map item_of (drop i parts))
all_before [] all i m next h same = absurd (let no : ⊥ = omega (arith, h) in no)
all_before (p ∷ ps) all i m next h same =
    let at = get_or (p ∷ ps) i p in
    let one : picked (p ∷ ps) (all ++ i ∷ []) ≡ picked (p ∷ ps) all ++ item_of at ∷ [] =
    pick_more (p ∷ ps) all i at h (get_or_default (p ∷ ps) i p at h) in
    let rest : map item_of (drop i (p ∷ ps)) ≡ item_of at ∷ map item_of (drop m (p ∷ ps)) =
    ap (map item_of) (drop_more (p ∷ ps) i p h ∙ ap (λ n. at ∷ drop n (p ∷ ps)) next) in
    subst (λ xs. HaveTheSame xs (map item_of (drop i (p ∷ ps)))) (sym one)
    (subst (HaveTheSame (picked (p ∷ ps) all ++ item_of at ∷ [])) (sym rest)
    (same_more (picked (p ∷ ps) all) (map item_of (drop m (p ∷ ps))) (item_of at) same))

-- and the item there is among those that are picked
pub picked_there : (parts : List Part) (ks : List ℕ) (k i : ℕ) (part : Part) → k < length ks →
    i ≡ get_or ks k 0 → i < length parts → part ≡ get_or parts i part →
    Contains (picked parts ks) (item_of part)
picked_there parts [] k i part h is low at = absurd (let no : ⊥ = omega (arith, h) in no)
picked_there parts (j ∷ ks) zero i part h is low at =
    let here : slice_get parts j ≡ Some part =
    ap (slice_get parts) (sym is) ∙ slice_get-get_or parts i part low ∙ ap Some (sym at) in
    subst (λ o. Contains (item_at o ++ picked parts ks) (item_of part)) (sym here)
    (0, omega arith, refl)
picked_there parts (j ∷ ks) (suc k) i part h is low at =
    Contains-append_right (item_at (slice_get parts j)) (picked parts ks) (item_of part)
    (picked_there parts ks k i part (omega (arith, h)) is low at)

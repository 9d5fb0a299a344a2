-- Where a term has the value that it is held against.
use Rattle.std.proofs.Common.{◌≡◌, ◌≢◌, ◌<◌, ◌≤◌, ℕ, zero, suc, List, [], ◌∷◌, ◌++◌, refl}
use Rattle.std.proofs.Common.{◌+◌, length, map, take, drop, get_or, sym, ◌∙◌, ap, subst, arith}
use Rattle.std.specs.Prelude.{◌↔◌}
use Rattle.std.proofs.lemmas.List.{length-map, length-take, map_push, take_more}
use denote.Param.Weighed.{most}
use Rattle.rn_value.specs.declared.value.Value.{Value}
use Rattle.rn_value.specs.declared.value.Value.TheVariants as Value
use Rattle.rn_term.specs.declared.term.Term.{Term}
use Rattle.rn_term.specs.declared.term.Term.TheVariants as T
use Rattle.rn_term.specs.Stores.{State, term_at, Leads}
use Rattle.rn_term.specs.Assignments.{value_at, HasValue, Satisfies}
use Rattle.rn_term.specs.Forcing.{IsList}
use Rattle.rn_term.proofs.Agreement.{leads-same}
use Rattle.rn_value.proofs.Variants.{same_parts_of_tuples}
use Rattle.rn_term.specs.Forcing.{items_of}
use Rattle.rn_term.proofs.OneValue.{said}
use Rattle.rn_term.proofs.FillingSteps.{items_of-list}
use Rattle.rn_unify.proofs.ListPositions.{list_of_items}

-- an id has the value of the term to which links lead from it
pub value_of_end : (s : State) (id end : ℕ) (t : Term) → Leads s.notes id end →
    end < length s.terms → t ≡ term_at s end →
    (vs : List Value) → Satisfies s vs → HasValue vs t (value_at vs id)
value_of_end s id end t leads within is vs sat =
    subst (λ v. HasValue vs t v) (sym (leads-same s vs id end sat leads))
    (said s vs end t sat within (sym is))

-- a tuple has a tuple's value exactly where its parts have those of that value
pub as_tuple : (vs : List Value) (ids : List ℕ) (v w : Value) (parts : List Value) →
    HasValue vs (T.Tuple ids) v → w ≡ Value.Tuple parts →
    (v ≡ w) ↔ (map (value_at vs) ids ≡ parts)
as_tuple vs ids v w parts has is = (
  λ e. same_parts_of_tuples (map (value_at vs) ids) parts (sym has ∙ e ∙ is),
  λ e. has ∙ ap (λ xs. Value.Tuple xs) e ∙ sym is,
)

-- two lists are one value exactly where they have the same elements
pub as_list : (v w : Value) (items : List Value) → IsList v → w ≡ Value.List items →
    (v ≡ w) ↔ (items_of v ≡ items)
as_list v w items list is = (
  λ e. ap items_of e ∙ ap items_of is ∙ items_of-list items,
  λ e. list_of_items v list ∙ ap (λ xs. Value.List xs) e ∙ sym is,
)

-- a term that is no variable, no value and no tuple is a list
pub has_list : (vs : List Value) (t : Term) (v : Value) → HasValue vs t v → t ≢ T.Free →
    ((w : Value) → t ≢ T.Atom w) → ((ids : List ℕ) → t ≢ T.Tuple ids) → IsList v
has_list vs T.Free v has free atom tuple = absurd (free refl)
has_list vs (T.Atom w) v has free atom tuple = absurd (atom w refl)
has_list vs (T.Tuple ids) v has free atom tuple = absurd (tuple ids refl)
has_list vs (T.List ids) v has free atom tuple = (map (value_at vs) ids, has)
has_list vs (T.Cons ids tail) v has free atom tuple = (map (value_at vs) ids ++ has.0, has.2)

-- lists with one more element each are one exactly where the lists and these elements are
ends_same : {X : Type 0} (xs ys : List X) (x y : X) → length xs ≡ length ys →
    (xs ++ x ∷ [] ≡ ys ++ y ∷ []) ↔ ((xs ≡ ys) × (x ≡ y))
ends_same [] [] x y long = (λ e. (refl, cc), λ both. ap (λ z. z ∷ []) both.1)
ends_same [] (b ∷ ys) x y long = absurd (omega (arith, long))
ends_same (a ∷ xs) [] x y long = absurd (omega (arith, long))
ends_same (a ∷ xs) (b ∷ ys) x y long =
    let rest = ends_same xs ys x y (omega (arith, long)) in (
      λ e.
          let tails : xs ++ x ∷ [] ≡ ys ++ y ∷ [] = cc in
          let heads : a ≡ b = cc in
          let both = rest.0 tails in
          ((λ i. heads i ∷ both.0 i), both.1),
      λ both. (λ i. both.0 i ++ both.1 i ∷ []),
    )

-- one more element of a list has the next of some values
pub one_more : {X Y : Type 0} (f : X → Y) (xs : List X) (ys : List Y) (k : ℕ) (d : X) (e : Y) →
    k < length xs → k < length ys →
    (map f (take (k + 1) xs) ≡ take (k + 1) ys) ↔
    ((map f (take k xs) ≡ take k ys) × (f (get_or xs k d) ≡ get_or ys k e))
one_more f xs ys k d e small within =
    let long : length (map f (take k xs)) ≡ length (take k ys) =
    omega (arith, length-map (take k xs) f, length-take k xs, length-take k ys, small, within) in
    let left : map f (take (k + 1) xs) ≡ map f (take k xs) ++ f (get_or xs k d) ∷ [] =
    ap (map f) (take_more xs k d small) ∙ map_push f (take k xs) (get_or xs k d) in
    let right : take (k + 1) ys ≡ take k ys ++ get_or ys k e ∷ [] = take_more ys k e within in
    let same = ends_same (map f (take k xs)) (take k ys) (f (get_or xs k d)) (get_or ys k e) long in
    (λ is. same.0 (sym left ∙ is ∙ right), λ both. left ∙ same.1 both ∙ sym right)

-- no value in a part of a list is deeper than the deepest in the list
prefix_no_deeper : (depth : Value → ℕ) (n : ℕ) (vs : List Value) →
    most depth (take n vs) ≤ most depth vs
prefix_no_deeper depth zero vs = omega arith
prefix_no_deeper depth (suc n) [] = omega arith
prefix_no_deeper depth (suc n) (v ∷ vs) = omega (arith, prefix_no_deeper depth n vs)

pub back_no_deeper : (depth : Value → ℕ) (n : ℕ) (vs : List Value) →
    most depth (drop n vs) ≤ most depth vs
back_no_deeper depth zero vs = omega arith
back_no_deeper depth (suc n) [] = omega arith
back_no_deeper depth (suc n) (v ∷ vs) = omega (arith, back_no_deeper depth n vs)

pub part_no_deeper : (depth : Value → ℕ) (m n : ℕ) (vs : List Value) →
    most depth (take m (drop n vs)) ≤ most depth vs
part_no_deeper depth m n vs =
    omega (arith, prefix_no_deeper depth m (drop n vs), back_no_deeper depth n vs)

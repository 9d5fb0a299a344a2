-- What makes two terms one.
use Rattle.std.proofs.Common.{◌≡◌, ◌<◌, ◌+◌, ℕ, List, [], ◌∷◌, ◌++◌, arith, length, map, refl, sym}
use Rattle.std.proofs.Common.{◌∙◌, ap, subst, get_or, Bool, true, below_more}
use Rattle.std.specs.Prelude.{Result, IfOk, IsTrue, None, All, ◌↔◌}
use Rattle.std.proofs.lemmas.List.{same_lists, length-map, get_or-map}
use Rattle.std.proofs.lemmas.Result.{IfOk-weaker}
use Rattle.rn_value.specs.declared.value.Value.{Value}
use Rattle.rn_value.specs.declared.value.Value.TheVariants as Value
use Rattle.rn_term.specs.declared.term.Term.{Term}
use Rattle.rn_term.specs.declared.term.Term.TheVariants as T
use Rattle.rn_term.specs.Stores.{State, term_at, link_of, Leads}
use Rattle.rn_term.specs.Assignments.{value_at, Satisfies, Keeps}
use Rattle.rn_term.specs.Occurring.{IsFree, parts_of}
use Rattle.rn_value.proofs.Variants.{same_parts_of_tuples}
use Rattle.rn_term.proofs.Extents.{extent, greatest, extent-parts}
use Rattle.rn_term.proofs.Agreement.{leads-same}
use Rattle.rn_term.proofs.OneValue.{said}
use Rattle.rn_unify.specs.declared.equation.Equation.{Equation}
use Rattle.rn_unify.specs.declared.equation.Other.TheVariants as O
use Rattle.rn_unify.specs.declared.classes.Classes.{Classes}
use Rattle.rn_unify.specs.link.Equations.{Finds, Adds}
use Rattle.rn_unify.specs.link.Rests.{IsComposed}
use Rattle.rn_unify.specs.Unifying.{AreOne}
use Rattle.rn_unify.proofs.ListPositions.{built_at}
use Rattle.rn_unify.proofs.Findings.{finds_same_result, finds_here, adds_same, adds_then}
use Rattle.rn_unify.proofs.Findings.{adds_same_result}

-- the wish that ids have the values of others, one by one
abbrev pub AreAll : List ℕ → List ℕ → List Value → Type 0
AreAll xs ys vs = map (value_at vs) xs ≡ map (value_at vs) ys

-- under the assignments of a store one wish is true exactly where another is
abbrev pub IsSameWish : State → (List Value → Type 0) → (List Value → Type 0) → Type 0
IsSameWish s wish other = (vs : List Value) → Satisfies s vs → wish vs ↔ other vs

-- an equation was noted after others
abbrev pub IsNoted : List Equation → List Equation → Equation → Bool → Type 0
IsNoted before after equation answer = IsTrue answer × (after ≡ before ++ equation ∷ [])

-- Links lead from two ids to two others.
module _ (s : State) (a b x y : ℕ) (left : Leads s.notes a x) (right : Leads s.notes b y) where
  -- ids are one where those are to which links lead
  pub same_at_ends : IsSameWish s (AreOne a b) (AreOne x y)
  same_at_ends vs sat =
      let first = leads-same s vs a x sat left in
      let second = leads-same s vs b y sat right in
      (λ same. sym first ∙ same ∙ second, λ same. first ∙ same ∙ sym second)

  -- where links lead to a variable, it has to be the other
  pub first_noted : {E : Type 0} (before after : List Equation) (r : Result Bool E) →
      IsFree s x → y < length s.terms → link_of s.notes y ≡ None → (x ≡ y → ⊥) →
      IfOk r (IsNoted before after (record { var = x; other = O.Here y })) →
      IfOk r (Finds s (AreOne a b) before after)
  first_noted before after r free within unbound apart = IfOk-weaker r
      (IsNoted before after (record { var = x; other = O.Here y }))
      (Finds s (AreOne a b) before after)
      (λ answer noted. finds_here s (AreOne a b) before after x y answer noted.0 noted.1 free within
      unbound (λ same. apart (sym same)) same_at_ends)

  pub second_noted : {E : Type 0} (before after : List Equation) (r : Result Bool E) →
      IsFree s y → x < length s.terms → link_of s.notes x ≡ None → (x ≡ y → ⊥) →
      IfOk r (IsNoted before after (record { var = y; other = O.Here x })) →
      IfOk r (Finds s (AreOne a b) before after)
  second_noted before after r free within unbound apart = IfOk-weaker r
      (IsNoted before after (record { var = y; other = O.Here x }))
      (Finds s (AreOne a b) before after)
      (λ answer noted. finds_here s (AreOne a b) before after y x answer noted.0 noted.1 free within
      unbound apart
      (λ vs sat.
      let ends = same_at_ends vs sat in
      (λ same. sym (ends.0 same), λ same. ends.1 (sym same))))

  -- where they lead to a value, the other has to have that
  pub found_of_second : {E : Type 0} (v : Value) (before after : List Equation)
      (r : Result Bool E) → x < length s.terms → term_at s x ≡ T.Atom v →
      IfOk r (Finds s (λ vs. value_at vs y ≡ v) before after) →
      IfOk r (Finds s (AreOne a b) before after)
  found_of_second v before after r within is =
      finds_same_result s (AreOne a b) (λ vs. value_at vs y ≡ v) before after r
      (λ vs sat.
      let here = said s vs x (T.Atom v) sat within is in
      let ends = same_at_ends vs sat in
      (λ same. sym (ends.0 same) ∙ here, λ same. ends.1 (here ∙ sym same)))

  pub found_of_first : {E : Type 0} (v : Value) (before after : List Equation)
      (r : Result Bool E) → y < length s.terms → term_at s y ≡ T.Atom v →
      IfOk r (Finds s (λ vs. value_at vs x ≡ v) before after) →
      IfOk r (Finds s (AreOne a b) before after)
  found_of_first v before after r within is =
      finds_same_result s (AreOne a b) (λ vs. value_at vs x ≡ v) before after r
      (λ vs sat.
      let here = said s vs y (T.Atom v) sat within is in
      let ends = same_at_ends vs sat in
      (λ same. ends.0 same ∙ here, λ same. ends.1 (same ∙ sym here)))

-- what is neither a variable nor a value is composed
pub composed : (t : Term) → (t ≡ T.Free → ⊥) → ((v : Value) → t ≡ T.Atom v → ⊥) → IsComposed t
composed T.Free no_variable no_value = absurd (no_variable refl)
composed (T.Atom v) no_variable no_value = absurd (no_value v refl)
composed (T.Tuple ids) no_variable no_value = tt
composed (T.List ids) no_variable no_value = tt
composed (T.Cons ids tail) no_variable no_value = tt

-- the first of some ids have the values of the first of others
abbrev pub AreFirst : ℕ → List ℕ → List ℕ → List Value → Type 0
AreFirst n xs ys vs = (k : ℕ) → k < n → AreOne (get_or xs k 0) (get_or ys k 0) vs

-- ids have the values of others where each has
all_are_one : (vs : List Value) (xs ys : List ℕ) → length xs ≡ length ys →
    AreFirst (length xs) xs ys vs → AreAll xs ys vs
all_are_one vs xs ys each same =
    same_lists (map (value_at vs) xs) (map (value_at vs) ys)
    (length-map xs (value_at vs) ∙ each ∙ sym (length-map ys (value_at vs)))
    (λ k d small.
    let in_first : k < length xs = omega (arith, small, length-map xs (value_at vs)) in
    let in_second : k < length ys = omega (arith, in_first, each) in
    get_or-map (value_at vs) xs k 0 d in_first ∙ same k in_first
    ∙ sym (get_or-map (value_at vs) ys k 0 d in_second))

pub each_is_one : (vs : List Value) (xs ys : List ℕ) (k : ℕ) → k < length xs → k < length ys →
    AreAll xs ys vs → AreOne (get_or xs k 0) (get_or ys k 0) vs
each_is_one vs xs ys k in_first in_second same =
    sym (get_or-map (value_at vs) xs k 0 (value_at vs 0) in_first)
    ∙ ap (λ ws. get_or ws k (value_at vs 0)) same
    ∙ get_or-map (value_at vs) ys k 0 (value_at vs 0) in_second

-- what is found of the first ids and of the next, is found of one more
pub found_of_more : (s : State) (xs ys : List ℕ) (k : ℕ) (between made : Classes)
    (before middle after : List Equation) →
    Adds s (AreFirst k xs ys) between before middle true →
    Adds s (AreOne (get_or xs k 0) (get_or ys k 0)) made middle after true →
    Adds s (AreFirst (k + 1) xs ys) made before after true
found_of_more s xs ys k between made before middle after first next =
    let next_one : List Value → Type 0 = AreOne (get_or xs k 0) (get_or ys k 0) in
    adds_same s (AreFirst (k + 1) xs ys) (λ vs. AreFirst k xs ys vs × next_one vs) made before
    after true
    (λ vs sat solves. (
      λ all. (λ i small. all i (omega (arith, small)), all k (omega arith)),
      λ (few, one). below_more _ _ few one,
    ))
    (adds_then s (AreFirst k xs ys) next_one between made before middle after true first next)

pub found_of_all : (s : State) (xs ys : List ℕ) (k : ℕ) (made : Classes)
    (before after : List Equation) → length xs ≡ length ys → k ≡ length xs →
    Adds s (AreFirst k xs ys) made before after true → Adds s (AreAll xs ys) made before after true
found_of_all s xs ys k made before after each is =
    adds_same s (AreAll xs ys) (AreFirst k xs ys) made before after true
    (λ vs sat solves. (
      λ all i small. each_is_one vs xs ys i (omega (arith, small, is))
          (omega (arith, small, is, each)) all,
      λ first. all_are_one vs xs ys each (λ i small. first i (omega (arith, small, is))),
    ))

-- Two tuples.
module _ (s : State) (a b : ℕ) (xs ys : List ℕ) (in_a : a < length s.terms)
    (in_b : b < length s.terms) (is_a : term_at s a ≡ T.Tuple xs)
    (is_b : term_at s b ≡ T.Tuple ys) where
  -- they are one where their parts are
  same_parts : IsSameWish s (AreOne a b) (AreAll xs ys)
  same_parts vs sat =
      let first = said s vs a (T.Tuple xs) sat in_a is_a in
      let second = said s vs b (T.Tuple ys) sat in_b is_b in (
        λ same. same_parts_of_tuples (map (value_at vs) xs) (map (value_at vs) ys)
            (sym first ∙ same ∙ second),
        λ same. first ∙ ap (λ ws. Value.Tuple ws) same ∙ sym second,
      )

  pub found_of_parts : {E : Type 0} (made : Classes) (before after : List Equation)
      (r : Result Bool E) → IfOk r (Adds s (AreAll xs ys) made before after) →
      IfOk r (Adds s (AreOne a b) made before after)
  found_of_parts made before after r =
      adds_same_result s (AreOne a b) (AreAll xs ys) made before after r
      (λ vs sat solves. same_parts vs sat)

  -- and never where one has more
  pub other_lengths : (length xs ≡ length ys → ⊥) →
      (vs : List Value) → Satisfies s vs → AreOne a b vs → ⊥
  other_lengths other vs sat same = other
      (sym (length-map xs (value_at vs)) ∙ ap length ((same_parts vs sat).0 same)
      ∙ length-map ys (value_at vs))

-- the parts of a tuple are ids of the store, and extend less
pub parts_within : (s : State) (a : ℕ) (xs : List ℕ) → Keeps s → a < length s.terms →
    term_at s a ≡ T.Tuple xs → All (λ id. id < length s.terms) xs
parts_within s a xs keeps within is k d small =
    let below : get_or xs k d < a = built_at s a (T.Tuple xs) keeps within is k d small in
    omega (arith, below, within)

pub parts_smaller : (s : State) (a : ℕ) (xs : List ℕ) → Keeps s → a < length s.terms →
    term_at s a ≡ T.Tuple xs → greatest (extent s) xs < extent s a
parts_smaller s a xs keeps within is =
    let P : Term → Type 0 =
    λ t. length (parts_of t) + greatest (extent s) (parts_of t) < extent s a in
    let all : length xs + greatest (extent s) xs < extent s a =
    subst P is (extent-parts s keeps a within) in
    omega (arith, all)

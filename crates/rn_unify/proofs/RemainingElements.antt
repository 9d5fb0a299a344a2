-- The elements of a list that are left from a position on, before its tail.
use Rattle.std.proofs.Common.{◌≡◌, ◌<◌, ◌≤◌, ℕ, List, [], ◌++◌, arith, length, map}
use Rattle.std.proofs.Common.{refl, sym, ◌∙◌, ap, take, drop}
use Rattle.std.specs.Prelude.{All}
use Rattle.std.proofs.lemmas.List.{length-map, length-drop, length-append, append-nil}
use Rattle.std.proofs.lemmas.List.{drop_all, take-append-le, take-map}
use Rattle.std.proofs.lemmas.List.Elements.{All-nil, All-same, All-take, All-drop, All-weaker}
use Rattle.rn_value.specs.declared.value.Value.{Value}
use Rattle.rn_term.specs.declared.term.Term.{Term}
use Rattle.rn_term.specs.declared.term.Term.TheVariants as T
use Rattle.rn_term.specs.Stores.{State, term_at, IsBuiltBelow}
use Rattle.rn_term.specs.Assignments.{value_at, HasValue, Satisfies, Keeps}
use Rattle.rn_term.specs.Forcing.{IsAlwaysList}
use Rattle.rn_unify.specs.declared.rests.Rest.{Rest}
use Rattle.rn_term.specs.Forcing.{items_of}
use Rattle.rn_unify.specs.link.Rests.{IsRest, IsSpelled, elements_of, rest_value}
use Rattle.rn_term.proofs.OneValue.{said}
use Rattle.rn_unify.proofs.ListPositions.{rest-List, rest-Cons}

-- these ids are left of a list from a position on, before its tail
pub record AreLeft (s : State) (rest : Rest) (ids : List ℕ) : Type 0 where
  pub position : IsRest s rest
  pub spelled : IsSpelled (term_at s rest.id)
  pub are : ids ≡ drop rest.from (elements_of (term_at s rest.id))

pub spelled_is_list : (s : State) (id : ℕ) (t : Term) → id < length s.terms → term_at s id ≡ t →
    IsSpelled t → IsAlwaysList s id
spelled_is_list s id T.Free within is spelled = absurd (let no : ⊥ = cc in no)
spelled_is_list s id (T.Atom v) within is spelled = absurd (let no : ⊥ = cc in no)
spelled_is_list s id (T.Tuple ids) within is spelled = absurd (let no : ⊥ = cc in no)
spelled_is_list s id (T.List ids) within is spelled = λ vs sat.
    (map (value_at vs) ids, said s vs id (T.List ids) sat within is)
spelled_is_list s id (T.Cons ids tail) within is spelled = λ vs sat.
    let has : HasValue vs (T.Cons ids tail) (value_at vs id) =
    said s vs id (T.Cons ids tail) sat within is in
    (map (value_at vs) ids ++ has.0, has.2)

-- what is left of a list begins with the values of the ids that are left before its tail
rest_begins : (s : State) (vs : List Value) (rest : Rest) (t : Term) → Satisfies s vs →
    IsRest s rest → term_at s rest.id ≡ t → IsSpelled t →
    (more : List Value) ×
    (rest_value vs rest ≡ map (value_at vs) (drop rest.from (elements_of t)) ++ more)
rest_begins s vs rest T.Free sat position is spelled = absurd (let no : ⊥ = cc in no)
rest_begins s vs rest (T.Atom v) sat position is spelled = absurd (let no : ⊥ = cc in no)
rest_begins s vs rest (T.Tuple ids) sat position is spelled = absurd (let no : ⊥ = cc in no)
rest_begins s vs rest (T.List ids) sat position is spelled = (
  [],
  rest-List s vs rest ids sat position.within is
      ∙ sym (append-nil (map (value_at vs) (drop rest.from ids))),
)
rest_begins s vs rest (T.Cons ids tail) sat position is spelled = (
  items_of (value_at vs tail),
  rest-Cons s vs rest ids tail sat position.within is (omega (arith, position.ahead ids tail is)),
)

begins : (s : State) (vs : List Value) (rest : Rest) (ids : List ℕ) → Satisfies s vs →
    AreLeft s rest ids →
    (more : List Value) × (rest_value vs rest ≡ map (value_at vs) ids ++ more)
begins s vs rest ids sat left =
    let all = rest_begins s vs rest (term_at s rest.id) sat left.position refl left.spelled in
    (all.0, all.1 ∙ ap (λ xs. map (value_at vs) xs ++ all.0) (sym left.are))

-- the first of them are the first elements
pub first_of_rest : (s : State) (vs : List Value) (rest : Rest) (ids : List ℕ) (count : ℕ) →
    Satisfies s vs → AreLeft s rest ids → count ≤ length ids →
    take count (rest_value vs rest) ≡ map (value_at vs) (take count ids)
first_of_rest s vs rest ids count sat left few =
    let all = begins s vs rest ids sat left in
    ap (take count) all.1
    ∙ take-append-le count (map (value_at vs) ids) all.0
    (omega (arith, few, length-map ids (value_at vs)))
    ∙ take-map (value_at vs) count ids

pub rest_long : (s : State) (vs : List Value) (rest : Rest) (ids : List ℕ) → Satisfies s vs →
    AreLeft s rest ids → length ids ≤ length (rest_value vs rest)
rest_long s vs rest ids sat left =
    let all = begins s vs rest ids sat left in
    omega (
      arith,
      ap length all.1,
      length-append (map (value_at vs) ids) all.0,
      length-map ids (value_at vs),
    )

-- where none is left nothing is, since a position isn't just before a tail
at_end : (s : State) (vs : List Value) (rest : Rest) (t : Term) → Satisfies s vs → IsRest s rest →
    term_at s rest.id ≡ t → IsSpelled t → length (elements_of t) ≤ rest.from →
    rest_value vs rest ≡ []
at_end s vs rest T.Free sat position is spelled none = absurd (let no : ⊥ = cc in no)
at_end s vs rest (T.Atom v) sat position is spelled none = absurd (let no : ⊥ = cc in no)
at_end s vs rest (T.Tuple ids) sat position is spelled none = absurd (let no : ⊥ = cc in no)
at_end s vs rest (T.List ids) sat position is spelled none =
    rest-List s vs rest ids sat position.within is
    ∙ ap (map (value_at vs)) (drop_all rest.from ids none)
at_end s vs rest (T.Cons ids tail) sat position is spelled none =
    absurd (let no : ⊥ = omega (arith, none, position.ahead ids tail is) in no)

pub rest_empty : (s : State) (vs : List Value) (rest : Rest) (ids : List ℕ) → Satisfies s vs →
    AreLeft s rest ids → length ids ≡ 0 → rest_value vs rest ≡ []
rest_empty s vs rest ids sat left none =
    at_end s vs rest (term_at s rest.id) sat left.position refl left.spelled
    (omega (
      arith,
      none,
      ap length left.are,
      length-drop rest.from (elements_of (term_at s rest.id)),
    ))

elements_below : (n : ℕ) (t : Term) → IsBuiltBelow n t → All (λ id. id < n) (elements_of t)
elements_below n T.Free built = All-nil (λ id. id < n)
elements_below n (T.Atom v) built = All-nil (λ id. id < n)
elements_below n (T.Tuple ids) built = All-nil (λ id. id < n)
elements_below n (T.List ids) built = built
elements_below n (T.Cons ids tail) built = built.0

-- they are ids of the store
pub left_within : (s : State) (rest : Rest) (ids : List ℕ) (count : ℕ) → Keeps s →
    AreLeft s rest ids → All (λ id. id < length s.terms) (take count ids)
left_within s rest ids count keeps left =
    let P : ℕ → Type 0 = λ id. id < length s.terms in
    let all : List ℕ = elements_of (term_at s rest.id) in
    let below : All (λ id. id < rest.id) all =
    elements_below rest.id (term_at s rest.id) (keeps.built rest.id left.position.within) in
    All-take P count ids (All-same P ids (drop rest.from all) left.are
    (All-drop P rest.from all
    (All-weaker (λ id. id < rest.id) P (λ id small. omega (arith, small, left.position.within)) all
    below)))

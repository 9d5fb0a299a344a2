-- Positions in lists, and what is left of a list there.
use Rattle.std.proofs.Common.{◌≡◌, ◌<◌, ◌≤◌, ◌+◌, ◌-◌, ℕ, List, [], ◌++◌, length, map, take}
use Rattle.std.proofs.Common.{drop, sym, ◌∙◌, ap, subst, arith}
use Rattle.std.specs.Prelude.{None}
use Rattle.std.proofs.lemmas.List.{length-map, length-drop, drop-drop, drop_at, drop-append-le}
use Rattle.std.proofs.lemmas.List.{drop-map, take_at}
use Rattle.rn_value.specs.declared.value.Value.{Value}
use Rattle.rn_value.specs.declared.value.Value.TheVariants as Value
use Rattle.rn_term.specs.declared.term.Term.{Term}
use Rattle.rn_term.specs.declared.term.Term.TheVariants as T
use Rattle.rn_term.specs.Stores.{State, term_at, link_of, Leads, IsBuiltBelow}
use Rattle.rn_term.specs.Assignments.{value_at, HasValue, Satisfies, Keeps}
use Rattle.rn_term.specs.Forcing.{IsList}
use Rattle.rn_term.proofs.Agreement.{leads-same}
use Rattle.rn_term.proofs.FillingSteps.{items_of-list}
use Rattle.rn_term.proofs.OneValue.{said}
use Rattle.rn_unify.specs.declared.rests.Rest.{Rest}
use Rattle.rn_term.specs.Forcing.{items_of}
use Rattle.rn_unify.specs.link.Rests.{IsRest, elements_of, rest_value}

-- a list is that of its elements
pub list_of_items : (v : Value) → IsList v → v ≡ Value.List (items_of v)
list_of_items v list =
    list.1 ∙ ap (λ xs. Value.List xs) (sym (ap items_of list.1 ∙ items_of-list list.0))

-- what stands in a store at an id is built of what was there before
pub built_at : (s : State) (id : ℕ) (t : Term) → Keeps s → id < length s.terms →
    term_at s id ≡ t → IsBuiltBelow id t
built_at s id t keeps within is = subst (IsBuiltBelow id) is (keeps.built id within)

-- the elements of a list without a tail, and of one with a tail
pub items-List : (s : State) (vs : List Value) (id : ℕ) (ids : List ℕ) → Satisfies s vs →
    id < length s.terms → term_at s id ≡ T.List ids →
    items_of (value_at vs id) ≡ map (value_at vs) ids
items-List s vs id ids sat within is =
    ap items_of (said s vs id (T.List ids) sat within is) ∙ items_of-list (map (value_at vs) ids)

pub items-Cons : (s : State) (vs : List Value) (id : ℕ) (ids : List ℕ) (tail : ℕ) →
    Satisfies s vs → id < length s.terms → term_at s id ≡ T.Cons ids tail →
    items_of (value_at vs id) ≡ map (value_at vs) ids ++ items_of (value_at vs tail)
items-Cons s vs id ids tail sat within is =
    let has : HasValue vs (T.Cons ids tail) (value_at vs id) =
    said s vs id (T.Cons ids tail) sat within is in
    ap items_of has.2 ∙ items_of-list (map (value_at vs) ids ++ has.0)
    ∙ ap (λ xs. map (value_at vs) ids ++ xs) (sym (ap items_of has.1 ∙ items_of-list has.0))

-- a tail has a list
pub tail_is_list : (s : State) (vs : List Value) (id : ℕ) (ids : List ℕ) (tail : ℕ) →
    Satisfies s vs → id < length s.terms → term_at s id ≡ T.Cons ids tail →
    IsList (value_at vs tail)
tail_is_list s vs id ids tail sat within is =
    let has : HasValue vs (T.Cons ids tail) (value_at vs id) =
    said s vs id (T.Cons ids tail) sat within is in
    (has.0, has.1)

-- after the elements before its tail, a list goes on where links lead from the tail
pub rest-tail : (s : State) (vs : List Value) (rest : Rest) (count : ℕ) (ids : List ℕ)
    (tail end : ℕ) → Satisfies s vs → rest.id < length s.terms →
    term_at s rest.id ≡ T.Cons ids tail → rest.from + count ≡ length ids →
    Leads s.notes tail end →
    items_of (value_at vs end) ≡ drop count (rest_value vs rest)
rest-tail s vs rest count ids tail end sat within is passed leads =
    ap items_of (sym (leads-same s vs tail end sat leads))
    ∙ sym (drop_at (map (value_at vs) ids) (items_of (value_at vs tail)) (rest.from + count)
    (length-map ids (value_at vs) ∙ sym passed))
    ∙ ap (drop (rest.from + count)) (sym (items-Cons s vs rest.id ids tail sat within is))
    ∙ sym (drop-drop count rest.from (items_of (value_at vs rest.id)))

-- the position where links lead from a tail is one in a list
pub at_tail : (s : State) (id : ℕ) (ids : List ℕ) (tail end : ℕ) → Keeps s →
    id < length s.terms → term_at s id ≡ T.Cons ids tail → Leads s.notes tail end →
    end < length s.terms → link_of s.notes end ≡ None →
    IsRest s (record { id = end; from = 0 })
at_tail s id ids tail end keeps within is leads end_within unbound = record {
  within = end_within;
  end = unbound;
  list = λ vs sat.
      let list = tail_is_list s vs id ids tail sat within is in
      (list.0, sym (leads-same s vs tail end sat leads) ∙ list.1);
  before = omega arith;
  ahead = λ more last is. (built_at s end (T.Cons more last) keeps end_within is).1;
}

-- what is left of a list without a tail, and of one with a tail
pub rest-List : (s : State) (vs : List Value) (rest : Rest) (ids : List ℕ) → Satisfies s vs →
    rest.id < length s.terms → term_at s rest.id ≡ T.List ids →
    rest_value vs rest ≡ map (value_at vs) (drop rest.from ids)
rest-List s vs rest ids sat within is =
    ap (drop rest.from) (items-List s vs rest.id ids sat within is)
    ∙ drop-map (value_at vs) rest.from ids

pub rest-Cons : (s : State) (vs : List Value) (rest : Rest) (ids : List ℕ) (tail : ℕ) →
    Satisfies s vs → rest.id < length s.terms → term_at s rest.id ≡ T.Cons ids tail →
    rest.from ≤ length ids →
    rest_value vs rest ≡ map (value_at vs) (drop rest.from ids) ++ items_of (value_at vs tail)
rest-Cons s vs rest ids tail sat within is passed =
    ap (drop rest.from) (items-Cons s vs rest.id ids tail sat within is)
    ∙ drop-append-le rest.from (map (value_at vs) ids) (items_of (value_at vs tail))
    (omega (arith, passed, length-map ids (value_at vs)))
    ∙ ap (λ xs. xs ++ items_of (value_at vs tail)) (drop-map (value_at vs) rest.from ids)

-- its elements before its tail
pub rest-prefix : (s : State) (vs : List Value) (rest : Rest) (ids : List ℕ) (tail : ℕ) →
    Satisfies s vs → rest.id < length s.terms → term_at s rest.id ≡ T.Cons ids tail →
    rest.from ≤ length ids →
    take (length ids - rest.from) (rest_value vs rest) ≡ map (value_at vs) (drop rest.from ids)
rest-prefix s vs rest ids tail sat within is passed =
    ap (take (length ids - rest.from)) (rest-Cons s vs rest ids tail sat within is passed)
    ∙ take_at (map (value_at vs) (drop rest.from ids)) (items_of (value_at vs tail))
    (length ids - rest.from)
    (length-map (drop rest.from ids) (value_at vs) ∙ length-drop rest.from ids)

-- where no elements stand before a tail, what is left is all
pub rest-start : (s : State) (vs : List Value) (rest : Rest) → IsRest s rest →
    elements_of (term_at s rest.id) ≡ [] → rest_value vs rest ≡ items_of (value_at vs rest.id)
rest-start s vs rest position none =
    let start : rest.from ≡ 0 = omega (arith, position.before, ap length none) in
    ap (λ n. drop n (items_of (value_at vs rest.id))) start

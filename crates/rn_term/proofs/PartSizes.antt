-- The values of parts are smaller.
use Rattle.std.proofs.Common.{◌<◌, ℕ, List, [], ◌++◌, arith}
use Rattle.std.proofs.Common.{length, map, sym, subst, get_or, length-append}
use Rattle.std.specs.Prelude.{All}
use Rattle.std.specs.List.{Contains}
use Rattle.std.proofs.lemmas.List.{get_or_append_left, get_or-map, length-map}
use Rattle.std.proofs.lemmas.List.Elements.{All-from_get_or, All-push, All-contains, All-nil}
use Rattle.rn_value.specs.declared.value.Value.{Value}
use Rattle.rn_value.specs.declared.value.Value.TheVariants as Value
use Rattle.rn_term.specs.declared.term.Term.{Term}
use Rattle.rn_term.specs.declared.term.Term.TheVariants as T
use Rattle.rn_term.specs.Stores.{State, term_at, IsBuiltBelow}
use Rattle.rn_term.specs.Assignments.{value_at, HasValue, Satisfies, Keeps}
use Rattle.rn_term.specs.Occurring.{parts_of}
use Rattle.rn_term.proofs.Parts.{whole_within}
use Rattle.rn_term.proofs.ValueSizes.{size_of, size-tuple_part, size-list_part, size-list_end}

-- what a value is built of is smaller than the value
each_smaller : (vs : List Value) (ids : List ℕ) (size : ℕ) →
    ((k : ℕ) (d : Value) → k < length (map (value_at vs) ids) →
    size_of (get_or (map (value_at vs) ids) k d) < size) →
    All (λ p. size_of (value_at vs p) < size) ids
each_smaller vs ids size smaller =
    All-from_get_or (λ p. size_of (value_at vs p) < size) ids 0
    (λ k small. subst (λ v. size_of v < size)
    (get_or-map (value_at vs) ids k 0 (Value.Tuple []) small)
    (smaller k (Value.Tuple []) (rw length-map small)))

parts_smaller : (vs : List Value) (n : ℕ) (t : Term) (v : Value) → IsBuiltBelow n t →
    HasValue vs t v → All (λ p. size_of (value_at vs p) < size_of v) (parts_of t)
parts_smaller vs n T.Free v built has = All-nil _
parts_smaller vs n (T.Atom w) v built has = All-nil _
parts_smaller vs n (T.Tuple ids) v built has =
    let parts : List Value = map (value_at vs) ids in
    each_smaller vs ids (size_of v) (λ k d small.
    subst (λ w. size_of (get_or parts k d) < size_of w) (sym has)
    (size-tuple_part parts k d small))
parts_smaller vs n (T.List ids) v built has =
    let parts : List Value = map (value_at vs) ids in
    each_smaller vs ids (size_of v) (λ k d small.
    subst (λ w. size_of (get_or parts k d) < size_of w) (sym has)
    (size-list_part parts k d small))
parts_smaller vs n (T.Cons ids tail) v built has =
    All-push (λ p. size_of (value_at vs p) < size_of v) ids tail
    (each_smaller vs ids (size_of v) elements)
    (subst (λ w. size_of w < size_of v) (sym has.1)
    (subst (λ w. size_of (Value.List has.0) < size_of w) (sym has.2)
    (size-list_end (map (value_at vs) ids) has.0 (rw length-map built.1))))
  where
    elements : (k : ℕ) (d : Value) → k < length (map (value_at vs) ids) →
        size_of (get_or (map (value_at vs) ids) k d) < size_of v
    elements k d small =
        let all : List Value = map (value_at vs) ids ++ has.0 in
        subst (λ w. size_of (get_or (map (value_at vs) ids) k d) < size_of w) (sym has.2)
        (subst (λ w. size_of w < size_of (Value.List all))
        (get_or_append_left (map (value_at vs) ids) has.0 d k small)
        (size-list_part all k d
        (omega (arith, small, length-append (map (value_at vs) ids) has.0))))

-- a part's value is smaller than that of the term
pub part_smaller : (s : State) (vs : List Value) → Keeps s → Satisfies s vs → (id part : ℕ) →
    Contains (parts_of (term_at s id)) part →
    size_of (value_at vs part) < size_of (value_at vs id)
part_smaller s vs keeps sat id part is =
    let within = whole_within s id part is in
    All-contains (λ p. size_of (value_at vs p) < size_of (value_at vs id))
    (parts_of (term_at s id)) part
    (parts_smaller vs id (term_at s id) (value_at vs id) (keeps.built id within)
    (sat.terms id within)) is

-- What assignments give an id whose links lead to a term, and which ids are always lists.
use Rattle.std.proofs.Common.{◌≡◌, ◌<◌, ◌++◌, ℕ, List, [], length, map, refl, sym, ◌∙◌, subst}
use Rattle.std.specs.Prelude.{None, ◌↔◌, Bool, true, false, IsTrue}
use Rattle.rn_value.specs.declared.value.Value.{Value}
use Rattle.rn_term.specs.declared.term.Term.{Term}
use Rattle.rn_term.specs.declared.term.Term.TheVariants as T
use Rattle.rn_term.specs.Stores.{State, term_at, link_of, Leads}
use Rattle.rn_term.specs.Assignments.{value_at, HasValue, Satisfies, Keeps}
use Rattle.rn_term.specs.Forcing.{IsList, IsAlwaysList, EndsAList}
use Rattle.rn_term.specs.Occurring.{IsFree}
use Rattle.rn_term.proofs.Agreement.{leads-same}
use Rattle.rn_term.proofs.FreeVariables.{free_is_no_list, cons_within}
use Rattle.rn_term.proofs.Occurrences.{one_end}
use Rattle.rn_value.proofs.Variants.{tuple_is_no_list}

-- an id has a value of the term to which its links lead
pub value_at_end : (s : State) (vs : List Value) (id end : ℕ) (t : Term) → Satisfies s vs →
    Leads s.notes id end → end < length s.terms → t ≡ term_at s end →
    HasValue vs t (value_at vs id)
value_at_end s vs id end t sat leads within is =
    subst (λ u. HasValue vs u (value_at vs id)) (sym is)
    (subst (λ v. HasValue vs (term_at s end) v) (sym (leads-same s vs id end sat leads))
    (sat.terms end within))

-- links lead from what is always a list only to such
pub list_at_end : (s : State) (id end : ℕ) → Leads s.notes id end → IsAlwaysList s id →
    IsAlwaysList s end
list_at_end s id end leads list vs sat =
    let here = list vs sat in (here.0, sym (leads-same s vs id end sat leads) ∙ here.1)

-- and to it only from such
pub list_before : (s : State) (id end : ℕ) → Leads s.notes id end → IsAlwaysList s end →
    IsAlwaysList s id
list_before s id end leads list vs sat =
    let there = list vs sat in (there.0, leads-same s vs id end sat leads ∙ there.1)

-- lists of terms are lists
pub list_is_list : (s : State) (id end : ℕ) (ids : List ℕ) → Leads s.notes id end →
    end < length s.terms → T.List ids ≡ term_at s end → IsAlwaysList s id
list_is_list s id end ids leads within is vs sat =
    (map (value_at vs) ids, value_at_end s vs id end (T.List ids) sat leads within is)

-- and so are lists with a tail
pub cons_is_list : (s : State) (id end : ℕ) (ids : List ℕ) (tail : ℕ) → Leads s.notes id end →
    end < length s.terms → T.Cons ids tail ≡ term_at s end → IsAlwaysList s id
cons_is_list s id end ids tail leads within is vs sat =
    let has = value_at_end s vs id end (T.Cons ids tail) sat leads within is in
    (map (value_at vs) ids ++ has.0, has.2)

-- a value is always a list exactly where it is one
pub atom_is_list : (s : State) (id end : ℕ) (v : Value) → Keeps s → Leads s.notes id end →
    end < length s.terms → T.Atom v ≡ term_at s end → IsList v ↔ IsAlwaysList s id
atom_is_list s id end v keeps leads within is = (
  λ list. λ vs sat. (
    list.0,
    value_at_end s vs id end (T.Atom v) sat leads within is ∙ list.1,
  ),
  λ list.
      let some = keeps.satisfied in
      let here = list some.0 some.1 in
      (here.0, sym (value_at_end s some.0 id end (T.Atom v) some.1 leads within is) ∙ here.1),
)

-- a tuple never is
pub tuple_is_not_list : (s : State) (id end : ℕ) (ids : List ℕ) → Keeps s → Leads s.notes id end →
    end < length s.terms → T.Tuple ids ≡ term_at s end → IsAlwaysList s id → ⊥
tuple_is_not_list s id end ids keeps leads within is list =
    let some = keeps.satisfied in
    let here = list some.0 some.1 in
    tuple_is_no_list (map (value_at some.0) ids) here.0
    (sym (value_at_end s some.0 id end (T.Tuple ids) some.1 leads within is) ∙ here.1)

-- a variable in which a list ends is always a list
end_is_list : (s : State) (var : ℕ) → EndsAList s var → IsAlwaysList s var
end_is_list s var (id, ids, tail, within, is, leads) = list_at_end s tail var leads
    (λ vs sat.
    let has = subst (λ u. HasValue vs u (value_at vs id)) is (sat.terms id within) in
    (has.0, has.1))

-- a free variable in which no list ends isn't always a list, nor is what leads there
other_than_list : (s : State) (id var : ℕ) → Keeps s → Leads s.notes id var → IsFree s var →
    (EndsAList s var → ⊥) → IsAlwaysList s id → ⊥
other_than_list s id var keeps leads free none list =
    let some = free_is_no_list s keeps var free
    (λ end ids tail is last. none (end, ids, tail, cons_within s end ids tail is, is, last)) in
    let here = list some.0 some.1 in
    tuple_is_no_list [] here.0
    (sym some.2 ∙ sym (leads-same s some.0 id var some.1 leads) ∙ here.1)

-- false isn't true
pub no_truth : IsTrue false → ⊥
no_truth is = cc

-- a free variable is always a list exactly where a list ends in it
pub free_is_list : (s : State) (id var : ℕ) (ends : Bool) → Keeps s → Leads s.notes id var →
    var < length s.terms → T.Free ≡ term_at s var → link_of s.notes var ≡ None →
    IsTrue ends ↔ EndsAList s var → IsTrue ends ↔ IsAlwaysList s id
free_is_list s id var true keeps leads within is unbound exact =
    (λ yes. list_before s id var leads (end_is_list s var (exact.0 yes)), λ list. refl)
free_is_list s id var false keeps leads within is unbound exact = (
  λ yes. list_before s id var leads (end_is_list s var (exact.0 yes)),
  λ list. absurd (other_than_list s id var keeps leads
      (record { within = within; variable = sym is; unbound = unbound })
      (λ ends. no_truth (exact.1 ends)) list),
)

-- an id doesn't name a list that ends in a variable
abbrev pub EndsElsewhere : State → ℕ → ℕ → Type 0
EndsElsewhere s var id = (ids : List ℕ) (tail : ℕ) → term_at s id ≡ T.Cons ids tail →
    Leads s.notes tail var → ⊥

-- such is a list whose tail leads elsewhere
pub other_end : (s : State) (id var end : ℕ) (t : Term) (ids : List ℕ) (tail : ℕ) →
    t ≡ term_at s id → t ≡ T.Cons ids tail → Leads s.notes tail end → link_of s.notes end ≡ None →
    link_of s.notes var ≡ None → (end ≡ var → ⊥) → EndsElsewhere s var id
other_end s id var end t ids tail read is leads unbound free apart others last same more =
    let tails : tail ≡ last = cc in
    apart (one_end s tail end var leads (subst (λ n. Leads s.notes n var) (sym tails) more)
    unbound free)

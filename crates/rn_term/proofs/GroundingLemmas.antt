-- The values of terms in which no free variable occurs.
use Rattle.std.proofs.Common.{◌≡◌, ◌<◌, ◌≤◌, ◌+◌, ℕ, List, [], ◌∷◌, ◌++◌, length, map, refl, arith}
use Rattle.std.proofs.Common.{sym, ◌∙◌, ap, subst, get_or, take, append_assoc}
use Rattle.std.specs.Prelude.{Option, Some, None, IsNone, ◌↔◌, Bool, true, false, All}
use Rattle.std.proofs.lemmas.List.{map_more}
use Rattle.rn_value.specs.declared.value.Value.{Value}
use Rattle.rn_value.specs.declared.value.Value.TheVariants as Value
use Rattle.rn_term.specs.declared.term.Term.{Term}
use Rattle.rn_term.specs.declared.term.Term.TheVariants as T
use Rattle.rn_term.specs.Stores.{State, term_at, link_of, Leads}
use Rattle.rn_term.specs.Assignments.{value_at, Satisfies, Keeps}
use Rattle.rn_term.specs.Occurring.{Occurs, HasFree}
use Rattle.rn_term.specs.Forcing.{IsForced, IsAnswer, AreAnswers}
use Rattle.rn_term.proofs.Agreement.{leads-same}
use Rattle.rn_term.proofs.ElementsOfTerms.{elements_of, element_among, elements_within}
use Rattle.rn_term.proofs.ElementsOfTerms.{elements_smaller}
use Rattle.rn_term.proofs.Extents.{extent, greatest}
use Rattle.rn_term.proofs.Following.{extent-leads}
use Rattle.rn_term.proofs.FreeVariables.{free_is_not_forced}
use Rattle.rn_term.proofs.Occurrences.{occurs-through, leads_occurs}
use Rattle.rn_term.proofs.ReadingLemmas.{value_at_end}

-- a free variable occurs in what leads to it
pub free_at_end : (s : State) (id end : ℕ) → Leads s.notes id end → end < length s.terms →
    T.Free ≡ term_at s end → link_of s.notes end ≡ None → HasFree s id
free_at_end s id end leads within is unbound = (
  end,
  record { within = within; variable = sym is; unbound = unbound },
  leads_occurs s id end leads,
)

-- one that occurs in an element occurs in what leads to the term
free_in_element : (s : State) (id end : ℕ) (t : Term) → Leads s.notes id end →
    t ≡ term_at s end →
    (k : ℕ) × (k < length (elements_of t)) × HasFree s (get_or (elements_of t) k 0) → HasFree s id
free_in_element s id end t leads is (k, small, has) = (
  has.0,
  has.1,
  occurs-through s has.0 end id (Occurs.in_part (element_among s end t is k 0 small) has.2)
      (leads_occurs s id end leads),
)

-- an answer for an id is one for each id from which links lead to it
pub answer_before : (s : State) (id end : ℕ) (o : Option Value) → Leads s.notes id end →
    IsAnswer s end o → IsAnswer s id o
answer_before s id end None leads (var, free, occurs) =
    (var, free, occurs-through s var end id occurs (leads_occurs s id end leads))
answer_before s id end (Some v) leads forced =
    λ vs sat. leads-same s vs id end sat leads ∙ forced vs sat

-- a tuple is forced by the values of its elements
pub tuple_is_forced : (s : State) (id end : ℕ) (ids : List ℕ) (none values : List Value) →
    Leads s.notes id end → end < length s.terms → T.Tuple ids ≡ term_at s end → none ≡ [] →
    AreAnswers s ids none values true → IsForced s id (Value.Tuple values)
tuple_is_forced s id end ids none values leads within is empty answer vs sat =
    value_at_end s vs id end (T.Tuple ids) sat leads within is
    ∙ ap (λ xs. Value.Tuple xs)
    (sym (subst (λ xs. values ≡ xs ++ map (value_at vs) ids) empty (answer vs sat)))

-- a value is forced to itself
pub atom_is_forced : (s : State) (id end : ℕ) (w v : Value) → Leads s.notes id end →
    end < length s.terms → T.Atom w ≡ term_at s end → v ≡ w → IsForced s id v
atom_is_forced s id end w v leads within is same vs sat =
    value_at_end s vs id end (T.Atom w) sat leads within is ∙ sym same

-- the value of one more id comes after those of the ids before it
pub answer_more : (s : State) (ids : List ℕ) (k : ℕ) (before values more : List Value)
    (o : Option Value) (v : Value) → k < length ids →
    ((vs : List Value) → Satisfies s vs → values ≡ before ++ map (value_at vs) (take k ids)) →
    IsAnswer s (get_or ids k 0) o → o ≡ Some v → more ≡ values ++ v ∷ [] →
    (vs : List Value) → Satisfies s vs → more ≡ before ++ map (value_at vs) (take (k + 1) ids)
answer_more s ids k before values more o v within so_far answer some are vs sat =
    let same : value_at vs (get_or ids k 0) ≡ v =
    (subst (λ x. IsAnswer s (get_or ids k 0) x) some answer) vs sat in
    are ∙ ap (λ xs. xs ++ v ∷ []) (so_far vs sat)
    ∙ append_assoc before (map (value_at vs) (take k ids)) (v ∷ [])
    ∙ ap (λ x. before ++ (map (value_at vs) (take k ids) ++ x ∷ [])) (sym same)
    ∙ ap (λ xs. before ++ xs) (sym (map_more (value_at vs) ids k 0 within))

-- an answer for all of some ids is one for them under another name
pub answer_all : (s : State) (ids others : List ℕ) (before after : List Value) (all : Bool) →
    AreAnswers s ids before after all → ids ≡ others → all ≡ true → AreAnswers s others before after true
answer_all s ids others before after all answer same whole =
    subst (λ es. AreAnswers s es before after true) same
    (subst (λ b. AreAnswers s ids before after b) whole answer)

-- a free variable that is found among elements occurs in what leads to the term
pub free_answer : (s : State) (id end : ℕ) (t : Term) (ids : List ℕ) (before after : List Value)
    (all : Bool) → Leads s.notes id end → t ≡ term_at s end → ids ≡ elements_of t →
    AreAnswers s ids before after all → all ≡ false → HasFree s id
free_answer s id end t ids before after all leads is same answer not_all =
    free_in_element s id end t leads is
    (subst (λ es. AreAnswers s es before after false) same
    (subst (λ b. AreAnswers s ids before after b) not_all answer))

-- the elements of the term to which an id leads extend less than the id, and are ids of the store
pub smaller_elements : (s : State) (id end : ℕ) (t : Term) (ids : List ℕ) → Keeps s →
    id < length s.terms → Leads s.notes id end → end < length s.terms → t ≡ term_at s end →
    ids ≡ elements_of t →
    (greatest (extent s) ids < extent s id) × All (λ e. e < length s.terms) ids
smaller_elements s id end t ids keeps within leads there is same =
    let less : greatest (extent s) (elements_of t) < extent s end =
    elements_smaller s keeps end t is there in
    let no_larger : extent s end ≤ extent s id = extent-leads s keeps id end within leads in
    subst (λ es. (greatest (extent s) es < extent s id) × All (λ e. e < length s.terms) es)
    (sym same) (omega arith, elements_within s keeps end t is)

-- exactly where a free variable occurs in an id, the answer is none
pub none_where_free : (s : State) (id : ℕ) (o : Option Value) → Keeps s → id < length s.terms →
    IsAnswer s id o → IsNone o ↔ HasFree s id
none_where_free s id None keeps within answer = (λ is. answer, λ free. refl)
none_where_free s id (Some v) keeps within forced = (
  λ is. absurd (let no : ⊥ = cc in no),
  λ free. absurd (free_is_not_forced s keeps id within free v forced),
)

-- the id is forced to exactly the value that is answered
pub some_where_forced : (s : State) (id : ℕ) (o : Option Value) (v : Value) → Keeps s →
    id < length s.terms → IsAnswer s id o → (o ≡ Some v) ↔ IsForced s id v
some_where_forced s id None v keeps within free = (
  λ is. absurd (let no : ⊥ = cc in no),
  λ forced. absurd (free_is_not_forced s keeps id within free v forced),
)
some_where_forced s id (Some w) v keeps within answer = (
  λ is. let same : w ≡ v = cc in λ vs sat. answer vs sat ∙ same,
  λ forced.
      let some = keeps.satisfied in
      ap (λ x. Some x) (sym (answer some.0 some.1) ∙ forced some.0 some.1),
)

-- The elements of tuples and lists, without the tails of lists.
use Rattle.std.proofs.Common.{◌≡◌, ◌<◌, ◌≤◌, ◌+◌, ℕ, List, [], ◌∷◌, arith, length}
use Rattle.std.proofs.Common.{sym, ◌∙◌, subst, get_or, length-append}
use Rattle.std.specs.Prelude.{All}
use Rattle.std.specs.List.{Contains}
use Rattle.std.proofs.lemmas.List.{get_or_append_left}
use Rattle.std.proofs.lemmas.List.Elements.{All-contains_itself}
use Rattle.rn_term.specs.declared.term.Term.{Term}
use Rattle.rn_term.specs.declared.term.Term.TheVariants as T
use Rattle.rn_term.specs.Stores.{State, term_at}
use Rattle.rn_term.specs.Assignments.{Keeps}
use Rattle.rn_term.specs.Occurring.{parts_of}
use Rattle.rn_term.proofs.Extents.{extent, extent-parts, greatest, greatest-append}
use Rattle.rn_term.proofs.Occurrences.{part_within}

abbrev pub elements_of : Term → List ℕ
elements_of T.Free = []
elements_of (T.Atom v) = []
elements_of (T.Tuple ids) = ids
elements_of (T.List ids) = ids
elements_of (T.Cons ids tail) = ids

element_is_part : (t : Term) (k d : ℕ) → k < length (elements_of t) →
    Contains (parts_of t) (get_or (elements_of t) k d)
element_is_part T.Free k d small = absurd (let no : ⊥ = omega (arith, small) in no)
element_is_part (T.Atom v) k d small = absurd (let no : ⊥ = omega (arith, small) in no)
element_is_part (T.Tuple ids) k d small = All-contains_itself ids k d small
element_is_part (T.List ids) k d small = All-contains_itself ids k d small
element_is_part (T.Cons ids tail) k d small =
    let here = All-contains_itself ids k d small in (
      here.0,
      omega (arith, here.1, length-append ids (tail ∷ [])),
      get_or_append_left ids (tail ∷ []) (get_or ids k d) here.0 here.1 ∙ here.2,
    )

-- the elements of the term at an id are parts of it
pub element_among : (s : State) (id : ℕ) (t : Term) → t ≡ term_at s id →
    (k d : ℕ) → k < length (elements_of t) →
    Contains (parts_of (term_at s id)) (get_or (elements_of t) k d)
element_among s id t is k d small =
    subst (λ u. Contains (parts_of u) (get_or (elements_of t) k d)) is (element_is_part t k d small)

-- they are ids of the store
pub elements_within : (s : State) → Keeps s → (id : ℕ) (t : Term) → t ≡ term_at s id →
    All (λ e. e < length s.terms) (elements_of t)
elements_within s keeps id t is k d small =
    part_within s keeps id (get_or (elements_of t) k d) (element_among s id t is k d small)

no_greater : (f : ℕ → ℕ) (t : Term) → greatest f (elements_of t) ≤ greatest f (parts_of t)
no_greater f T.Free = omega arith
no_greater f (T.Atom v) = omega arith
no_greater f (T.Tuple ids) = omega arith
no_greater f (T.List ids) = omega arith
no_greater f (T.Cons ids tail) = omega (arith, greatest-append f ids (tail ∷ []))

-- and extend less than the term
pub elements_smaller : (s : State) → Keeps s → (id : ℕ) (t : Term) → t ≡ term_at s id →
    id < length s.terms → greatest (extent s) (elements_of t) < extent s id
elements_smaller s keeps id t is within =
    let whole : length (parts_of t) + greatest (extent s) (parts_of t) < extent s id =
    subst (λ u. length (parts_of u) + greatest (extent s) (parts_of u) < extent s id) (sym is)
    (extent-parts s keeps id within) in
    omega (arith, no_greater (extent s) t)

-- How far lists extend from positions in them on, by which going through them ends.
use Rattle.std.proofs.Common.{◌≡◌, ⊎_elim, ◌<◌, ◌≤◌, ◌+◌, ◌-◌, ℕ, zero, suc, List, [], ◌∷◌}
use Rattle.std.proofs.Common.{arith, length, ap, take, drop}
use Rattle.std.proofs.lemmas.List.{length-drop, length-append}
use Rattle.rn_term.specs.declared.term.Term.{Term}
use Rattle.rn_term.specs.declared.term.Term.TheVariants as T
use Rattle.rn_term.specs.Stores.{State, term_at}
use Rattle.rn_term.specs.Assignments.{Keeps}
use Rattle.rn_term.specs.Occurring.{parts_of}
use Rattle.rn_term.proofs.Extents.{extent, extent-parts, extent-tail, greatest, greatest-append}
use Rattle.rn_term.proofs.Following.{extent-leads}
use Rattle.rn_unify.specs.declared.rests.Rest.{Rest}
use Rattle.rn_unify.specs.link.Rests.{IsRest, IsFurther, elements_of}
use Rattle.rn_unify.proofs.ListPositions.{built_at}
use Rattle.rn_unify.proofs.RemainingElements.{AreLeft}

elements_of_parts : (f : ℕ → ℕ) (t : Term) →
    length (elements_of t) + greatest f (elements_of t)
    ≤ length (parts_of t) + greatest f (parts_of t)
elements_of_parts f T.Free = omega arith
elements_of_parts f (T.Atom v) = omega arith
elements_of_parts f (T.Tuple ids) = omega arith
elements_of_parts f (T.List ids) = omega arith
elements_of_parts f (T.Cons ids tail) =
    omega (arith, length-append ids (tail ∷ []), greatest-append f ids (tail ∷ []))

-- a list extends more than each of its elements, and than it has elements
elements_smaller : (s : State) (id : ℕ) → Keeps s → id < length s.terms →
    length (elements_of (term_at s id)) + greatest (extent s) (elements_of (term_at s id))
    < extent s id
elements_smaller s id keeps within =
    omega (arith, extent-parts s keeps id within, elements_of_parts (extent s) (term_at s id))

-- fewer numbers have no greater one
greatest-take : (f : ℕ → ℕ) (n : ℕ) (ids : List ℕ) → greatest f (take n ids) ≤ greatest f ids
greatest-take f zero ids = omega arith
greatest-take f (suc n) [] = omega arith
greatest-take f (suc n) (id ∷ ids) = omega (arith, greatest-take f n ids)

greatest-drop : (f : ℕ → ℕ) (n : ℕ) (ids : List ℕ) → greatest f (drop n ids) ≤ greatest f ids
greatest-drop f zero ids = omega arith
greatest-drop f (suc n) [] = omega arith
greatest-drop f (suc n) (id ∷ ids) = omega (arith, greatest-drop f n ids)

-- the elements that are left extend less than the list
pub left_smaller : (s : State) (rest : Rest) (ids : List ℕ) (count : ℕ) → Keeps s →
    AreLeft s rest ids → greatest (extent s) (take count ids) < extent s rest.id
left_smaller s rest ids count keeps left = omega (
  arith,
  elements_smaller s rest.id keeps left.position.within,
  greatest-take (extent s) count ids,
  greatest-drop (extent s) rest.from (elements_of (term_at s rest.id)),
  ap (greatest (extent s)) left.are,
)

tail_within : (s : State) (id : ℕ) (ids : List ℕ) (tail : ℕ) → Keeps s → id < length s.terms →
    term_at s id ≡ T.Cons ids tail → tail < length s.terms
tail_within s id ids tail keeps within is =
    omega (arith, within, (built_at s id (T.Cons ids tail) keeps within is).2)

-- a position further on in a list is in a term that extends no more
pub further_smaller : (s : State) (rest further : Rest) (count : ℕ) → Keeps s → IsRest s rest →
    IsFurther s rest count further → extent s further.id ≤ extent s rest.id
further_smaller s rest further count keeps position more = ⊎_elim
    (λ same. omega (arith, ap (λ (r : Rest). extent s r.id) same))
    (λ (ids, tail, cons, passed, leads, start). omega (
      arith,
      extent-tail s keeps rest.id ids tail position.within cons,
      extent-leads s keeps tail further.id
          (tail_within s rest.id ids tail keeps position.within cons) leads,
    ))
    more

-- and from there on it extends less
pub further_less : (s : State) (rest further : Rest) (ids : List ℕ) (count : ℕ) → Keeps s →
    AreLeft s rest ids → 0 < count → count ≤ length ids → IsFurther s rest count further →
    extent s further.id - further.from < extent s rest.id - rest.from
further_less s rest further ids count keeps left some few more = ⊎_elim
    (λ same. omega (
      arith,
      some,
      within,
      elements_smaller s rest.id keeps left.position.within,
      ap (λ (r : Rest). extent s r.id) same,
      ap (λ (r : Rest). r.from) same,
    ))
    (λ (all, tail, cons, passed, leads, start). omega (
      arith,
      some,
      passed,
      extent-tail s keeps rest.id all tail left.position.within cons,
      extent-leads s keeps tail further.id
          (tail_within s rest.id all tail keeps left.position.within cons) leads,
    ))
    more
  where
    within : rest.from + count ≤ length (elements_of (term_at s rest.id))
    within = omega (
      arith,
      some,
      few,
      ap length left.are,
      length-drop rest.from (elements_of (term_at s rest.id)),
    )

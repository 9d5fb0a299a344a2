-- How many free variables a store has, as it grows.
use Rattle.std.proofs.Common.{◌≡◌, ◌≢◌, ⊎_elim, ◌<◌, ℕ, zero, suc, [], ◌∷◌, refl, arith}
use Rattle.std.proofs.Common.{length, sym, ◌∙◌, ap, subst, length-append, add-one}
use Rattle.std.specs.Prelude.{Option, Some}
use Rattle.std.proofs.lemmas.Bool.{cases_lt}
use Rattle.std.proofs.lemmas.List.{get_or_append_left}
use Rattle.std.proofs.Math.Seq.{get_or-append_seam}
use Rattle.rn_term.specs.declared.term.Term.{Term}
use Rattle.rn_term.specs.declared.term.Term.TheVariants as T
use Rattle.rn_term.specs.Stores.{State, term_at, link_of, with_term, with_note}
use Rattle.rn_term.specs.Occurring.{IsFree}
use Rattle.rn_term.proofs.LinkLemmas.{link-here, link-other}
use Rattle.rn_unify.specs.link.Binding.{free_here, free_below, free_number}

abbrev free_at : State → ℕ → ℕ
free_at s id = free_here (term_at s id) (link_of s.notes id)

same_number : (s t : State) (n : ℕ) → ((k : ℕ) → k < n → free_at s k ≡ free_at t k) →
    free_below s n ≡ free_below t n
same_number s t zero same = refl
same_number s t (suc n) same =
    let first : free_below s n ≡ free_below t n =
    same_number s t n (λ k small. same k (omega (arith, small))) in
    omega (arith, first, same n (omega arith))

lower_number : (s t : State) (n p : ℕ) → p < n → free_at s p < free_at t p →
    ((k : ℕ) → k ≢ p → free_at s k ≡ free_at t k) → free_below s n < free_below t n
lower_number s t zero p small less same = absurd (omega (arith, small))
lower_number s t (suc n) p small less same = ⊎_elim
    (λ before. omega (
      arith,
      lower_number s t n p before less same,
      same n (λ is. absurd (omega (arith, is, before))),
    ))
    (λ past. at_end (omega (arith, past, small)))
    (cases_lt p n)
  where
    at_end : n ≡ p → free_below s (suc n) < free_below t (suc n)
    at_end is =
        let here : free_at s n < free_at t n =
        subst (λ k. free_at s k < free_at t k) (sym is) less in
        let others : free_below s n ≡ free_below t n =
        same_number s t n (λ k low. same k (λ k_is. absurd (omega (arith, k_is, is, low)))) in
        omega (arith, here, others)

not_free : (t : Term) (o : Option ℕ) → t ≢ T.Free → free_here t o ≡ 0
not_free T.Free o built = absurd (built refl)
not_free (T.Atom v) o built = refl
not_free (T.Tuple ids) o built = refl
not_free (T.List ids) o built = refl
not_free (T.Cons ids tail) o built = refl

bound_not : (t : Term) (to : ℕ) → free_here t (Some to) ≡ 0
bound_not T.Free to = refl
bound_not (T.Atom v) to = refl
bound_not (T.Tuple ids) to = refl
bound_not (T.List ids) to = refl
bound_not (T.Cons ids tail) to = refl

-- a term that isn't a variable leaves their number
pub free_number-term : (s : State) (t : Term) → t ≢ T.Free →
    free_number (with_term s t) ≡ free_number s
free_number-term s t built =
    ap (free_below (with_term s t))
    (length-append s.terms (t ∷ []) ∙ add-one (length s.terms))
    ∙ one_more
  where
    last : free_at (with_term s t) (length s.terms) ≡ 0
    last = ap (λ u. free_here u (link_of s.notes (length s.terms)))
        (get_or-append_seam s.terms t [] T.Free)
        ∙ not_free t (link_of s.notes (length s.terms)) built

    first : free_below (with_term s t) (length s.terms) ≡ free_number s
    first = same_number (with_term s t) s (length s.terms)
        (λ k small. ap (λ u. free_here u (link_of s.notes k))
        (get_or_append_left s.terms (t ∷ []) T.Free k small))

    one_more : free_below (with_term s t) (suc (length s.terms)) ≡ free_number s
    one_more = omega (arith, first, last)

-- a note of a free variable lowers it
pub free_number-note : (s : State) (var to : ℕ) → IsFree s var →
    free_number (with_note s var to) < free_number s
free_number-note s var to free =
    lower_number (with_note s var to) s (length s.terms) var free.within
    (omega (arith, bound, was))
    (λ k other. ap (free_here (term_at s k)) (link-other s.notes var to k other))
  where
    bound : free_at (with_note s var to) var ≡ 0
    bound = ap (free_here (term_at s var)) (link-here s.notes var to var free.unbound refl)
        ∙ bound_not (term_at s var) to

    was : free_at s var ≡ 1
    was = ap (λ t. free_here t (link_of s.notes var)) free.variable
        ∙ ap (free_here T.Free) free.unbound

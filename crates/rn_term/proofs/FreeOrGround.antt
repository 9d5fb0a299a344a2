-- A term has a free variable or is ground if each of its parts has one or is.
use Rattle.std.proofs.Common.{◌≡◌, ◌⊎◌, ⊎_elim, inl, inr, ◌<◌, ℕ, zero, suc, List, [], ◌∷◌}
use Rattle.std.proofs.Common.{refl, arith, length, sym, subst, get_or}
use Rattle.std.specs.Prelude.{Option, Some, None}
use Rattle.std.specs.List.{Contains}
use Rattle.std.proofs.lemmas.List.Elements.{Contains-append_left, Contains-push}
use Rattle.rn_term.specs.declared.term.Term.{Term}
use Rattle.rn_term.specs.declared.term.Term.TheVariants as T
use Rattle.rn_term.specs.Stores.{State, term_at, link_of}
use Rattle.rn_term.specs.Occurring.{parts_of, Occurs, HasFree}
use Rattle.rn_term.specs.GroundTerms.{IsGround}

-- some of a list's elements has a free variable, or all are ground
free_or_all : (s : State) (ids : List ℕ) →
    ((p : ℕ) → Contains ids p → HasFree s p ⊎ IsGround s p) →
    ((p : ℕ) × Contains ids p × HasFree s p) ⊎
    ((k : ℕ) → k < length ids → IsGround s (get_or ids k 0))
free_or_all s [] each = inr (λ k small. absurd (omega (arith, small)))
free_or_all s (id ∷ ids) each = ⊎_elim
    (λ free. inl (id, (0, omega arith, refl), free))
    (λ ground. ⊎_elim
    (λ found. inl (found.0, (suc found.1.0, omega (arith, found.1.1), found.1.2), found.2))
    (λ all. inr (all_ground ground all))
    (free_or_all s ids (λ p is. each p (suc is.0, omega (arith, is.1), is.2))))
    (each id (0, omega arith, refl))
  where
    all_ground : IsGround s id → ((k : ℕ) → k < length ids → IsGround s (get_or ids k 0)) →
        (k : ℕ) → k < length (id ∷ ids) → IsGround s (get_or (id ∷ ids) k 0)
    all_ground first rest zero small = first
    all_ground first rest (suc k) small = rest k (omega (arith, small))

-- a part with a free variable gives the term one
free_in_part : (s : State) (id p : ℕ) (t : Term) → term_at s id ≡ t → Contains (parts_of t) p →
    HasFree s p → HasFree s id
free_in_part s id p t is there free =
    let part : Contains (parts_of (term_at s id)) p =
    subst (λ u. Contains (parts_of u) p) (sym is) there in
    (free.0, free.1, Occurs.in_part part free.2)

-- an unbound term has a free variable or is ground if that holds of its parts
of_term : (s : State) (id : ℕ) → id < length s.terms → link_of s.notes id ≡ None → (t : Term) →
    term_at s id ≡ t → ((p : ℕ) → Contains (parts_of t) p → HasFree s p ⊎ IsGround s p) →
    HasFree s id ⊎ IsGround s id
of_term s id within none T.Free is each =
    inl (id, record { within = within; variable = is; unbound = none }, Occurs.here)
of_term s id within none (T.Atom v) is each = inr (IsGround.atom id v within is)
of_term s id within none (T.Tuple ids) is each = ⊎_elim
    (λ found. inl (free_in_part s id found.0 (T.Tuple ids) is found.1 found.2))
    (λ all. inr (IsGround.tuple id ids within is all))
    (free_or_all s ids each)
of_term s id within none (T.List ids) is each = ⊎_elim
    (λ found. inl (free_in_part s id found.0 (T.List ids) is found.1 found.2))
    (λ all. inr (IsGround.list id ids within is all))
    (free_or_all s ids each)
of_term s id within none (T.Cons ids tail) is each = ⊎_elim
    (λ found. inl (free_in_part s id found.0 (T.Cons ids tail) is
    (Contains-append_left ids (tail ∷ []) found.0 found.1) found.2))
    (λ all. ⊎_elim
    (λ free. inl (free_in_part s id tail (T.Cons ids tail) is (Contains-push ids tail) free))
    (λ ground. inr (IsGround.cons id ids tail within is all ground))
    (each tail (Contains-push ids tail)))
    (free_or_all s ids (λ p there. each p (Contains-append_left ids (tail ∷ []) p there)))

-- the same of a term that may be bound, if it holds of what it was bound to as well
at_link : (s : State) (id : ℕ) → id < length s.terms → (o : Option ℕ) → link_of s.notes id ≡ o →
    ((p : ℕ) → Contains (parts_of (term_at s id)) p → HasFree s p ⊎ IsGround s p) →
    ((to : ℕ) → link_of s.notes id ≡ Some to → HasFree s to ⊎ IsGround s to) →
    HasFree s id ⊎ IsGround s id
at_link s id within None none each bound = of_term s id within none (term_at s id) refl each
at_link s id within (Some to) is each bound = ⊎_elim
    (λ free. inl (free.0, free.1, Occurs.in_bound is free.2))
    (λ ground. inr (IsGround.bound id to is ground))
    (bound to is)

pub free_or_ground_at : (s : State) (id : ℕ) → id < length s.terms →
    ((p : ℕ) → Contains (parts_of (term_at s id)) p → HasFree s p ⊎ IsGround s p) →
    ((to : ℕ) → link_of s.notes id ≡ Some to → HasFree s to ⊎ IsGround s to) →
    HasFree s id ⊎ IsGround s id
free_or_ground_at s id within each bound =
    at_link s id within (link_of s.notes id) refl each bound

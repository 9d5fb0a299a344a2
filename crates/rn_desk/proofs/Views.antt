-- The views of all seats, when one of them changes.
use Rattle.std.proofs.Common.{◌≡◌, ◌≢◌, ℕ, zero, suc, ◌<◌, List, [], ◌∷◌, ◌++◌, length, set, sym, refl, ap, ◌∙◌, subst, ⊎_elim, arith, Some}
use mathlib.Core.Logic.{dite}
use mathlib.Core.Option.{some, some-injective, some-ne-none}
use native.Mathlib.Decide.{ℕ_discrete}
use lib.ListN.{get_elem?}
use Rattle.atomic_table.proofs.Lists.{at_set, set_here, set_else, at_longer}
use Rattle.rn_desk.specs.declared.view.SeatRole.TheVariants.{Holds}
use Rattle.rn_desk.specs.declared.view.SeatView.{SeatView}
use Rattle.rn_desk.specs.Turns.{ticket_of, HasTicket, HasTurn}

module _ {A : Type 0} where
  -- what holds of the new view and of each other one holds of all
  pub each_after : (K : ℕ → A → Type 0) (vs : List A) (id : ℕ) (w : A) → K id w → ((j : ℕ) (d : A) → j ≢ id → get_elem? vs j ≡ some d → K j d)
      → (j : ℕ) (d : A) → get_elem? (set vs id w) j ≡ some d → K j d
  each_after K vs id w mine others j d e = ⊎_elim (λ (t : (j ≡ id) × (w ≡ d)). subst (λ (x : ℕ × A). K x.0 x.1) (λ i. (sym t.0 i, t.1 i)) mine)
      (λ (t : (j ≢ id) × (get_elem? vs j ≡ some d)). others j d t.0 t.1) (at_set vs id j w d e)

  pub is_within : (vs : List A) (i : ℕ) (v : A) → get_elem? vs i ≡ some v → i < length vs
  is_within [] i v e = absurd (some-ne-none v (sym e))
  is_within (x ∷ xs) zero v e = omega arith
  is_within (x ∷ xs) (suc i) v e = let r = is_within xs i v e in omega arith

  -- a fact on one view holds of another one, as long as the view that changes keeps it
  pub one_stays : (K : A → Type 0) (vs : List A) (id : ℕ) (v w : A) → get_elem? vs id ≡ some v → (K v → K w)
      → (j : ℕ) → (d : A) × (get_elem? vs j ≡ some d) × K d → (d : A) × (get_elem? (set vs id w) j ≡ some d) × K d
  one_stays K vs id v w at keep j h = dite (ℕ_discrete j id)
      (λ same. let is : h.0 ≡ v = some-injective h.0 v (sym h.1 ∙ (ap (get_elem? vs) same ∙ at)) in
      (w, ap (get_elem? (set vs id w)) same ∙ set_here vs id w (is_within vs id v at), keep (subst K is h.2)))
      (λ other. (h.0, set_else vs id j w other ∙ h.1, h.2))

  pub only_one : (x : A) (j : ℕ) (d : A) → get_elem? (x ∷ []) j ≡ some d → (j ≡ 0) × (x ≡ d)
  only_one x zero d e = (refl, some-injective x d e)
  only_one x (suc j) d e = absurd (some-ne-none d (sym e))

module _ {I F : Type 0} where
  pub ticket_stays : (vs : List (SeatView I F)) (id : ℕ) (v w : SeatView I F) → get_elem? vs id ≡ some v → (j t : ℕ) → (ticket_of v.role ≡ Some t → ticket_of w.role ≡ Some t)
      → HasTicket vs j t → HasTicket (set vs id w) j t
  ticket_stays vs id v w at j t keep h = one_stays (λ (d : SeatView I F). ticket_of d.role ≡ Some t) vs id v w at keep j h

  -- the seat that has the turn stays where it is while another, that hasn't, steps
  pub turn_stays : (vs : List (SeatView I F)) (id : ℕ) (v w : SeatView I F) → get_elem? vs id ≡ some v → (j t : ℕ) → (v.role ≡ Holds t → ⊥) → HasTurn vs j t → HasTurn (set vs id w) j t
  turn_stays vs id v w at j t not h = one_stays (λ (d : SeatView I F). d.role ≡ Holds t) vs id v w at (λ is. absurd (not is)) j h

  pub ticket_longer : (vs more : List (SeatView I F)) (j t : ℕ) → HasTicket vs j t → HasTicket (vs ++ more) j t
  ticket_longer vs more j t h = (h.0, at_longer vs more j h.0 h.1, h.2)

  pub turn_longer : (vs more : List (SeatView I F)) (j t : ℕ) → HasTurn vs j t → HasTurn (vs ++ more) j t
  turn_longer vs more j t h = (h.0, at_longer vs more j h.0 h.1, h.2)

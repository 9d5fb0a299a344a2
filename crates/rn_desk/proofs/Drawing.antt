-- Drawing a ticket keeps the rule.
use Rattle.std.proofs.Common.{◌≡◌, ℕ, ◌+◌, ◌%◌, ◌<◌, ◌≤◌, List, [], ◌∷◌, length, get_or, set, sym, refl, ap, ◌∙◌, subst, ⊎_elim, inl, inr, arith, Option, Some, None}
use mathlib.Core.Logic.{dite}
use mathlib.Core.Option.{none, some}
use native.Mathlib.Decide.{ℕ_discrete}
use lib.ListN.{get_elem?}
use Rattle.atomic_table.specs.Table.{Me, step, keeps, Allows}
use Rattle.atomic_table.proofs.Lists.{set_here}
use Rattle.rn_desk.specs.declared.view.SeatRole.TheVariants.{Idle, Waits, Holds}
use Rattle.rn_desk.specs.declared.view.SeatView.{SeatView}
use Rattle.rn_desk.specs.Turns.{total, wrapped, tickets, tickets_in, ticket_of, is_number, HasTicket, Turns}
use Rattle.rn_desk.specs.Steps.{in_role, Draws}
use Rattle.rn_desk.proofs.Setting.{BoardState}
use Rattle.rn_desk.proofs.Sums.{total-set}
use Rattle.rn_desk.proofs.Roles.{put, put_here, put_else, drawn_more, holds_not_idle}
use Rattle.rn_desk.proofs.Views.{is_within, ticket_stays, turn_stays}
use Rattle.rn_desk.proofs.Keeping.{restep, knows, parts_in, fits_in, fixed_in}

module _ {S I F : Type 0} (entries : S → List I) (author : I → ℕ) (fixed : S → F) (seats : ℕ) (start : S) where
  abbrev Rule : BoardState S I F → Type 0
  Rule = Turns entries author fixed seats start

  -- the new ticket is out, and so are those from before
  queue_drawn : (s : BoardState S I F) (r : Rule s) (id : ℕ) (v w : SeatView I F) → get_elem? s.views id ≡ some v → v.role ≡ Idle → w.role ≡ Waits r.drawn
      → (t : ℕ) → r.served ≤ t → t < r.drawn + 1 → HasTicket (set s.views id w) (put r.seat_of r.drawn id t) t
  queue_drawn s r id v w at is now t from below = dite (ℕ_discrete t r.drawn)
      (λ new. let seat : put r.seat_of r.drawn id t ≡ id = ap (put r.seat_of r.drawn id) new ∙ put_here r.seat_of r.drawn id in
      (w, ap (get_elem? (set s.views id w)) seat ∙ set_here s.views id w (is_within s.views id v at), ap ticket_of now ∙ ap (λ (k : ℕ). Some k) (sym new)))
      (λ old. subst (λ (seat : ℕ). HasTicket (set s.views id w) seat t) (sym (put_else r.seat_of r.drawn id t old))
      (ticket_stays s.views id v w at (r.seat_of t) t (λ has. absurd (let e : ticket_of v.role ≡ None = ap ticket_of is in cc)) (r.queue t from (omega arith))))

  pub draw_allowed : (slots id : ℕ) (me : Me (Option S) (SeatView I F)) → me.0.role ≡ Idle → Allows Rule slots id me 0 (λ x. (x + 1) % 18446744073709551616) (Draws entries author fixed (step slots 0 1 0 none) me)
  draw_allowed slots id me is s r deep at small = let v : SeatView I F = me.0 in let t : ℕ = r.drawn in let w : SeatView I F = in_role (Waits t) v in let x : ℕ = get_or s.words 0 0 in let y : ℕ = (x + 1) % 18446744073709551616 in
      let found : x ≡ wrapped r.drawn = ap (λ ws. get_or ws 0 0) r.words in let next : y ≡ wrapped (r.drawn + 1) = omega arith in
      let q = r.waiting in let sums = total-set tickets_in s.views id v w at in let none_out : tickets_in v ≡ 0 = ap tickets is in (
        w,
        keeps,
        tt,
        restep entries author fixed seats start s r id v w (set s.words 0 y) s.homes r.log (r.drawn + 1) r.served (put r.seat_of t id) at
            (ap (λ ws. set ws 0 y) r.words ∙ ap (λ (z : ℕ). z ∷ wrapped r.served ∷ wrapped (length r.log) ∷ []) next)
            (queue_drawn s r id v w at is refl)
            (omega arith)
            (ap length (sym (parts_in v Idle is))) (λ n. ap (total (is_number n)) (sym (parts_in v Idle is))) r.unwritten
            (omega arith, omega arith, put_here r.seat_of t id)
            (λ j d _ e. drawn_more r.log r.made r.drawn r.served r.seat_of id j d.own (s.homes ≡ none ∷ []) d.role (r.roles j d e))
            (fits_in entries author fixed seats start s r id v Idle at is) (λ j d _ e. r.fits j d e)
            (fixed_in entries author fixed seats start s r id v Idle at is refl)
            (⊎_elim inl (λ a. inr (
              a.0,
              let h = knows entries author fixed seats start s r (r.seat_of r.served) a.1.0 (Holds r.served) a.1.1 a.1.2 in let before : r.served < r.drawn = h.1 in
                  subst (λ (z : ℕ). (d : SeatView I F) × (get_elem? (set s.views id w) z ≡ some d) × (d.role ≡ Holds r.served)) (sym (put_else r.seat_of t id r.served (λ e. omega arith)))
                  (turn_stays s.views id v w at (r.seat_of r.served) r.served (λ h. holds_not_idle v.role r.served h is) a.1),
            )) r.slot),
        λ _. (t, sym found, refl),
      )

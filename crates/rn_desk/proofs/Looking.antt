-- A look at the ticket that is served keeps the rule.
use Rattle.std.proofs.Common.{◌≡◌, ◌≢◌, ℕ, ◌+◌, ◌<◌, ◌≤◌, List, [], ◌∷◌, length, get_or, set, sym, refl, ap, ◌∙◌, subst, ⊎_elim, inr, ◌⊎◌, arith, Option, Some}
use mathlib.Core.Logic.{dite}
use mathlib.Core.Option.{none, some, some-injective}
use native.Mathlib.Decide.{ℕ_discrete}
use lib.ListN.{get_elem?}
use lib.Seq.{set-get_or}
use Rattle.atomic_table.specs.Table.{Me, step, keeps, takes, Allows}
use Rattle.atomic_table.proofs.Lists.{set_here, one_turn}
use Rattle.rn_desk.specs.declared.view.SeatRole.{SeatRole}
use Rattle.rn_desk.specs.declared.view.SeatRole.TheVariants.{Waits, Holds}
use Rattle.rn_desk.specs.declared.view.SeatView.{SeatView}
use Rattle.rn_desk.specs.Entries.{StartsWith}
use Rattle.rn_desk.specs.Turns.{total, wrapped, tickets, tickets_in, ticket_of, is_number, parts, AtHome, Away, Turns}
use Rattle.rn_desk.specs.Steps.{with_turn, GetsTurn, Looks}
use Rattle.rn_desk.proofs.Setting.{BoardState, Homes}
use Rattle.rn_desk.proofs.Sums.{total-set_same}
use Rattle.rn_desk.proofs.Histories.{append_none}
use Rattle.rn_desk.proofs.Roles.{turn_elsewhere, holds_not_waits}
use Rattle.rn_desk.proofs.Views.{is_within, ticket_stays}
use Rattle.rn_desk.proofs.Keeping.{restep, knows, fits_in, fixed_in, tickets_out, unmoved}

module _ {S I F : Type 0} (entries : S → List I) (author : I → ℕ) (fixed : S → F) (seats : ℕ) (start : S) where
  abbrev Rule : BoardState S I F → Type 0
  Rule = Turns entries author fixed seats start

  -- the ticket is served, so the slot is at home, and the seat takes it
  look_hits : (s : BoardState S I F) (r : Rule s) (slots id : ℕ) (me : Me (Option S) (SeatView I F)) (t : ℕ) → me.0.role ≡ Waits t → get_elem? s.views id ≡ some me.0 → get_or s.words 1 0 ≡ wrapped t
      → AtHome entries author fixed seats start r.log s.homes ⊎ Away entries author fixed seats start r.served (r.seat_of r.served) s.views s.homes
      → (w : SeatView I F) × (y : S) × (get_elem? s.homes 0 ≡ some (some (Some y))) × Rule record { words = set s.words 1 (get_or s.words 1 0); homes = set s.homes 0 none; views = set s.views id w }
      × GetsTurn entries author fixed me (w, (0, Some y) ∷ me.1)
  look_hits s r slots id me t is at hit slot = let v : SeatView I F = me.0 in let k = knows entries author fixed seats start s r id v (Waits t) at is in
      let from : r.served ≤ t = k.0 in let below : t < r.drawn = k.1 in let few = tickets_out entries author fixed seats start s r in let serving : get_or s.words 1 0 ≡ wrapped r.served = ap (λ ws. get_or ws 1 0) r.words in
      let now : r.served ≡ t = one_turn r.served t 18446744073709551616 from (omega arith) (sym serving ∙ hit) in let mine : r.seat_of r.served ≡ id = ap r.seat_of now ∙ k.2 in
      ⊎_elim (λ (h : AtHome entries author fixed seats start r.log s.homes). let y : S = h.0 in let w : SeatView I F = with_turn t (entries y) v in
      let homes : set s.homes 0 none ≡ none ∷ [] = ap (λ (z : Homes S). set z 0 none) h.1 in let fit = fits_in entries author fixed seats start s r id v (Waits t) at is in let fix = fixed_in entries author fixed seats start s r id v (Waits t) at is refl in (
        w,
        y,
        ap (λ (z : Homes S). get_elem? z 0) h.1,
        restep entries author fixed seats start s r id v w (set s.words 1 (get_or s.words 1 0)) (set s.homes 0 none) r.log r.drawn r.served r.seat_of at
            (set-get_or s.words 1 0 ∙ r.words)
            (λ u low high. ticket_stays s.views id v w at (r.seat_of u) u (λ has. sym (ap ticket_of is) ∙ has) (r.queue u low high))
            (r.waiting ∙ ap (λ (z : ℕ). r.served + z) (sym (total-set_same tickets_in s.views id v w at (ap tickets (sym is)))))
            (ap (λ (z : SeatRole). length (parts z v.own v.others)) (sym is)) (λ n. ap (λ (z : SeatRole). total (is_number n) (parts z v.own v.others)) (sym is)) r.unwritten
            (sym now, below, k.2, h.2, homes)
            (λ j d other e. turn_elsewhere r.log r.made r.drawn r.served r.seat_of id j d.own (s.homes ≡ none ∷ []) (set s.homes 0 none ≡ none ∷ []) r.log d.role mine other (r.roles j d e))
            ((([], sym (append_none (entries y) r.log [] h.2 refl)), fit.0.1), fit.1) (λ j d _ e. r.fits j d e)
            fix
            (inr (homes, (w, ap (get_elem? (set s.views id w)) mine ∙ set_here s.views id w (is_within s.views id v at), ap (λ (z : ℕ). let x : SeatRole = Holds z in x) (sym now)))),
        (t, y, is, subst (λ l. StartsWith l v.own.seen) (sym h.2) fit.0.0, fix ∙ ap (λ (z : F). Some z) (sym h.3), refl),
      ))
      (λ (a : Away entries author fixed seats start r.served (r.seat_of r.served) s.views s.homes).
      absurd (holds_not_waits v.role r.served t (ap (λ (z : SeatView I F). z.role) (some-injective v a.1.0 (sym at ∙ (ap (get_elem? s.views) (sym mine) ∙ a.1.1))) ∙ a.1.2) is)) slot

  pub look_allowed : (slots id : ℕ) (me : Me (Option S) (SeatView I F)) (t : ℕ) → me.0.role ≡ Waits t → Allows Rule slots id me 1 (λ x. x) (Looks entries author fixed (step slots 1 0 0 none) me)
  look_allowed slots id me t is s r deep at small = dite (ℕ_discrete (get_or s.words 1 0) (wrapped t))
      (λ hit. let g = look_hits s r slots id me t is at hit r.slot in (
        g.0,
        takes 0 (Some g.1),
        g.2,
        g.3,
        λ u is'. let e : t ≡ u = cc in
            subst (λ (z : ℕ). (get_or s.words 1 0 ≡ wrapped z → GetsTurn entries author fixed me (g.0, (0, Some g.1) ∷ me.1)) × (get_or s.words 1 0 ≢ wrapped z → (g.0, (0, Some g.1) ∷ me.1) ≡ me)) e ((λ _. g.4), λ not. absurd (not hit)),
      ))
      (λ miss. (
        me.0,
        keeps,
        tt,
        unmoved entries author fixed seats start s r 1 id me.0 at,
        λ u is'. let e : t ≡ u = cc in ((λ hit. absurd (miss (hit ∙ ap wrapped (sym e)))), λ _. refl),
      ))

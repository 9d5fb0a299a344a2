-- What is known of the state once all seats were joined into one.
use Rattle.std.proofs.Common.{◌≡◌, ◌≢◌, ℕ, ◌<◌, ◌≤◌, List, [], sym, ap, ◌∙◌, subst, ⊎_elim, arith, Option, Some}
use mathlib.Core.Option.{some, some-injective}
use lib.ListN.{get_elem?}
use Rattle.atomic_table.specs.Table.{Final, Seen}
use Rattle.rn_desk.specs.declared.view.SeatRole.TheVariants.{Idle}
use Rattle.rn_desk.specs.declared.view.SeatView.{SeatView}
use Rattle.rn_desk.specs.Entries.{authored}
use Rattle.rn_desk.specs.Turns.{Every, PartFits, parts_of, parts_count, AtHome, Away, Turns}
use Rattle.rn_desk.proofs.Setting.{BoardState, Homes}
use Rattle.rn_desk.proofs.Sums.{total_two}
use Rattle.rn_desk.proofs.Roles.{holds_part, holds_not_idle}

module _ {S I F : Type 0} (entries : S → List I) (author : I → ℕ) (fixed : S → F) (seats : ℕ) (start : S) where
  abbrev Rule : BoardState S I F → Type 0
  Rule = Turns entries author fixed seats start

  -- no seat has the turn, since this one has all parts and who has the turn would have one more
  no_turn : (s : BoardState S I F) (r : Rule s) (id : ℕ) (v : SeatView I F) → get_elem? s.views id ≡ some v → v.role ≡ Idle → seats ≤ parts_count v → Away entries author fixed seats start r.served (r.seat_of r.served) s.views s.homes → ⊥
  no_turn s r id v at is full a = let j : ℕ = r.seat_of r.served in let d : SeatView I F = a.1.0 in
      let other : id ≢ j = λ e. holds_not_idle v.role r.served (ap (λ (z : SeatView I F). z.role) (some-injective v d (sym at ∙ (ap (get_elem? s.views) e ∙ a.1.1))) ∙ a.1.2) is in
      let two = total_two parts_count s.views id j v d at a.1.1 other in let one = holds_part d.role r.served d.own d.others a.1.2 in let all = r.all_parts in let few = r.few.0 in omega arith

  pub ends : (id : ℕ) (v : SeatView I F) (ws : List ℕ) (xs : List (Option S)) → v.role ≡ Idle → seats ≤ parts_count v → Final (Seen Rule id v) ws xs
      → (y : S) × (get_elem? xs 0 ≡ some (Some y)) × Every (PartFits author (entries y)) (parts_of v) × ((n : ℕ) → seats < n → authored author n (entries y) ≡ []) × (fixed y ≡ fixed start)
  ends id v ws xs is full f = let s : BoardState S I F = f.0 in let r : Rule s = f.1.0 in let at : get_elem? s.views id ≡ some v = f.1.1 in
      ⊎_elim (λ (h : AtHome entries author fixed seats start r.log s.homes). (
        h.0,
        f.4 0 (Some h.0) (ap (λ (z : Homes S). get_elem? z 0) h.1),
        subst (λ l. Every (PartFits author l) (parts_of v)) (sym h.2) (r.fits id v at),
        (λ n over. let few = r.few.0 in ap (authored author n) h.2 ∙ r.unwritten n (omega arith)),
        h.3,
      ))
      (λ a. absurd (no_turn s r id v at is full a)) r.slot

-- Splitting a seat keeps the rule.
use Rattle.std.proofs.Common.{◌≡◌, ◌≢◌, ℕ, ◌+◌, ◌<◌, false, List, [], ◌∷◌, ◌++◌, length, set, sym, refl, ap, ◌∙◌, subst, ⊎_elim, inl, inr, arith, Some, None}
use mathlib.Core.Logic.{dite}
use mathlib.Core.Option.{none, some}
use native.Mathlib.Decide.{ℕ_discrete}
use lib.ListN.{get_elem?}
use Rattle.atomic_table.specs.Table.{Splits}
use Rattle.atomic_table.proofs.Lists.{at_snoc}
use Rattle.rn_desk.specs.declared.view.SeatRole.{SeatRole}
use Rattle.rn_desk.specs.declared.view.SeatRole.TheVariants.{Maker}
use Rattle.rn_desk.specs.declared.view.Part.{Part}
use Rattle.rn_desk.specs.declared.view.SeatView.{SeatView}
use Rattle.rn_desk.specs.Turns.{total, Every, tickets, tickets_in, ticket_of, is_spent, is_number, parts, PartFits, parts_of, parts_count, number_count, RoleFits, Turns}
use Rattle.rn_desk.specs.Steps.{new_part, one_more, next_number, maker_after, made_seat}
use Rattle.rn_desk.proofs.Setting.{BoardState}
use Rattle.rn_desk.proofs.Sums.{total-set_same, total_push}
use Rattle.rn_desk.proofs.Histories.{is_number_here, is_number_other}
use Rattle.rn_desk.proofs.Roles.{made_more, holds_not_maker}
use Rattle.rn_desk.proofs.Views.{each_after, ticket_stays, ticket_longer, turn_stays, turn_longer}
use Rattle.rn_desk.proofs.Keeping.{knows, parts_in}

module _ {S I F : Type 0} (entries : S → List I) (author : I → ℕ) (fixed : S → F) (seats : ℕ) (start : S) where
  abbrev Rule : BoardState S I F → Type 0
  Rule = Turns entries author fixed seats start

  module _ (s : BoardState S I F) (r : Rule s) (id : ℕ) (v : SeatView I F) (n : ℕ) (at : get_elem? s.views id ≡ some v) (is : v.role ≡ Maker n) where
    none_before : parts_of v ≡ []
    none_before = parts_in v (Maker n) is

    none_after : parts_of (maker_after v) ≡ []
    none_after = ap (λ (z : SeatRole). parts z v.own v.others) (ap one_more is)

    count : total parts_count (set s.views id (maker_after v) ++ made_seat v ∷ []) ≡ r.made + 1
    count = total_push parts_count (set s.views id (maker_after v)) (made_seat v)
        ∙ ap (λ (z : ℕ). z + 1) (total-set_same parts_count s.views id v (maker_after v) at (ap length none_after ∙ sym (ap length none_before)) ∙ r.all_parts)

    numbers : (m : ℕ) → total (number_count m) (set s.views id (maker_after v) ++ made_seat v ∷ []) ≡ total (number_count m) s.views + is_number m (new_part {I = I} (next_number v.role))
    numbers m = let a = total_push (number_count m) (set s.views id (maker_after v)) (made_seat v) in
        let b = total-set_same (number_count m) s.views id v (maker_after v) at (ap (total (is_number m)) none_after ∙ sym (ap (total (is_number m)) none_before)) in omega arith

    outs : total tickets_in (set s.views id (maker_after v) ++ made_seat v ∷ []) ≡ total tickets_in s.views
    outs = let a = total_push tickets_in (set s.views id (maker_after v)) (made_seat v) in
        let b = total-set_same tickets_in s.views id v (maker_after v) at (ap tickets (ap one_more is) ∙ sym (ap tickets is)) in omega arith

    -- what holds of each view after holds of the maker, of the others and of the new seat
    each : (K : ℕ → SeatView I F → Type 0) → K id (maker_after v) → ((j : ℕ) (d : SeatView I F) → j ≢ id → get_elem? s.views j ≡ some d → K j d) → ((j : ℕ) → K j (made_seat v))
        → (j : ℕ) (d : SeatView I F) → get_elem? (set s.views id (maker_after v) ++ made_seat v ∷ []) j ≡ some d → K j d
    each K mine others new j d e = ⊎_elim (each_after K s.views id (maker_after v) mine others j d)
        (λ (t : made_seat v ≡ d). subst (K j) t (new j)) (at_snoc (set s.views id (maker_after v)) (made_seat v) d j e)

  pub split_allowed : (id : ℕ) (v : SeatView I F) (n : ℕ) → v.role ≡ Maker n → n < seats → Splits Rule id v (maker_after v) (made_seat v)
  split_allowed id v n is room s r at = let w : SeatView I F = maker_after v in let u : SeatView I F = made_seat v in let p : Part I = new_part (next_number v.role) in let k = knows entries author fixed seats start s r id v (Maker n) at is in
      let made : n ≡ r.made = k.0 in let number : p.number ≡ n + 1 = ap next_number is in let vs : List (SeatView I F) = set s.views id w in
      let sum = numbers s r id v n at is in let few = r.few.0 in let fix : v.fixed ≡ Some (fixed start) = r.same id v at (ap is_spent is) in record {
        log = r.log;
        made = r.made + 1;
        drawn = r.drawn;
        served = r.served;
        seat_of = r.seat_of;
        words = r.words;
        roles = each s r id v n at is (λ j d. RoleFits (s.homes ≡ none ∷ []) r.log (r.made + 1) r.drawn r.served r.seat_of j d.own d.role)
            (subst (RoleFits (s.homes ≡ none ∷ []) r.log (r.made + 1) r.drawn r.served r.seat_of id v.own) (sym (ap one_more is)) (ap (λ (z : ℕ). z + 1) made, k.1))
            (λ j d other h. made_more r.log r.made r.drawn r.served r.seat_of id j d.own (s.homes ≡ none ∷ []) d.role k.1 other (r.roles j d h))
            (λ j. tt);
        queue = λ t low high. ticket_longer vs (u ∷ []) (r.seat_of t) t (ticket_stays s.views id v w at (r.seat_of t) t (λ has. absurd (let e : ticket_of v.role ≡ None = ap ticket_of is in cc)) (r.queue t low high));
        waiting = r.waiting ∙ ap (λ (z : ℕ). r.served + z) (sym (outs s r id v n at is));
        slot = ⊎_elim inl (λ a. inr (a.0, turn_longer vs (u ∷ []) (r.seat_of r.served) r.served (turn_stays s.views id v w at (r.seat_of r.served) r.served (λ h. holds_not_maker v.role r.served n h is) a.1))) r.slot;
        same = each s r id v n at is (λ j d. is_spent d.role ≡ false → d.fixed ≡ Some (fixed start)) (λ _. fix) (λ j d _ h. r.same j d h) (λ j _. fix);
        few = (omega arith, r.few.1);
        all_parts = count s r id v n at is;
        once = λ m a b. dite (ℕ_discrete m (r.made + 1))
            (λ e. let h = is_number_here m p (omega arith) in let o = r.unmade m (omega arith) in let t = sum m in omega arith)
            (λ e. let h = is_number_other m p (λ f. e (omega arith)) in let o = r.once m a (omega arith) in let t = sum m in omega arith);
        no_zero = let h = is_number_other 0 p (λ f. omega arith) in let o = r.no_zero in let t = sum 0 in omega arith;
        unmade = λ m a. let h = is_number_other m p (λ f. omega arith) in let o = r.unmade m (omega arith) in let t = sum m in omega arith;
        fits = each s r id v n at is (λ j d. Every (PartFits author r.log) (parts_of d)) (subst (Every (PartFits author r.log)) (sym (none_after s r id v n at is)) tt) (λ j d _ h. r.fits j d h)
            (λ j. (((r.log, refl), r.unwritten p.number (omega arith)), tt));
        unwritten = λ m a. r.unwritten m (omega arith);
      }

-- Joining a seat into another keeps the rule.
use Rattle.std.proofs.Common.{◌≡◌, ℕ, ◌+◌, false, List, [], ◌∷◌, ◌++◌, length, set, sym, refl, ap, ◌∙◌, subst, ⊎_elim, inl, inr, arith, Some, None, length-append}
use mathlib.Core.Option.{none, some}
use lib.ListN.{get_elem?}
use Rattle.atomic_table.specs.Table.{Joins}
use Rattle.atomic_table.proofs.Lists.{set_else}
use Rattle.rn_desk.specs.declared.view.SeatRole.{SeatRole}
use Rattle.rn_desk.specs.declared.view.SeatRole.TheVariants.{Idle}
use Rattle.rn_desk.specs.declared.view.Part.{Part}
use Rattle.rn_desk.specs.declared.view.SeatView.{SeatView}
use Rattle.rn_desk.specs.Turns.{total, Every, tickets, tickets_in, ticket_of, is_spent, is_number, parts, PartFits, parts_of, parts_count, number_count, RoleFits, Turns}
use Rattle.rn_desk.specs.Steps.{joined, spent}
use Rattle.rn_desk.proofs.Setting.{BoardState}
use Rattle.rn_desk.proofs.Sums.{total-set, total-append}
use Rattle.rn_desk.proofs.Histories.{Every-append}
use Rattle.rn_desk.proofs.Roles.{holds_not_idle}
use Rattle.rn_desk.proofs.Views.{each_after, ticket_stays, turn_stays}
use Rattle.rn_desk.proofs.Keeping.{parts_in, fits_in}

-- a sum over the views, when two are joined
total-joined : {D : Type 0} (f : D → ℕ) (vs : List D) (id other : ℕ) (v w b o : D) → get_elem? vs id ≡ some v → get_elem? (set vs id b) other ≡ some w → f b ≡ f v + f w → f o ≡ 0
    → total f (set (set vs id b) other o) ≡ total f vs
total-joined f vs id other v w b o at there sum nothing = let x = total-set f vs id v b at in let y = total-set f (set vs id b) other w o there in omega arith

module _ {S I F : Type 0} (entries : S → List I) (author : I → ℕ) (fixed : S → F) (seats : ℕ) (start : S) where
  abbrev Rule : BoardState S I F → Type 0
  Rule = Turns entries author fixed seats start

  module _ (s : BoardState S I F) (r : Rule s) (id : ℕ) (v : SeatView I F) (other : ℕ) (w : SeatView I F) (at : get_elem? s.views id ≡ some v) (there : get_elem? (set s.views id (joined v w)) other ≡ some w) (is : v.role ≡ Idle) (is' : w.role ≡ Idle) where
    abbrev after : List (SeatView I F)
    after = set (set s.views id (joined v w)) other spent

    both : parts_of (joined v w) ≡ v.own ∷ (v.others ++ w.own ∷ w.others)
    both = ap (λ (z : SeatRole). parts z v.own (v.others ++ w.own ∷ w.others)) is

    sum : (f : Part I → ℕ) → total f (parts_of (joined v w)) ≡ total f (parts_of v) + total f (parts_of w)
    sum f = let x = ap (total f) both in let y = ap (total f) (parts_in v Idle is) in let z = ap (total f) (parts_in w Idle is') in let q = total-append f v.others (w.own ∷ w.others) in omega arith

    numbers : (n : ℕ) → total (number_count n) after ≡ total (number_count n) s.views
    numbers n = total-joined (number_count n) s.views id other v w (joined v w) spent at there (sum (is_number n)) refl

    count : total parts_count after ≡ total parts_count s.views
    count = total-joined parts_count s.views id other v w (joined v w) spent at there
        (let x = ap length both in let y = ap length (parts_in v Idle is) in let z = ap length (parts_in w Idle is') in let q = length-append v.others (w.own ∷ w.others) in omega arith) refl

    outs : total tickets_in after ≡ total tickets_in s.views
    outs = total-joined tickets_in s.views id other v w (joined v w) spent at there (let x : tickets v.role ≡ 0 = ap tickets is in let y : tickets w.role ≡ 0 = ap tickets is' in omega arith) refl

    -- what holds of each view after holds of the seat that joined, of the spent one and of the others
    each : (K : ℕ → SeatView I F → Type 0) → K id (joined v w) → K other spent → ((j : ℕ) (d : SeatView I F) → get_elem? s.views j ≡ some d → K j d)
        → (j : ℕ) (d : SeatView I F) → get_elem? after j ≡ some d → K j d
    each K mine nothing others = each_after K (set s.views id (joined v w)) other spent nothing (λ j d _. each_after K s.views id (joined v w) mine (λ i x _. others i x) j d)

  pub join_allowed : (id : ℕ) (v : SeatView I F) (other : ℕ) (w : SeatView I F) → v.role ≡ Idle → w.role ≡ Idle → Joins Rule id v other w (joined v w) spent
  join_allowed id v other w is is' s r at apart there = let b : SeatView I F = joined v w in let vs : List (SeatView I F) = set s.views id b in
      let there' : get_elem? s.views other ≡ some w = sym (set_else s.views id other b apart) ∙ there in
      let fit = fits_in entries author fixed seats start s r id v Idle at is in let fit' = fits_in entries author fixed seats start s r other w Idle there' is' in
      let sums = numbers s r id v other w at there is is' in record {
        log = r.log;
        made = r.made;
        drawn = r.drawn;
        served = r.served;
        seat_of = r.seat_of;
        words = r.words;
        roles = each s r id v other w at there is is' (λ j d. RoleFits (s.homes ≡ none ∷ []) r.log r.made r.drawn r.served r.seat_of j d.own d.role) (subst (RoleFits (s.homes ≡ none ∷ []) r.log r.made r.drawn r.served r.seat_of id v.own) (sym is) tt) tt r.roles;
        queue = λ t low high. ticket_stays vs other w spent there (r.seat_of t) t (λ has. absurd (let e : ticket_of w.role ≡ None = ap ticket_of is' in cc))
            (ticket_stays s.views id v b at (r.seat_of t) t (λ has. has) (r.queue t low high));
        waiting = r.waiting ∙ ap (λ (z : ℕ). r.served + z) (sym (outs s r id v other w at there is is'));
        slot = ⊎_elim inl (λ a. inr (
          a.0,
          turn_stays vs other w spent there (r.seat_of r.served) r.served (λ h. holds_not_idle w.role r.served h is')
              (turn_stays s.views id v b at (r.seat_of r.served) r.served (λ h. holds_not_idle v.role r.served h is) a.1),
        )) r.slot;
        same = each s r id v other w at there is is' (λ j d. is_spent d.role ≡ false → d.fixed ≡ Some (fixed start)) (r.same id v at) (λ live. absurd (cc)) r.same;
        few = r.few;
        all_parts = count s r id v other w at there is is' ∙ r.all_parts;
        once = λ n x y. sums n ∙ r.once n x y;
        no_zero = sums 0 ∙ r.no_zero;
        unmade = λ n x. sums n ∙ r.unmade n x;
        fits = each s r id v other w at there is is' (λ j d. Every (PartFits author r.log) (parts_of d))
            (subst (Every (PartFits author r.log)) (sym (both s r id v other w at there is is')) (fit.0, Every-append (PartFits author r.log) v.others (w.own ∷ w.others) fit.1 fit')) tt r.fits;
        unwritten = r.unwritten;
      }

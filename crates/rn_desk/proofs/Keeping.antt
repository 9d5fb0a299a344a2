-- What the proofs of all steps share: a step of one seat keeps the rule where it keeps each of its parts.
use Rattle.std.proofs.Common.{◌≡◌, ◌≢◌, ℕ, ◌+◌, ◌<◌, ◌≤◌, false, List, [], ◌∷◌, length, get_or, set, sym, ap, ◌∙◌, subst, ◌⊎◌, arith, Option, Some, None}
use mathlib.Core.Logic.{dite}
use mathlib.Core.Option.{none, some}
use native.Mathlib.Decide.{ℕ_discrete, dec_le}
use lib.ListN.{get_elem?}
use lib.Seq.{set-get_or}
use Rattle.atomic_table.proofs.Lists.{set_again}
use Rattle.rn_desk.specs.declared.view.SeatRole.{SeatRole}
use Rattle.rn_desk.specs.declared.view.SeatView.{SeatView}
use Rattle.rn_desk.specs.Entries.{authored}
use Rattle.rn_desk.specs.Turns.{total, Every, wrapped, tickets_in, is_spent, parts, PartFits, parts_of, parts_count, number_count, HasTicket, RoleFits, AtHome, Away, Turns}
use Rattle.rn_desk.proofs.Setting.{BoardState, Homes}
use Rattle.rn_desk.proofs.Sums.{total-set_same, total_mono}
use Rattle.rn_desk.proofs.Roles.{tickets_few}
use Rattle.rn_desk.proofs.Views.{each_after}

abbrev pub value_or : {A : Type 0} → A → Option A → A
value_or d (Some x) = x
value_or d None = d

-- what the slot that was taken last has
abbrev pub first_value : {A : Type 0} → A → List (ℕ × A) → A
first_value d [] = d
first_value d (x ∷ xs) = x.1

module _ {I F : Type 0} where
  pub parts_in : (v : SeatView I F) (role : SeatRole) → v.role ≡ role → parts_of v ≡ parts role v.own v.others
  parts_in v role is = ap (λ (z : SeatRole). parts z v.own v.others) is

module _ {S I F : Type 0} (entries : S → List I) (author : I → ℕ) (fixed : S → F) (seats : ℕ) (start : S) where
  abbrev Rule : BoardState S I F → Type 0
  Rule = Turns entries author fixed seats start

  -- seat id steps, from the view v to w
  pub restep : (s : BoardState S I F) (r : Rule s) (id : ℕ) (v w : SeatView I F) (words' : List ℕ) (homes' : Homes S) (log' : List I) (drawn' served' : ℕ) (seat_of' : ℕ → ℕ) → get_elem? s.views id ≡ some v
      → words' ≡ wrapped drawn' ∷ wrapped served' ∷ wrapped (length log') ∷ []
      → ((t : ℕ) → served' ≤ t → t < drawn' → HasTicket (set s.views id w) (seat_of' t) t)
      → drawn' ≡ served' + total tickets_in (set s.views id w)
      → parts_count w ≡ parts_count v → ((n : ℕ) → number_count n w ≡ number_count n v) → ((n : ℕ) → r.made < n → authored author n log' ≡ [])
      → RoleFits (homes' ≡ none ∷ []) log' r.made drawn' served' seat_of' id w.own w.role
      → ((j : ℕ) (d : SeatView I F) → j ≢ id → get_elem? s.views j ≡ some d → RoleFits (homes' ≡ none ∷ []) log' r.made drawn' served' seat_of' j d.own d.role)
      → Every (PartFits author log') (parts_of w) → ((j : ℕ) (d : SeatView I F) → j ≢ id → get_elem? s.views j ≡ some d → Every (PartFits author log') (parts_of d))
      → w.fixed ≡ Some (fixed start)
      → AtHome entries author fixed seats start log' homes' ⊎ Away entries author fixed seats start served' (seat_of' served') (set s.views id w) homes'
      → Rule record { words = words'; homes = homes'; views = set s.views id w }
  restep s r id v w words' homes' log' drawn' served' seat_of' at ws queue waiting count numbers by role roles fit fits fix slot = record {
    log = log';
    made = r.made;
    drawn = drawn';
    served = served';
    seat_of = seat_of';
    words = ws;
    roles = each_after (λ j d. RoleFits (homes' ≡ none ∷ []) log' r.made drawn' served' seat_of' j d.own d.role) s.views id w role roles;
    queue = queue;
    waiting = waiting;
    slot = slot;
    same = each_after (λ j d. is_spent d.role ≡ false → d.fixed ≡ Some (fixed start)) s.views id w (λ _. fix) (λ j d _. r.same j d);
    few = r.few;
    all_parts = total-set_same parts_count s.views id v w at count ∙ r.all_parts;
    once = λ n a b. total-set_same (number_count n) s.views id v w at (numbers n) ∙ r.once n a b;
    no_zero = total-set_same (number_count 0) s.views id v w at (numbers 0) ∙ r.no_zero;
    unmade = λ n a. total-set_same (number_count n) s.views id v w at (numbers n) ∙ r.unmade n a;
    fits = each_after (λ j d. Every (PartFits author log') (parts_of d)) s.views id w fit fits;
    unwritten = by;
  }

  pub knows : (s : BoardState S I F) (r : Rule s) (id : ℕ) (v : SeatView I F) (role : SeatRole) → get_elem? s.views id ≡ some v → v.role ≡ role → RoleFits (s.homes ≡ none ∷ []) r.log r.made r.drawn r.served r.seat_of id v.own role
  knows s r id v role at is = subst (RoleFits (s.homes ≡ none ∷ []) r.log r.made r.drawn r.served r.seat_of id v.own) is (r.roles id v at)

  pub fits_in : (s : BoardState S I F) (r : Rule s) (id : ℕ) (v : SeatView I F) (role : SeatRole) → get_elem? s.views id ≡ some v → v.role ≡ role → Every (PartFits author r.log) (parts role v.own v.others)
  fits_in s r id v role at is = subst (Every (PartFits author r.log)) (parts_in v role is) (r.fits id v at)

  pub fixed_in : (s : BoardState S I F) (r : Rule s) (id : ℕ) (v : SeatView I F) (role : SeatRole) → get_elem? s.views id ≡ some v → v.role ≡ role → is_spent role ≡ false → v.fixed ≡ Some (fixed start)
  fixed_in s r id v role at is live = r.same id v at (ap is_spent is ∙ live)

  -- no more tickets are out than there are seats
  pub tickets_out : (s : BoardState S I F) (r : Rule s) → r.drawn ≤ r.served + 64
  tickets_out s r = let q = r.waiting in let a = total_mono tickets_in parts_count (λ (v : SeatView I F). tickets_few v.role v.own v.others) s.views in let p = r.all_parts in let f = r.few.0 in let g = r.few.1 in omega arith

  -- no number stands twice
  pub alone : (s : BoardState S I F) (r : Rule s) (n : ℕ) → total (number_count n) s.views ≤ 1
  alone s r n = dite (ℕ_discrete n 0) (λ z. let e : total (number_count n) s.views ≡ 0 = ap (λ (k : ℕ). total (number_count k) s.views) z ∙ r.no_zero in omega arith)
      (λ some. dite (dec_le n r.made) (λ l. let e = r.once n (omega arith) l in omega arith) (λ g. let e = r.unmade n (omega arith) in omega arith))

  -- a word that is read, by a seat that learns nothing
  pub unmoved : (s : BoardState S I F) (r : Rule s) (i id : ℕ) (v : SeatView I F) → get_elem? s.views id ≡ some v → Rule record { words = set s.words i (get_or s.words i 0); homes = s.homes; views = set s.views id v }
  unmoved s r i id v at = subst (λ (z : List ℕ × List (SeatView I F)). Rule record { words = z.0; homes = s.homes; views = z.1 }) (λ k. (sym (set-get_or s.words i 0) k, sym (set_again s.views id v at) k)) r

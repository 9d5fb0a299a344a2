-- What stays true of a seat while another one steps.
use Rattle.std.proofs.Common.{◌≡◌, ◌≢◌, ℕ, ◌+◌, ◌<◌, ◌≤◌, List, length, sym, refl, ap, ◌∙◌, subst, arith}
use native.Mathlib.Decide.{ℕ_discrete}
use Rattle.rn_desk.specs.declared.view.SeatRole.{SeatRole}
use Rattle.rn_desk.specs.declared.view.SeatRole.TheVariants.{Spent, Maker, Idle, Waits, Holds}
use Rattle.rn_desk.specs.declared.view.Part.{Part}
use Rattle.rn_desk.specs.Turns.{parts, tickets, RoleFits}

abbrev pick : {P : Type 0} → Dec P → ℕ → ℕ → ℕ
pick (yes _) a b = a
pick (no _) a b = b

-- the function f, but c at i
pub put : (ℕ → ℕ) → ℕ → ℕ → ℕ → ℕ
put f i c j = pick (ℕ_discrete j i) c (f j)

pub put_here : (f : ℕ → ℕ) (i c : ℕ) → put f i c i ≡ c
unfolding put
put_here f i c = go (ℕ_discrete i i)
  where
    go : (d : Dec (i ≡ i)) → pick d c (f i) ≡ c
    go (yes _) = refl
    go (no n) = absurd (n refl)

pub put_else : (f : ℕ → ℕ) (i c j : ℕ) → j ≢ i → put f i c j ≡ f j
unfolding put
put_else f i c j other = go (ℕ_discrete j i)
  where
    go : (d : Dec (j ≡ i)) → pick d c (f j) ≡ f j
    go (yes e) = absurd (other e)
    go (no _) = refl

module _ {I : Type 0} (log : List I) (made drawn served : ℕ) (seat_of : ℕ → ℕ) (id j : ℕ) (own : Part I) where
  -- a ticket more is drawn
  pub drawn_more : (out : Type 0) (role : SeatRole) → RoleFits out log made drawn served seat_of j own role → RoleFits out log made (drawn + 1) served (put seat_of drawn id) j own role
  drawn_more out Spent k = tt
  drawn_more out (Maker n) k = k
  drawn_more out Idle k = tt
  drawn_more out (Waits t) k = let a : t < drawn = k.1 in (k.0, omega arith, put_else seat_of drawn id t (λ e. omega arith) ∙ k.2)
  drawn_more out (Holds t) k = let a : t < drawn = k.1 in (k.0, omega arith, put_else seat_of drawn id t (λ e. omega arith) ∙ k.2, k.3, k.4)

  -- the seat whose ticket is served, another one, changes the slot and the history
  pub turn_elsewhere : (out out' : Type 0) (log' : List I) (role : SeatRole) → seat_of served ≡ id → j ≢ id
      → RoleFits out log made drawn served seat_of j own role → RoleFits out' log' made drawn served seat_of j own role
  turn_elsewhere out out' log' Spent at other k = tt
  turn_elsewhere out out' log' (Maker n) at other k = k
  turn_elsewhere out out' log' Idle at other k = tt
  turn_elsewhere out out' log' (Waits t) at other k = k
  turn_elsewhere out out' log' (Holds t) at other k = absurd (other (sym k.2 ∙ (ap seat_of k.0 ∙ at)))

  -- that seat passes the turn on
  pub turn_passed : (out out' : Type 0) (role : SeatRole) → seat_of served ≡ id → j ≢ id
      → RoleFits out log made drawn served seat_of j own role → RoleFits out' log made drawn (served + 1) seat_of j own role
  turn_passed out out' Spent at other k = tt
  turn_passed out out' (Maker n) at other k = k
  turn_passed out out' Idle at other k = tt
  turn_passed out out' (Waits t) at other k = let a : served ≤ t = k.0 in
      let b : t ≢ served = λ e. other (sym k.2 ∙ (ap seat_of e ∙ at)) in (omega arith, k.1, k.2)
  turn_passed out out' (Holds t) at other k = absurd (other (sym k.2 ∙ (ap seat_of k.0 ∙ at)))

  -- the maker makes a seat more
  pub made_more : (out : Type 0) (role : SeatRole) → id ≡ 0 → j ≢ id → RoleFits out log made drawn served seat_of j own role → RoleFits out log (made + 1) drawn served seat_of j own role
  made_more out Spent at other k = tt
  made_more out (Maker n) at other k = absurd (other (k.1 ∙ sym at))
  made_more out Idle at other k = tt
  made_more out (Waits t) at other k = k
  made_more out (Holds t) at other k = k

module _ {I : Type 0} where
  -- who has a ticket has a part
  pub tickets_few : (role : SeatRole) (own : Part I) (others : List (Part I)) → tickets role ≤ length (parts role own others)
  tickets_few Spent own others = omega arith
  tickets_few (Maker n) own others = omega arith
  tickets_few Idle own others = omega arith
  tickets_few (Waits t) own others = omega arith
  tickets_few (Holds t) own others = omega arith

  pub holds_part : (role : SeatRole) (t : ℕ) (own : Part I) (others : List (Part I)) → role ≡ Holds t → 1 ≤ length (parts role own others)
  holds_part role t own others e = subst (λ r. 1 ≤ length (parts r own others)) (sym e) (omega arith)

-- a seat has one role
pub holds_not_waits : (a : SeatRole) (t u : ℕ) → a ≡ Holds t → a ≡ Waits u → ⊥
holds_not_waits a t u e f = cc

pub holds_not_idle : (a : SeatRole) (t : ℕ) → a ≡ Holds t → a ≡ Idle → ⊥
holds_not_idle a t e f = cc

pub holds_not_maker : (a : SeatRole) (t n : ℕ) → a ≡ Holds t → a ≡ Maker n → ⊥
holds_not_maker a t n e f = cc

-- Passing the turn on keeps the rule.
use Rattle.std.proofs.Common.{◌≡◌, ℕ, ◌+◌, ◌%◌, List, [], ◌∷◌, length, get_or, set, sym, refl, ap, ◌∙◌, subst, inl, arith, Option, Some}
use mathlib.Core.Option.{none, some}
use Rattle.atomic_table.specs.Table.{Me, step, gives, Allows}
use Rattle.rn_desk.specs.declared.view.SeatRole.{SeatRole}
use Rattle.rn_desk.specs.declared.view.SeatRole.TheVariants.{Idle, Holds}
use Rattle.rn_desk.specs.declared.view.SeatView.{SeatView}
use Rattle.rn_desk.specs.Turns.{total, wrapped, tickets, tickets_in, ticket_of, is_number, parts, Turns}
use Rattle.rn_desk.specs.Steps.{in_role, PassesOn}
use Rattle.rn_desk.proofs.Setting.{BoardState, Homes}
use Rattle.rn_desk.proofs.Sums.{total-set}
use Rattle.rn_desk.proofs.Roles.{turn_passed}
use Rattle.rn_desk.proofs.Views.{ticket_stays}
use Rattle.rn_desk.proofs.Keeping.{value_or, restep, knows, fits_in, fixed_in}

module _ {S I F : Type 0} (entries : S → List I) (author : I → ℕ) (fixed : S → F) (seats : ℕ) (start : S) where
  abbrev Rule : BoardState S I F → Type 0
  Rule = Turns entries author fixed seats start

  pass_allowed_at : (slots id : ℕ) (v : SeatView I F) (t : ℕ) (y : S) → v.role ≡ Holds t → entries y ≡ v.own.seen → v.fixed ≡ Some (fixed y)
      → Allows Rule slots id (v, (0, Some y) ∷ []) 1 (λ x. (x + 1) % 18446744073709551616) (PassesOn entries author fixed (step slots 1 1 0 none) (v, (0, Some y) ∷ []))
  pass_allowed_at slots id v t y is all fix s r deep at small = let k = knows entries author fixed seats start s r id v (Holds t) at is in let w : SeatView I F = in_role Idle v in
      let x : ℕ = get_or s.words 1 0 in let z : ℕ = (x + 1) % 18446744073709551616 in let found : x ≡ wrapped r.served = ap (λ ws. get_or ws 1 0) r.words in let next : z ≡ wrapped (r.served + 1) = omega arith in
      let mine : r.seat_of r.served ≡ id = ap r.seat_of (sym k.0) ∙ k.2 in let fixes = fixed_in entries author fixed seats start s r id v (Holds t) at is refl in
      let q = r.waiting in let sums = total-set tickets_in s.views id v w at in let one_out : tickets_in v ≡ 1 = ap tickets is in let served : t ≡ r.served = k.0 in
      let homes : set s.homes 0 (some (Some y)) ≡ some (Some y) ∷ [] = ap (λ (h : Homes S). set h 0 (some (Some y))) k.4 in (
        w,
        gives,
        tt,
        restep entries author fixed seats start s r id v w (set s.words 1 z) (set s.homes 0 (some (Some y))) r.log r.drawn (r.served + 1) r.seat_of at
            (ap (λ ws. set ws 1 z) r.words ∙ ap (λ (n : ℕ). wrapped r.drawn ∷ n ∷ wrapped (length r.log) ∷ []) next)
            (λ u low high. ticket_stays s.views id v w at (r.seat_of u) u
            (λ has. let own : ticket_of v.role ≡ Some t = ap ticket_of is in let same : u ≡ t = cc in absurd (omega arith)) (r.queue u (omega arith) high))
            (omega arith)
            (ap (λ (z : SeatRole). length (parts z v.own v.others)) (sym is)) (λ n. ap (λ (z : SeatRole). total (is_number n) (parts z v.own v.others)) (sym is)) r.unwritten
            tt
            (λ j d other e. turn_passed r.log r.made r.drawn r.served r.seat_of id j d.own (s.homes ≡ none ∷ []) (set s.homes 0 (some (Some y)) ≡ none ∷ []) d.role mine other (r.roles j d e))
            (fits_in entries author fixed seats start s r id v (Holds t) at is) (λ j d _ e. r.fits j d e)
            fixes
            (inl (y, homes, all ∙ k.3, ap (value_or (fixed y)) (sym fix ∙ fixes))),
        refl,
      )

  pub pass_allowed : (slots id : ℕ) (me : Me (Option S) (SeatView I F)) (t : ℕ) (y : S) → me.0.role ≡ Holds t → me.1 ≡ (0, Some y) ∷ [] → entries y ≡ me.0.own.seen → me.0.fixed ≡ Some (fixed y)
      → Allows Rule slots id me 1 (λ x. (x + 1) % 18446744073709551616) (PassesOn entries author fixed (step slots 1 1 0 none) me)
  pass_allowed slots id me t y is carried all fix = subst (λ (z : List (ℕ × Option S)). Allows Rule slots id (me.0, z) 1 (λ x. (x + 1) % 18446744073709551616) (PassesOn entries author fixed (step slots 1 1 0 none) (me.0, z))) (sym carried)
      (pass_allowed_at slots id me.0 t y is all fix)

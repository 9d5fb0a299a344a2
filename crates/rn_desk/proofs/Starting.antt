-- The rule holds of a desk that was just opened.
use Rattle.std.proofs.Common.{◌≡◌, ℕ, ◌≤◌, List, [], ◌∷◌, refl, subst, inl, arith, Some}
use mathlib.Core.Option.{none, some}
use Rattle.atomic_table.specs.Table.{opening}
use Rattle.rn_desk.specs.declared.view.SeatView.{SeatView}
use Rattle.rn_desk.specs.Turns.{Every, PartFits, parts_of, RoleFits, Turns}
use Rattle.rn_desk.specs.Steps.{maker}
use Rattle.rn_desk.proofs.Views.{only_one}

module _ {S I F : Type 0} (entries : S → List I) (author : I → ℕ) (fixed : S → F) (seats : ℕ) (start : S) where
  pub opens : entries start ≡ [] → seats ≤ 64 → Turns entries author fixed seats start (opening (0 ∷ 0 ∷ 0 ∷ []) (Some start ∷ []) (maker 0 (fixed start)))
  opens blank few = let x : SeatView I F = maker 0 (fixed start) in record {
    log = [];
    made = 0;
    drawn = 0;
    served = 0;
    seat_of = λ _. 0;
    words = refl;
    roles = λ j d e. let o = only_one x j d e in subst (λ (z : SeatView I F). RoleFits (some (Some start) ∷ [] ≡ none ∷ []) [] 0 0 0 (λ _. 0) j z.own z.role) o.1 (refl, o.0);
    queue = λ t low high. absurd (omega arith);
    waiting = refl;
    slot = inl (start, refl, blank, refl);
    same = λ j d e live. let o = only_one x j d e in subst (λ (z : SeatView I F). z.fixed ≡ Some (fixed start)) o.1 refl;
    few = (omega arith, few);
    all_parts = refl;
    once = λ n a b. absurd (omega arith);
    no_zero = refl;
    unmade = λ n a. refl;
    fits = λ j d e. let o = only_one x j d e in subst (λ (z : SeatView I F). Every (PartFits author []) (parts_of z)) o.1 tt;
    unwritten = λ n a. refl;
  }

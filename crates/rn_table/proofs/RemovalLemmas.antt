-- What may start, of the instances that are kept by their numbers.
use Rattle.std.proofs.Common.{◌≡◌, ℕ, Bool, true, false, cond, List, [], ◌∷◌, map, refl, sym, ap, ◌∙◌}
use Rattle.std.specs.Prelude.{filter}
use Rattle.rn_model.specs.declared.system.System.{System}
use Rattle.rn_model.specs.Markings.{Instance}
use Rattle.rn_model.specs.Systems.{may_start}

module _ (system : System) (keeps : ℕ → Bool) where
  abbrev starts : List Instance → List Instance
  starts = filter (λ i. may_start system i.net)

  abbrev left : List Instance → List Instance
  left = filter (λ i. keeps i.number)

  abbrev numbers_of : List Instance → List ℕ
  numbers_of = map (λ i. i.number)

  by_tests : (i : Instance) (is : List Instance) (kept may : Bool) → keeps i.number ≡ kept →
      may_start system i.net ≡ may →
      numbers_of (starts (left is)) ≡ filter keeps (numbers_of (starts is)) →
      numbers_of (starts (cond kept (i ∷ left is) (left is)))
      ≡ filter keeps (numbers_of (cond may (i ∷ starts is) (starts is)))
  by_tests i is true true k s rest =
      ap (λ t. numbers_of (cond t (i ∷ starts (left is)) (starts (left is)))) s
      ∙ ap (λ ns. i.number ∷ ns) rest
      ∙ sym (ap (λ t. cond t (i.number ∷ filter keeps (numbers_of (starts is))) (filter keeps (numbers_of (starts is)))) k)
  by_tests i is true false k s rest =
      ap (λ t. numbers_of (cond t (i ∷ starts (left is)) (starts (left is)))) s ∙ rest
  by_tests i is false true k s rest =
      rest
      ∙ sym (ap (λ t. cond t (i.number ∷ filter keeps (numbers_of (starts is))) (filter keeps (numbers_of (starts is)))) k)
  by_tests i is false false k s rest = rest

  starts_left : (is : List Instance) →
      numbers_of (starts (left is)) ≡ filter keeps (numbers_of (starts is))
  starts_left [] = refl
  starts_left (i ∷ is) =
      by_tests i is (keeps i.number) (may_start system i.net) refl refl (starts_left is)

  -- what may start of those that are left are those left of what may start
  pub left_of_system : (is new_is : List Instance) (ns new_ns : List ℕ) →
      new_is ≡ left is → new_ns ≡ filter keeps ns → ns ≡ numbers_of (starts is) →
      new_ns ≡ numbers_of (starts new_is)
  left_of_system is new_is ns new_ns instances starting of =
      starting ∙ ap (filter keeps) of ∙ sym (starts_left is)
      ∙ ap (λ xs. numbers_of (starts xs)) (sym instances)

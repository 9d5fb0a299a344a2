-- What the elements of one place give, taken together.
use Rattle.std.proofs.Common.{◌≡◌, Bool, true, false, cond, List, [], ◌∷◌, ◌++◌, refl}
use Rattle.std.proofs.Common.{ap, ◌∙◌}
use Rattle.std.specs.Prelude.{filter}
use Rattle.std.specs.List.{flat_map}
use Rattle.std.proofs.lemmas.Grind.{flat_map-append}
use Rattle.std.proofs.lemmas.List.{append-nil}
use Rattle.std.proofs.lemmas.List.Elements.{filter-append}
use Rattle.rn_arcs.specs.Places.{InstPlace, is_at}

-- what the elements of a place give
abbrev pub at_place : {X A : Type 0} → (X → InstPlace) → (X → List A) → InstPlace → List X → List A
at_place key f k xs = flat_map f (filter (λ x. is_at k (key x)) xs)

module _ {X A : Type 0} (key : X → InstPlace) (f : X → List A) (k : InstPlace) where
  pub at_place-append : (xs ys : List X) →
      at_place key f k (xs ++ ys) ≡ at_place key f k xs ++ at_place key f k ys
  at_place-append xs ys =
      ap (flat_map f) (filter-append (λ x. is_at k (key x)) xs ys)
      ∙ flat_map-append f (filter (λ x. is_at k (key x)) xs)
      (filter (λ x. is_at k (key x)) ys)

  -- one element
  by_test : (x : X) (here : Bool) →
      flat_map f (cond here (x ∷ []) []) ≡ cond here (f x) []
  by_test x true = append-nil (f x)
  by_test x false = refl

  pub at_place-one : (x : X) →
      at_place key f k (x ∷ []) ≡ cond (is_at k (key x)) (f x) []
  at_place-one x = by_test x (is_at k (key x))

  pub at_place-flat : {Y : Type 0} (g : Y → List X) (ys : List Y) →
      at_place key f k (flat_map g ys) ≡ flat_map (λ y. at_place key f k (g y)) ys
  at_place-flat g [] = refl
  at_place-flat g (y ∷ ys) =
      at_place-append (g y) (flat_map g ys)
      ∙ ap (λ rest. at_place key f k (g y) ++ rest) (at_place-flat g ys)

-- no elements
abbrev pub nil : (A : Type 0) → List A
nil A = []

-- where nothing is given, nothing comes together
pub flat_nothing : {X : Type 0} (A : Type 0) (xs : List X) → flat_map (λ x. nil A) xs ≡ []
flat_nothing A [] = refl
flat_nothing A (x ∷ xs) = flat_nothing A xs

-- Joining what is of one place. This only connects the code to the demands of bindings.
use Rattle.std.specs.Prelude.{◌≡◌, List, [], ◌∷◌, ⊤, if◌then◌else◌}
use Rattle.std.specs.List.{AllByRecursion}
use Rattle.std.specs.declared.cmp.Ordering.TheVariants.{Less}
use Rattle.rn_arcs.specs.Places.{InstPlace, place_cmp, is_at}

-- each place stands before the later ones
abbrev pub Rising : {G : Type 0} → (G → InstPlace) → List G → Type 0
Rising place [] = ⊤
Rising place (g ∷ gs) =
    AllByRecursion (λ h. place_cmp (place g) (place h) ≡ Less) gs × Rising place gs

module _ {G X : Type 0} (place : G → InstPlace) (item_place : X → InstPlace) (first : X → G)
    (join : X → G → G) where
  -- An item joins the last group where that is of its own place, and else begins one after it.
  abbrev pub with_item : List G → X → List G
  with_item [] x = first x ∷ []
  with_item (g ∷ []) x =
      if is_at (place g) (item_place x) then join x g ∷ [] else g ∷ first x ∷ []
  with_item (g ∷ h ∷ gs) x = g ∷ with_item (h ∷ gs) x

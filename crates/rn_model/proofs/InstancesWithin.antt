-- Whether all instances of a value have numbers within the last, by the test of each.
use Rattle.std.proofs.Common.{◌≡◌, ℕ, Bool, List, [], ◌∷◌, map, refl, sym, ap, ◌∙◌, subst}
use Rattle.std.specs.Prelude.{◌&&◌}
use Rattle.std.specs.List.{list_all}
use Rattle.rn_value.specs.Names.{inst_within, instances_within, within_step}
use Rattle.rn_value.specs.declared.value.InstRef.{InstRef}
use Rattle.rn_value.specs.declared.value.Value.{Value, fold-roll-Value, ind-Value, map-Value}
use Rattle.rn_value.specs.declared.value.Value.TheOpen as V
use Rattle.rn_model.proofs.PassingInstances.{only, only_step}

module _ (last : ℕ) where
  abbrev pub is_low : InstRef → Bool
  is_low i = inst_within i last

  abbrev IsSame : Value → Type 0
  IsSame v = instances_within v last ≡ only is_low v

  abbrev Part : Type 0
  Part = (v : Value) × IsSame v

  parts_same : (parts : List Part) →
      list_all (λ within. within last) (map instances_within (map (λ e. e.0) parts))
      ≡ list_all (λ p. p) (map (only is_low) (map (λ e. e.0) parts))
  parts_same [] = refl
  parts_same (part ∷ parts) =
      ap (λ b. b && list_all (λ within. within last) (map instances_within (map (λ e. e.0) parts))) part.1
      ∙ ap (λ b. only is_low part.0 && b) (parts_same parts)

  abbrev LayerIsSame : V.Value-F Value → Type 0
  LayerIsSame x = within_step (map-Value Value (ℕ → Bool) instances_within x) last
      ≡ only_step is_low (map-Value Value Bool (only is_low) x)

  layer : (y : V.Value-F Part) → LayerIsSame (map-Value Part Value (λ e. e.0) y)
  layer (V.Int n) = refl
  layer (V.Text s) = refl
  layer (V.Tuple parts) = parts_same parts
  layer (V.List parts) = parts_same parts
  layer (V.Inst i) = refl

  pub within_is_only : (v : Value) → IsSame v
  within_is_only = ind-Value IsSame (λ x y is.
      ap (λ f. f last) (fold-roll-Value (ℕ → Bool) within_step x) ∙ subst LayerIsSame is (layer y)
      ∙ sym (fold-roll-Value Bool (only_step is_low) x))

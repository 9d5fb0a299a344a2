-- The text of a value by the names of its instances is the one where each instance is written so.
use Rattle.std.proofs.Common.{◌≡◌, ℕ, List, [], ◌∷◌, ◌++◌, map, refl, sym, ap, ◌∙◌, subst}
use Rattle.std.specs.List.{flat_map}
use Rattle.rn_value.specs.Text.{inst_text, row_text, text_step, value_text}
use Rattle.rn_value.specs.declared.value.InstRef.{InstRef}
use Rattle.rn_value.specs.declared.value.Value.{Value, out-Value, map-Value, fold_out-Value, fold-roll-Value, ind-Value}
use Rattle.rn_value.specs.declared.value.Value.TheVariants as Value
use Rattle.rn_value.specs.declared.value.Value.TheOpen as V
use Rattle.rn_model.specs.Firing.{renamed_value, renamed_step}
use Rattle.rn_spell.specs.Spelling.{spelled, spelled_row, spelled_step}

abbrev Spell : Type 0
Spell = (InstRef → List ℕ) → List ℕ

abbrev Write : Type 0
Write = List (List ℕ) → List ℕ

module _ (names : List (List ℕ)) where
  abbrev IsSame : Value → Type 0
  IsSame v = spelled v (inst_text names) ≡ value_text v names

  abbrev Part : Type 0
  Part = (v : Value) × IsSame v

  abbrev values : List Part → List Value
  values parts = map (λ e. e.0) parts

  tails_same : (parts : List Part) →
      flat_map (λ text. (44 ∷ []) ++ text (inst_text names)) (map spelled (values parts))
      ≡ flat_map (λ text. (44 ∷ []) ++ text names) (map value_text (values parts))
  tails_same [] = refl
  tails_same (part ∷ parts) =
      ap (λ text. (44 ∷ text) ++ flat_map (λ text. (44 ∷ []) ++ text (inst_text names)) (map spelled (values parts))) part.1
      ∙ ap (λ rest. (44 ∷ value_text part.0 names) ++ rest) (tails_same parts)

  rows_same : (parts : List Part) →
      spelled_row (map spelled (values parts)) (inst_text names)
      ≡ row_text (map value_text (values parts)) names
  rows_same [] = refl
  rows_same (part ∷ parts) =
      ap (λ text. text ++ flat_map (λ text. (44 ∷ []) ++ text (inst_text names)) (map spelled (values parts))) part.1
      ∙ ap (λ rest. value_text part.0 names ++ rest) (tails_same parts)

  abbrev LayerIsSame : V.Value-F Value → Type 0
  LayerIsSame x = spelled_step (map-Value Value Spell spelled x) (inst_text names)
      ≡ text_step (map-Value Value Write value_text x) names

  layer : (y : V.Value-F Part) → LayerIsSame (map-Value Part Value (λ e. e.0) y)
  layer (V.Int n) = refl
  layer (V.Text s) = refl
  layer (V.Tuple parts) = ap (λ row. 91 ∷ row ++ 93 ∷ []) (rows_same parts)
  layer (V.List parts) = ap (λ row. 123 ∷ row ++ 125 ∷ []) (rows_same parts)
  layer (V.Inst i) = refl

  same : (v : Value) → IsSame v
  same = ind-Value IsSame (λ x y is.
      ap (λ f. f (inst_text names)) (fold-roll-Value Spell spelled_step x)
      ∙ subst LayerIsSame is (layer y)
      ∙ sym (ap (λ f. f names) (fold-roll-Value Write text_step x)))

-- A value is spelled with these names as it is written with them.
pub spelled_names : (v : Value) (names : List (List ℕ)) → spelled v (inst_text names) ≡ value_text v names
spelled_names v names = same names v

module _ (r : InstRef → InstRef) (inst : InstRef → List ℕ) where
  abbrev renamed_inst : InstRef → List ℕ
  renamed_inst i = inst (r i)

  abbrev IsRenamed : Value → Type 0
  IsRenamed v = spelled v renamed_inst ≡ spelled (renamed_value v r) inst

  abbrev RenamedPart : Type 0
  RenamedPart = (v : Value) × IsRenamed v

  abbrev all_of : List RenamedPart → List Value
  all_of parts = map (λ e. e.0) parts

  abbrev all_renamed : List RenamedPart → List Value
  all_renamed parts = map (λ part. part r) (map renamed_value (all_of parts))

  tails_renamed : (parts : List RenamedPart) →
      flat_map (λ text. (44 ∷ []) ++ text renamed_inst) (map spelled (all_of parts))
      ≡ flat_map (λ text. (44 ∷ []) ++ text inst) (map spelled (all_renamed parts))
  tails_renamed [] = refl
  tails_renamed (part ∷ parts) =
      ap (λ text. (44 ∷ text) ++ flat_map (λ text. (44 ∷ []) ++ text renamed_inst) (map spelled (all_of parts))) part.1
      ∙ ap (λ rest. (44 ∷ spelled (renamed_value part.0 r) inst) ++ rest) (tails_renamed parts)

  rows_renamed : (parts : List RenamedPart) →
      spelled_row (map spelled (all_of parts)) renamed_inst
      ≡ spelled_row (map spelled (all_renamed parts)) inst
  rows_renamed [] = refl
  rows_renamed (part ∷ parts) =
      ap (λ text. text ++ flat_map (λ text. (44 ∷ []) ++ text renamed_inst) (map spelled (all_of parts))) part.1
      ∙ ap (λ rest. spelled (renamed_value part.0 r) inst ++ rest) (tails_renamed parts)

  abbrev LayerIsRenamed : V.Value-F Value → Type 0
  LayerIsRenamed x = spelled_step (map-Value Value Spell spelled x) renamed_inst
      ≡ spelled (renamed_step (map-Value Value ((InstRef → InstRef) → Value) renamed_value x) r) inst

  out : (v : Value) → spelled v inst ≡ spelled_step (map-Value Value Spell spelled (out-Value v)) inst
  out v = ap (λ f. f inst) (fold_out-Value Spell spelled_step v)

  layer_renamed : (y : V.Value-F RenamedPart) → LayerIsRenamed (map-Value RenamedPart Value (λ e. e.0) y)
  layer_renamed (V.Int n) = sym (out (Value.Int n) ∙ rw (Value.outs-Int n) refl)
  layer_renamed (V.Text s) = sym (out (Value.Text s) ∙ rw (Value.outs-Text s) refl)
  layer_renamed (V.Tuple parts) =
      ap (λ row. 91 ∷ row ++ 93 ∷ []) (rows_renamed parts)
      ∙ sym (out (Value.Tuple (all_renamed parts)) ∙ rw (Value.outs-Tuple (all_renamed parts)) refl)
  layer_renamed (V.List parts) =
      ap (λ row. 123 ∷ row ++ 125 ∷ []) (rows_renamed parts)
      ∙ sym (out (Value.List (all_renamed parts)) ∙ rw (Value.outs-List (all_renamed parts)) refl)
  layer_renamed (V.Inst i) = sym (out (Value.Inst (r i)) ∙ rw (Value.outs-Inst (r i)) refl)

  renamed_same : (v : Value) → IsRenamed v
  renamed_same = ind-Value IsRenamed (λ x y is.
      ap (λ f. f renamed_inst) (fold-roll-Value Spell spelled_step x)
      ∙ subst LayerIsRenamed is (layer_renamed y)
      ∙ sym (ap (λ f. spelled (f r) inst) (fold-roll-Value ((InstRef → InstRef) → Value) renamed_step x)))

-- A value whose instances are spelled by their new names is the renamed value, written with the names.
pub spelled_renamed : (v : Value) (r : InstRef → InstRef) (names : List (List ℕ)) → spelled v (λ i. inst_text names (r i)) ≡ value_text (renamed_value v r) names
spelled_renamed v r names = renamed_same r (inst_text names) v ∙ spelled_names (renamed_value v r) names

-- Values whose instances return after two renamings.
use Rattle.std.proofs.Common.{◌≡◌, Bool, true, List, [], ◌∷◌, map, refl, sym, ap, ◌∙◌, subst}
use Rattle.std.specs.List.{list_all}
use Rattle.rn_items.proofs.Bools.{both_true}
use Rattle.rn_value.specs.declared.value.InstRef.{InstRef}
use Rattle.rn_value.specs.declared.value.Value.{Value, fold-roll-Value, ind-Value, map-Value, roll-Value}
use Rattle.rn_value.specs.declared.value.Value.TheOpen as V
use Rattle.rn_value.specs.declared.value.Value.TheVariants as Value
use Rattle.rn_model.specs.Firing.{renamed_step, renamed_value}
use Rattle.rn_model.proofs.NamingRules.{renamed_value-Int, renamed_value-Inst}
use Rattle.rn_model.proofs.PassingInstances.{only, only_step}
use Rattle.rn_model.proofs.NumberedInstances.{renamed-List, renamed-Text, renamed-Tuple}

-- Where each instance that passes returns, so does a value in which all pass.
module _ (test : InstRef → Bool) (f g : InstRef → InstRef) (back : (i : InstRef) → test i ≡ true → g (f i) ≡ i) where
  abbrev Returns : Value → Type 0
  Returns v = only test v ≡ true → renamed_value (renamed_value v f) g ≡ v

  abbrev ReturnPart : Type 0
  ReturnPart = (v : Value) × Returns v

  parts_return : (parts : List ReturnPart) → list_all (λ p. p) (map (only test) (map (λ e. e.0) parts)) ≡ true →
      map (λ v. renamed_value v g) (map (λ part. part f) (map renamed_value (map (λ e. e.0) parts))) ≡ map (λ e. e.0) parts
  parts_return [] e = refl
  parts_return (part ∷ parts) e =
      let vs : List Value = map (λ e. e.0) parts in
      let both = both_true (only test part.0) (list_all (λ p. p) (map (only test) vs)) e in
      ap (λ v. v ∷ map (λ v. renamed_value v g) (map (λ part. part f) (map renamed_value vs))) (part.1 both.0)
      ∙ ap (λ ws. part.0 ∷ ws) (parts_return parts both.1)

  abbrev LayerReturns : V.Value-F Value → Type 0
  LayerReturns x = only_step test (map-Value Value Bool (only test) x) ≡ true →
      renamed_value (renamed_step (map-Value Value ((InstRef → InstRef) → Value) renamed_value x) f) g ≡ roll-Value x

  return_layer : (y : V.Value-F ReturnPart) → LayerReturns (map-Value ReturnPart Value (λ e. e.0) y)
  return_layer (V.Int n) e = renamed_value-Int n g ∙ sym (Value.rolls-Int n)
  return_layer (V.Text s) e = renamed-Text s g ∙ sym (Value.rolls-Text s)
  return_layer (V.Tuple parts) e =
      let vs : List Value = map (λ e. e.0) parts in
      renamed-Tuple (map (λ part. part f) (map renamed_value vs)) g
      ∙ ap (λ ws. Value.Tuple ws) (parts_return parts e) ∙ sym (Value.rolls-Tuple vs)
  return_layer (V.List parts) e =
      let vs : List Value = map (λ e. e.0) parts in
      renamed-List (map (λ part. part f) (map renamed_value vs)) g
      ∙ ap (λ ws. Value.List ws) (parts_return parts e) ∙ sym (Value.rolls-List vs)
  return_layer (V.Inst i) e = renamed_value-Inst (f i) g ∙ ap (λ j. Value.Inst j) (back i e) ∙ sym (Value.rolls-Inst i)

  pub value_returns : (v : Value) → Returns v
  value_returns = ind-Value Returns (λ x y is e.
      ap (λ h. renamed_value (h f) g) (fold-roll-Value ((InstRef → InstRef) → Value) renamed_step x)
      ∙ subst LayerReturns is (return_layer y) (sym (fold-roll-Value Bool (only_step test) x) ∙ e))

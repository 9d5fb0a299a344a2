-- Values that hold no new instance stay as they are where new instances are renamed.
use Rattle.std.proofs.Common.{◌≡◌, ℕ, Bool, false, List, [], ◌∷◌, map, refl, sym, ap, ◌∙◌, subst}
use Rattle.std.specs.List.{list_any}
use Rattle.std.proofs.lemmas.Bool.{or_parts}
use Rattle.rn_value.specs.declared.value.InstRef.{InstRef}
use Rattle.rn_value.specs.declared.value.InstRef.TheVariants.{Old, New}
use Rattle.rn_value.specs.declared.value.Value.{Value, roll-Value, map-Value, fold-roll-Value, ind-Value}
use Rattle.rn_value.specs.declared.value.Value.TheVariants as Value
use Rattle.rn_value.specs.declared.value.Value.TheOpen as V
use Rattle.rn_model.specs.SoundTokens.{holds_new, new_in_step}
use Rattle.rn_model.specs.Firing.{renamed_value}
use Rattle.rn_model.specs.declared.numbers.Numbers.{Numbers}
use Rattle.rn_model.specs.Numbers.{numbered_by}
use Rattle.rn_model.proofs.ReplacedValues.{replaced, replaced_step, renamed_is_replaced}

module _ (name : InstRef → InstRef) (old : (n : ℕ) → name (Old n) ≡ Old n) where
  abbrev put : InstRef → Value
  put i = Value.Inst (name i)

  abbrev rep : Value → Value
  rep = replaced put

  abbrev IsStill : Value → Type 0
  IsStill v = holds_new v ≡ false → rep v ≡ v

  abbrev StillPart : Type 0
  StillPart = (v : Value) × IsStill v

  abbrev values : List StillPart → List Value
  values parts = map (λ e. e.0) parts

  parts_still : (parts : List StillPart) →
      list_any (λ h. h) (map holds_new (values parts)) ≡ false →
      map rep (values parts) ≡ values parts
  parts_still [] e = refl
  parts_still (part ∷ parts) e =
      let both = or_parts (holds_new part.0) (list_any (λ h. h) (map holds_new (values parts))) e in
      ap (λ v. v ∷ map rep (values parts)) (part.1 both.0)
      ∙ ap (λ vs. part.0 ∷ vs) (parts_still parts both.1)

  abbrev LayerIsStill : V.Value-F Value → Type 0
  LayerIsStill x = new_in_step (map-Value Value Bool holds_new x) ≡ false →
      replaced_step put (map-Value Value Value rep x) ≡ roll-Value x

  still_layer : (y : V.Value-F StillPart) →
      LayerIsStill (map-Value StillPart Value (λ e. e.0) y)
  still_layer (V.Int n) e = sym (Value.rolls-Int n)
  still_layer (V.Text s) e = sym (Value.rolls-Text s)
  still_layer (V.Tuple parts) e =
      ap (λ vs. Value.Tuple vs) (parts_still parts e) ∙ sym (Value.rolls-Tuple (values parts))
  still_layer (V.List parts) e =
      ap (λ vs. Value.List vs) (parts_still parts e) ∙ sym (Value.rolls-List (values parts))
  still_layer (V.Inst (Old n)) e = ap (λ i. Value.Inst i) (old n) ∙ sym (Value.rolls-Inst (Old n))
  still_layer (V.Inst (New path j)) e = absurd (let no : ⊥ = cc in no)

  pub replaced_is_still : (v : Value) → holds_new v ≡ false → replaced (λ i. Value.Inst (name i)) v ≡ v
  replaced_is_still = ind-Value IsStill (λ x y is e.
      fold-roll-Value Value (replaced_step put) x
      ∙ subst LayerIsStill is (still_layer y) (sym (fold-roll-Value Bool new_in_step x) ∙ e))

  pub renamed_is_still : (v : Value) → holds_new v ≡ false → renamed_value v name ≡ v
  renamed_is_still v e = renamed_is_replaced name v ∙ replaced_is_still v e

-- so it is where creations get their numbers
pub numbered_is_still : (v : Value) (numbers : Numbers) → holds_new v ≡ false → renamed_value v (numbered_by numbers) ≡ v
numbered_is_still v numbers e = renamed_is_still (numbered_by numbers) (λ n. refl) v e

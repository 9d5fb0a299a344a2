-- Values with each instance in them replaced by a value.
use Rattle.std.proofs.Common.{◌≡◌, ℕ, ℤ, List, [], ◌∷◌, ◌++◌, map, refl, sym, ap, ◌∙◌, subst}
use Rattle.std.proofs.lemmas.List.{map-append}
use Rattle.std.specs.Prelude.{Option, Some, None, option_map}
use Rattle.rn_value.specs.declared.value.InstRef.{InstRef}
use Rattle.rn_value.specs.declared.value.Value.{Value, out-Value, map-Value, fold-Value, fold_out-Value, fold-roll-Value, ind-Value}
use Rattle.rn_value.specs.declared.value.Value.TheVariants as Value
use Rattle.rn_value.specs.declared.value.Value.TheOpen as V
use Rattle.rn_model.specs.Evaluation.{int_of, int_step, list_of, list_step, list_onto}
use Rattle.rn_model.specs.Firing.{renamed_value, renamed_step}
use Rattle.rn_model.proofs.EvaluationLemmas.{int_of-Int, list_of-List}

module _ (put : InstRef → Value) where
  -- one value, with its parts as they are once their instances are replaced
  abbrev pub replaced_step : V.Value-F Value → Value
  replaced_step (V.Int n) = Value.Int n
  replaced_step (V.Text s) = Value.Text s
  replaced_step (V.Tuple parts) = Value.Tuple parts
  replaced_step (V.List parts) = Value.List parts
  replaced_step (V.Inst i) = put i

  -- a value with each instance in it replaced
  abbrev pub replaced : Value → Value
  replaced = fold-Value Value replaced_step

  out : (v : Value) → replaced v ≡ replaced_step (map-Value Value Value replaced (out-Value v))
  out v = fold_out-Value Value replaced_step v

  -- a value of each form, with its instances replaced
  pub replaced-Int : (n : ℤ) → replaced (Value.Int n) ≡ Value.Int n
  replaced-Int n = out (Value.Int n) ∙ rw (Value.outs-Int n)

  pub replaced-Text : (s : List ℕ) → replaced (Value.Text s) ≡ Value.Text s
  replaced-Text s = out (Value.Text s) ∙ rw (Value.outs-Text s)

  pub replaced-Tuple : (vs : List Value) → replaced (Value.Tuple vs) ≡ Value.Tuple (map replaced vs)
  replaced-Tuple vs = out (Value.Tuple vs) ∙ rw (Value.outs-Tuple vs)

  pub replaced-List : (vs : List Value) → replaced (Value.List vs) ≡ Value.List (map replaced vs)
  replaced-List vs = out (Value.List vs) ∙ rw (Value.outs-List vs)

  pub replaced-Inst : (i : InstRef) → replaced (Value.Inst i) ≡ put i
  replaced-Inst i = out (Value.Inst i) ∙ rw (Value.outs-Inst i)

-- What stands in an instance's place is no number and no list.
pub record IsPlain (put : InstRef → Value) : Type 0 where
  pub ints : (i : InstRef) → int_of (put i) ≡ None
  pub lists : (i : InstRef) → list_of (put i) ≡ None

module _ (put : InstRef → Value) (plain : IsPlain put) where
  abbrev rep : Value → Value
  rep = replaced put

  list_layer : (x : V.Value-F Value) → list_of (replaced_step put (map-Value Value Value rep x)) ≡ option_map (map rep) (list_step x)
  list_layer (V.Int n) = rw (Value.outs-Int n)
  list_layer (V.Text s) = rw (Value.outs-Text s)
  list_layer (V.Tuple parts) = rw (Value.outs-Tuple (map rep parts))
  list_layer (V.List parts) = list_of-List (map rep parts)
  list_layer (V.Inst i) = plain.lists i

  -- lists stay lists, and nothing else becomes one
  pub list_of-replaced : (v : Value) → list_of (replaced put v) ≡ option_map (map (replaced put)) (list_of v)
  list_of-replaced v = ap list_of (fold_out-Value Value (replaced_step put) v) ∙ list_layer (out-Value v)

  int_layer : (x : V.Value-F Value) → int_of (replaced_step put (map-Value Value Value rep x)) ≡ int_step x
  int_layer (V.Int n) = int_of-Int n
  int_layer (V.Text s) = rw (Value.outs-Text s)
  int_layer (V.Tuple parts) = rw (Value.outs-Tuple (map rep parts))
  int_layer (V.List parts) = rw (Value.outs-List (map rep parts))
  int_layer (V.Inst i) = plain.ints i

  -- whole numbers stay as they are, and nothing else becomes one
  pub int_of-replaced : (v : Value) → int_of (replaced put v) ≡ int_of v
  int_of-replaced v = ap int_of (fold_out-Value Value (replaced_step put) v) ∙ int_layer (out-Value v)

  onto_some : (vs : List Value) (o : Option (List Value)) → option_map (λ others. Value.List (map rep vs ++ others)) (option_map (map rep) o) ≡ option_map rep (option_map (λ others. Value.List (vs ++ others)) o)
  onto_some vs None = refl
  onto_some vs (Some others) = ap Some (ap (λ ws. Value.List ws) (sym (map-append rep vs others)) ∙ sym (replaced-List put (vs ++ others)))

  -- a list that others go onto is replaced element by element
  pub list_onto-replaced : (vs : List Value) (w : Value) → list_onto (map (replaced put) vs) (replaced put w) ≡ option_map (replaced put) (list_onto vs w)
  list_onto-replaced vs w = ap (λ o. option_map (λ others. Value.List (map rep vs ++ others)) o) (list_of-replaced w) ∙ onto_some vs (list_of w)

-- Renaming instances is replacing each by its new name.
abbrev IsRenamed : (InstRef → InstRef) → Value → Type 0
IsRenamed name v = renamed_value v name ≡ replaced (λ i. Value.Inst (name i)) v

abbrev Part : (InstRef → InstRef) → Type 0
Part name = (v : Value) × IsRenamed name v

parts_renamed : (name : InstRef → InstRef) (parts : List (Part name)) → map (λ part. part name) (map renamed_value (map (λ e. e.0) parts)) ≡ map (replaced (λ i. Value.Inst (name i))) (map (λ e. e.0) parts)
parts_renamed name [] = refl
parts_renamed name (part ∷ parts) = ap (λ v. v ∷ map (λ part. part name) (map renamed_value (map (λ e. e.0) parts))) part.1 ∙ ap (λ vs. replaced (λ i. Value.Inst (name i)) part.0 ∷ vs) (parts_renamed name parts)

abbrev LayerIsRenamed : (InstRef → InstRef) → V.Value-F Value → Type 0
LayerIsRenamed name x = renamed_step (map-Value Value ((InstRef → InstRef) → Value) renamed_value x) name ≡ replaced_step (λ i. Value.Inst (name i)) (map-Value Value Value (replaced (λ i. Value.Inst (name i))) x)

renamed_layer : (name : InstRef → InstRef) (y : V.Value-F (Part name)) → LayerIsRenamed name (map-Value (Part name) Value (λ e. e.0) y)
renamed_layer name (V.Int n) = refl
renamed_layer name (V.Text s) = refl
renamed_layer name (V.Tuple parts) = ap (λ vs. Value.Tuple vs) (parts_renamed name parts)
renamed_layer name (V.List parts) = ap (λ vs. Value.List vs) (parts_renamed name parts)
renamed_layer name (V.Inst i) = refl

-- a renamed value is the value with each instance replaced by its new name
pub renamed_is_replaced : (name : InstRef → InstRef) (v : Value) → renamed_value v name ≡ replaced (λ i. Value.Inst (name i)) v
renamed_is_replaced name = ind-Value (IsRenamed name) (λ x y is.
    ap (λ f. f name) (fold-roll-Value ((InstRef → InstRef) → Value) renamed_step x)
    ∙ subst (LayerIsRenamed name) is (renamed_layer name y)
    ∙ sym (fold-roll-Value Value (replaced_step (λ i. Value.Inst (name i))) x))

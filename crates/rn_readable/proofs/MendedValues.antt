-- Values with each number that hasn't 64 bits, and each text that isn't UTF-8, replaced by one
-- that can be read again. A value is fine where nothing is replaced in it.
use Rattle.std.proofs.Common.{◌≡◌, ℕ, ℤ, pos, zero, suc, ◌≤◌, Bool, true, false, List, []}
use Rattle.std.proofs.Common.{◌∷◌, ◌++◌, map, refl, sym, ap, ◌∙◌, subst, arith}
use Rattle.std.specs.Prelude.{Option, Some, None, Contains, option_map, unwrap_or, max, fold}
use Rattle.std.specs.List.{list_all}
use Rattle.std.specs.Str.{is_utf8}
use Rattle.std.proofs.lemmas.List.{map-append}
use Rattle.std.proofs.lemmas.Option.{same_Some}
use Rattle.std.proofs.lemmas.Str.{is_utf8-from_IsUtf8, IsUtf8-nil}
use Rattle.rn_items.proofs.Bools.{true_both}
use Rattle.rn_value.specs.declared.value.InstRef.{InstRef}
use Rattle.rn_value.specs.declared.value.Value.{Value, out-Value, roll-Value, map-Value}
use Rattle.rn_value.specs.declared.value.Value.{fold-Value}
use Rattle.rn_value.specs.declared.value.Value.{fold_out-Value, fold-roll-Value, roll-out-Value}
use Rattle.rn_value.specs.declared.value.Value.{ind-Value}
use Rattle.rn_value.specs.declared.value.Value.TheVariants as Value
use Rattle.rn_value.specs.declared.value.Value.TheOpen as V
use Rattle.rn_model.specs.Demands.{elements, puts}
use Rattle.rn_model.specs.Evaluation.{list_of, list_step, list_onto}
use Rattle.rn_model.specs.Firing.{renamed_value}
use Rattle.rn_model.specs.Kinds.{value_depth, value_depth_step}
use Rattle.rn_model.specs.declared.system.ArcKind.{ArcKind}
use Rattle.rn_model.specs.declared.system.ArcKind.TheVariants.{Input, Output, Test, Reserve}
use Rattle.rn_model.specs.declared.system.ArcKind.TheVariants.{FlexInput, FlexOutput, Inhibit}
use Rattle.rn_model.specs.declared.system.ArcKind.TheVariants.{Clear}
use Rattle.rn_model.proofs.AskedValues.{later}
use Rattle.rn_model.proofs.EnablingLemmas.{not_in_nil, the_one}
use Rattle.rn_model.proofs.EvaluationLemmas.{list_of-List}
use Rattle.rn_model.proofs.ReplacedValues.{replaced, replaced_step, replaced-Int, replaced-Text}
use Rattle.rn_model.proofs.ReplacedValues.{replaced-Tuple, replaced-List, replaced-Inst}
use Rattle.rn_model.proofs.ReplacedValues.{renamed_is_replaced}
use Rattle.rn_lines.specs.Laws.{has_sixty_four_bits}
use Rattle.rn_record_reader.specs.Readable.{readable_step, readable_within}

abbrev pub mended_int : Bool → ℤ → Value
mended_int true n = Value.Int n
mended_int false n = Value.Int (pos 0)

abbrev pub mended_text : Bool → List ℕ → Value
mended_text true s = Value.Text s
mended_text false s = Value.Text []

-- one value, with its parts as they are once they are mended
abbrev pub mended_step : V.Value-F Value → Value
mended_step (V.Int n) = mended_int (has_sixty_four_bits n) n
mended_step (V.Text s) = mended_text (is_utf8 s) s
mended_step (V.Tuple parts) = Value.Tuple parts
mended_step (V.List parts) = Value.List parts
mended_step (V.Inst i) = Value.Inst i

-- a value with what can't be read again replaced, but for its depth
abbrev pub mended : Value → Value
mended = fold-Value Value mended_step

-- nothing in it is replaced
abbrev pub IsFine : Value → Type 0
IsFine v = mended v ≡ v

out : (v : Value) → mended v ≡ mended_step (map-Value Value Value mended (out-Value v))
out v = fold_out-Value Value mended_step v

pub mended-Int : (n : ℤ) → mended (Value.Int n) ≡ mended_int (has_sixty_four_bits n) n
mended-Int n = out (Value.Int n) ∙ rw (Value.outs-Int n)

pub mended-Text : (s : List ℕ) → mended (Value.Text s) ≡ mended_text (is_utf8 s) s
mended-Text s = out (Value.Text s) ∙ rw (Value.outs-Text s)

pub mended-Tuple : (vs : List Value) → mended (Value.Tuple vs) ≡ Value.Tuple (map mended vs)
mended-Tuple vs = out (Value.Tuple vs) ∙ rw (Value.outs-Tuple vs)

pub mended-List : (vs : List Value) → mended (Value.List vs) ≡ Value.List (map mended vs)
mended-List vs = out (Value.List vs) ∙ rw (Value.outs-List vs)

pub mended-Inst : (i : InstRef) → IsFine (Value.Inst i)
mended-Inst i = out (Value.Inst i) ∙ rw (Value.outs-Inst i)

pub int_is_fine : (n : ℤ) → has_sixty_four_bits n ≡ true → IsFine (Value.Int n)
int_is_fine n e = mended-Int n ∙ ap (λ bits. mended_int bits n) e

pub text_is_fine : (s : List ℕ) → is_utf8 s ≡ true → IsFine (Value.Text s)
text_is_fine s e = mended-Text s ∙ ap (λ good. mended_text good s) e

-- lists of values that are fine
pub each_is_fine : (vs : List Value) → map mended vs ≡ vs → (v : Value) → Contains vs v → IsFine v
each_is_fine [] e v there = absurd (not_in_nil v there)
each_is_fine (w ∷ vs) e v (zero, h, is) =
    let first : mended w ≡ w = cc in
    subst IsFine is first
each_is_fine (w ∷ vs) e v (suc k, h, is) =
    let others : map mended vs ≡ vs = cc in
    each_is_fine vs others v (k, omega (arith, h), is)

pub all_are_fine : (vs : List Value) → ((v : Value) → Contains vs v → IsFine v) →
    map mended vs ≡ vs
all_are_fine [] f = refl
all_are_fine (v ∷ vs) f =
    ap (λ u. u ∷ map mended vs) (f v (0, omega arith, refl))
    ∙ ap (λ us. v ∷ us) (all_are_fine vs (λ w there. f w (later v w vs there)))

int_no_list : (bits : Bool) (n : ℤ) → list_of (mended_int bits n) ≡ None
int_no_list true n = rw (Value.outs-Int n)
int_no_list false n = rw (Value.outs-Int (pos 0))

text_no_list : (good : Bool) (s : List ℕ) → list_of (mended_text good s) ≡ None
text_no_list true s = rw (Value.outs-Text s)
text_no_list false s = rw (Value.outs-Text [])

list_layer : (x : V.Value-F Value) →
    list_of (mended_step (map-Value Value Value mended x)) ≡ option_map (map mended) (list_step x)
list_layer (V.Int n) = int_no_list (has_sixty_four_bits n) n
list_layer (V.Text s) = text_no_list (is_utf8 s) s
list_layer (V.Tuple parts) = rw (Value.outs-Tuple (map mended parts))
list_layer (V.List parts) = list_of-List (map mended parts)
list_layer (V.Inst i) = rw (Value.outs-Inst i)

-- lists stay lists, and nothing else becomes one
pub list_of-mended : (v : Value) → list_of (mended v) ≡ option_map (map mended) (list_of v)
list_of-mended v = ap list_of (out v) ∙ list_layer (out-Value v)

onto_some : (vs : List Value) (o : Option (List Value)) →
    option_map (λ others. Value.List (map mended vs ++ others)) (option_map (map mended) o)
    ≡ option_map mended (option_map (λ others. Value.List (vs ++ others)) o)
onto_some vs None = refl
onto_some vs (Some others) =
    ap Some (ap (λ ws. Value.List ws) (sym (map-append mended vs others))
    ∙ sym (mended-List (vs ++ others)))

-- a list that others go onto is mended element by element
pub list_onto-mended : (vs : List Value) (w : Value) →
    list_onto (map mended vs) (mended w) ≡ option_map mended (list_onto vs w)
list_onto-mended vs w =
    ap (λ o. option_map (λ others. Value.List (map mended vs ++ others)) o) (list_of-mended w)
    ∙ onto_some vs (list_of w)

-- the elements of a list that is fine
elements_of : (o : Option (List Value)) → option_map (map mended) o ≡ o →
    map mended (unwrap_or o []) ≡ unwrap_or o []
elements_of None e = refl
elements_of (Some vs) e = same_Some (map mended vs) vs e

pub elements_are_fine : (w v : Value) → IsFine w → Contains (elements w) v → IsFine v
elements_are_fine w v fine there =
    each_is_fine (elements w)
    (elements_of (list_of w) (sym (list_of-mended w) ∙ ap list_of fine)) v there

pub each_put_is_fine : (kind : ArcKind) (w v : Value) → IsFine w → Contains (puts kind w) v →
    IsFine v
each_put_is_fine Output w v e there = subst IsFine (the_one w v there) e
each_put_is_fine Reserve w v e there = subst IsFine (the_one w v there) e
each_put_is_fine FlexOutput w v e there = elements_are_fine w v e there
each_put_is_fine Input w v e there = absurd (not_in_nil v there)
each_put_is_fine Test w v e there = absurd (not_in_nil v there)
each_put_is_fine FlexInput w v e there = absurd (not_in_nil v there)
each_put_is_fine Inhibit w v e there = absurd (not_in_nil v there)
each_put_is_fine Clear w v e there = absurd (not_in_nil v there)

-- a value that is the list of these
list_form : (x : V.Value-F Value) (vs : List Value) → list_step x ≡ Some vs → x ≡ V.List vs
list_form (V.List ws) vs e = ap (λ us. V.List us) (same_Some ws vs e)
list_form (V.Int n) vs e = absurd (let no : ⊥ = cc in no)
list_form (V.Text s) vs e = absurd (let no : ⊥ = cc in no)
list_form (V.Tuple ws) vs e = absurd (let no : ⊥ = cc in no)
list_form (V.Inst i) vs e = absurd (let no : ⊥ = cc in no)

pub listed : (w : Value) (vs : List Value) → list_of w ≡ Some vs → w ≡ Value.List vs
listed w vs e =
    sym (roll-out-Value w) ∙ ap (λ x. roll-Value x) (list_form (out-Value w) vs e)
    ∙ Value.rolls-List vs

-- Renaming instances leaves a value fine.
module _ (name : InstRef → InstRef) where
  abbrev rename : Value → Value
  rename = replaced (λ i. Value.Inst (name i))

  abbrev Commutes : Value → Type 0
  Commutes v = mended (rename v) ≡ rename (mended v)

  abbrev Part : Type 0
  Part = (v : Value) × Commutes v

  abbrev heads : List Part → List Value
  heads parts = map (λ e. e.0) parts

  parts_commute : (parts : List Part) →
      map mended (map rename (heads parts)) ≡ map rename (map mended (heads parts))
  parts_commute [] = refl
  parts_commute (part ∷ parts) =
      ap (λ v. v ∷ map mended (map rename (heads parts))) part.1
      ∙ ap (λ vs. rename (mended part.0) ∷ vs) (parts_commute parts)

  int_stays : (bits : Bool) (n : ℤ) → rename (mended_int bits n) ≡ mended_int bits n
  int_stays true n = replaced-Int (λ i. Value.Inst (name i)) n
  int_stays false n = replaced-Int (λ i. Value.Inst (name i)) (pos 0)

  text_stays : (good : Bool) (s : List ℕ) → rename (mended_text good s) ≡ mended_text good s
  text_stays true s = replaced-Text (λ i. Value.Inst (name i)) s
  text_stays false s = replaced-Text (λ i. Value.Inst (name i)) []

  abbrev LayerCommutes : V.Value-F Value → Type 0
  LayerCommutes x =
      mended (replaced_step (λ i. Value.Inst (name i)) (map-Value Value Value rename x))
      ≡ rename (mended_step (map-Value Value Value mended x))

  layer : (y : V.Value-F Part) → LayerCommutes (map-Value Part Value (λ e. e.0) y)
  layer (V.Int n) = mended-Int n ∙ sym (int_stays (has_sixty_four_bits n) n)
  layer (V.Text s) = mended-Text s ∙ sym (text_stays (is_utf8 s) s)
  layer (V.Tuple parts) =
      mended-Tuple (map rename (heads parts)) ∙ ap (λ vs. Value.Tuple vs) (parts_commute parts)
      ∙ sym (replaced-Tuple (λ i. Value.Inst (name i)) (map mended (heads parts)))
  layer (V.List parts) =
      mended-List (map rename (heads parts)) ∙ ap (λ vs. Value.List vs) (parts_commute parts)
      ∙ sym (replaced-List (λ i. Value.Inst (name i)) (map mended (heads parts)))
  layer (V.Inst i) = mended-Inst (name i) ∙ sym (replaced-Inst (λ i. Value.Inst (name i)) i)

  commutes : (v : Value) → Commutes v
  commutes = ind-Value Commutes (λ x y is.
      ap mended (fold-roll-Value Value (replaced_step (λ i. Value.Inst (name i))) x)
      ∙ subst LayerCommutes is (layer y)
      ∙ ap rename (sym (fold-roll-Value Value mended_step x)))

  pub renamed_is_fine : (v : Value) → IsFine v → IsFine (renamed_value v name)
  renamed_is_fine v fine =
      let same = renamed_is_replaced name v in
      ap mended same ∙ commutes v ∙ ap rename fine ∙ sym same

-- A value that is fine can be read again with as many open brackets as it has.
pub first_within : (xs : List ℕ) (first d : ℕ) → fold max first xs ≤ d → first ≤ d
first_within [] first d h = h
first_within (x ∷ xs) first d h =
    let next = first_within xs (max first x) d h in
    omega (arith, next)

within_out : (v : Value) (x : V.Value-F Value) (d : ℕ) → out-Value v ≡ x →
    readable_within v d ≡ readable_step (map-Value Value (ℕ → Bool) readable_within x) d
within_out v x d is =
    ap (λ f. f d) (fold_out-Value (ℕ → Bool) readable_step v)
    ∙ ap (λ x. readable_step (map-Value Value (ℕ → Bool) readable_within x) d) is

int_within : (n : ℤ) (bits : Bool) (d : ℕ) → has_sixty_four_bits n ≡ bits →
    readable_within (mended_int bits n) d ≡ true
int_within n true d e = within_out (Value.Int n) (V.Int n) d (Value.outs-Int n) ∙ e
int_within n false d e = within_out (Value.Int (pos 0)) (V.Int (pos 0)) d (Value.outs-Int (pos 0))

text_within : (s : List ℕ) (good : Bool) (d : ℕ) → is_utf8 s ≡ good →
    readable_within (mended_text good s) d ≡ true
text_within s true d e = within_out (Value.Text s) (V.Text s) d (Value.outs-Text s) ∙ e
text_within s false d e =
    within_out (Value.Text []) (V.Text []) d (Value.outs-Text [])
    ∙ is_utf8-from_IsUtf8 [] IsUtf8-nil

abbrev Within : Value → Type 0
Within v = (d : ℕ) → value_depth v ≤ d → readable_within (mended v) d ≡ true

abbrev WithinPart : Type 0
WithinPart = (v : Value) × Within v

abbrev values : List WithinPart → List Value
values parts = map (λ e. e.0) parts

parts_within : (parts : List WithinPart) (first d : ℕ) →
    fold max first (map value_depth (values parts)) ≤ d →
    list_all (λ readable. readable d) (map readable_within (map mended (values parts))) ≡ true
parts_within [] first d h = refl
parts_within (part ∷ parts) first d h =
    let next = max first (value_depth part.0) in
    let low = first_within (map value_depth (values parts)) next d h in
    true_both (readable_within (mended part.0) d)
    (list_all (λ readable. readable d) (map readable_within (map mended (values parts))))
    (part.1 d (omega (arith, low))) (parts_within parts next d h)

abbrev LayerWithin : V.Value-F Value → Type 0
LayerWithin x = (d : ℕ) → value_depth_step (map-Value Value ℕ value_depth x) ≤ d →
    readable_within (mended_step (map-Value Value Value mended x)) d ≡ true

within_layer : (y : V.Value-F WithinPart) → LayerWithin (map-Value WithinPart Value (λ e. e.0) y)
within_layer (V.Int n) d h = int_within n (has_sixty_four_bits n) d refl
within_layer (V.Text s) d h = text_within s (is_utf8 s) d refl
within_layer (V.Tuple parts) zero h = absurd (let no : ⊥ = omega (arith, h) in no)
within_layer (V.Tuple parts) (suc d) h =
    let vs : List Value = map mended (values parts) in
    within_out (Value.Tuple vs) (V.Tuple vs) (suc d) (Value.outs-Tuple vs)
    ∙ parts_within parts 0 d (omega (arith, h))
within_layer (V.List parts) zero h = absurd (let no : ⊥ = omega (arith, h) in no)
within_layer (V.List parts) (suc d) h =
    let vs : List Value = map mended (values parts) in
    within_out (Value.List vs) (V.List vs) (suc d) (Value.outs-List vs)
    ∙ parts_within parts 0 d (omega (arith, h))
within_layer (V.Inst i) d h = within_out (Value.Inst i) (V.Inst i) d (Value.outs-Inst i)

mended_within : (v : Value) → Within v
mended_within = ind-Value Within (λ x y is d h.
    let here : LayerWithin x = subst LayerWithin is (within_layer y) in
    let depth : value_depth (roll-Value x) ≡ value_depth_step (map-Value Value ℕ value_depth x) =
    fold-roll-Value ℕ value_depth_step x in
    ap (λ w. readable_within w d) (fold-roll-Value Value mended_step x)
    ∙ here d (subst (λ n. n ≤ d) depth h))

pub fine_within : (v : Value) (d : ℕ) → IsFine v → value_depth v ≤ d → readable_within v d ≡ true
fine_within v d fine h = ap (λ w. readable_within w d) (sym fine) ∙ mended_within v d h

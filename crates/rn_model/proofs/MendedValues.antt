-- Values mended at a kind: a value of the kind, which is the value itself where that has the kind.
use Rattle.std.proofs.Common.{◌≡◌, ℕ, pos, Bool, true, List, [], ◌∷◌, map, refl, sym, ap, ◌∙◌, subst, arith}
use Rattle.std.specs.Prelude.{unwrap_or, Contains}
use Rattle.std.specs.List.{list_all, AllByRecursion}
use Rattle.rn_items.proofs.Bools.{both_true, true_both}
use Rattle.rn_value.specs.Kinds.{HasKind, value_has_kind, kind_step, fit_all}
use Rattle.rn_value.specs.declared.value.InstRef.{InstRef}
use Rattle.rn_value.specs.declared.value.InstRef.TheVariants.{Old}
use Rattle.rn_value.specs.declared.value.Kind.{Kind, out-Kind, roll-Kind, map-Kind, fold-Kind, fold_out-Kind, ind-Kind}
use Rattle.rn_value.specs.declared.value.Kind.TheVariants as Kind
use Rattle.rn_value.specs.declared.value.Kind.TheOpen as K
use Rattle.rn_value.specs.declared.value.Value.{Value, out-Value, roll-Value, roll-out-Value, map-Value, fold_out-Value}
use Rattle.rn_value.specs.declared.value.Value.TheVariants as Value
use Rattle.rn_value.specs.declared.value.Value.TheOpen as V
use Rattle.rn_model.specs.Evaluation.{list_step}
use Rattle.rn_model.proofs.AskedValues.{later}
use Rattle.rn_model.proofs.KindRules.{value_has_kind-Int, value_has_kind-Tuple}

-- what holds of a kind where it holds of its parts
record ByKind (P : Kind → Type 0) : Type 0 where
  int : P Kind.Int
  text : P Kind.Text
  tuple : (kinds : List Kind) → AllByRecursion P kinds → P (Kind.Tuple kinds)
  list : (kind : Kind) → P kind → P (Kind.List kind)
  net : P Kind.Net

module _ (P : Kind → Type 0) (f : ByKind P) where
  abbrev Part : Type 0
  Part = (k : Kind) × P k

  each_part : (parts : List Part) → AllByRecursion P (map (λ e. e.0) parts)
  each_part [] = tt
  each_part (part ∷ parts) = (part.1, each_part parts)

  layer : (y : K.Kind-F Part) → P (roll-Kind (map-Kind Part Kind (λ e. e.0) y))
  layer K.Int = subst P (sym Kind.rolls-Int) f.int
  layer K.Text = subst P (sym Kind.rolls-Text) f.text
  layer (K.Tuple parts) =
      subst P (sym (Kind.rolls-Tuple (map (λ e. e.0) parts)))
      (f.tuple (map (λ e. e.0) parts) (each_part parts))
  layer (K.List part) = subst P (sym (Kind.rolls-List part.0)) (f.list part.0 part.1)
  layer K.Net = subst P (sym Kind.rolls-Net) f.net

  by_kind : (k : Kind) → P k
  by_kind = ind-Kind P (λ x y is. subst (λ w. P (roll-Kind w)) is (layer y))

-- One value as a whole number, a text, an instance, the parts of a tuple, and those of a list; and
-- where it is none, what stands for one.
abbrev int_part : V.Value-F Value → Value
int_part (V.Int n) = Value.Int n
int_part _ = Value.Int (pos 0)

abbrev text_part : V.Value-F Value → Value
text_part (V.Text s) = Value.Text s
text_part _ = Value.Text []

abbrev net_part : V.Value-F Value → Value
net_part (V.Inst i) = Value.Inst i
net_part _ = Value.Inst (Old 0)

abbrev tuple_parts : V.Value-F Value → List Value
tuple_parts (V.Tuple vs) = vs
tuple_parts _ = []

abbrev list_parts : V.Value-F Value → List Value
list_parts x = unwrap_or (list_step x) []

-- each of these, of the value beside it, or of any
abbrev pub apply_all : List (Value → Value) → List Value → List Value
apply_all [] vs = []
apply_all (f ∷ fs) [] = f (Value.Int (pos 0)) ∷ apply_all fs []
apply_all (f ∷ fs) (v ∷ vs) = f v ∷ apply_all fs vs

-- one value mended at one kind, with what mends its parts
abbrev pub mend_step : K.Kind-F (Value → Value) → V.Value-F Value → Value
mend_step K.Int x = int_part x
mend_step K.Text x = text_part x
mend_step (K.Tuple fs) x = Value.Tuple (apply_all fs (tuple_parts x))
mend_step (K.List f) x = Value.List (map f (list_parts x))
mend_step K.Net x = net_part x

-- a value mended at a kind
abbrev pub mend : Kind → Value → Value
mend = fold-Kind (Value → Value) (λ k v. mend_step k (out-Value v))

abbrev pub mends : K.Kind-F Kind → K.Kind-F (Value → Value)
mends z = map-Kind Kind (Value → Value) mend z

pub mend_out : (k : Kind) (v : Value) → mend k v ≡ mend_step (mends (out-Kind k)) (out-Value v)
mend_out k v = ap (λ f. f v) (fold_out-Kind (Value → Value) (λ k v. mend_step k (out-Value v)) k)

-- one layer of a value, with what tests its parts
abbrev tested : V.Value-F Value → V.Value-F (Kind → Bool)
tested x = map-Value Value (Kind → Bool) value_has_kind x

opened : (v : Value) (k : Kind) → value_has_kind v k ≡ kind_step (tested (out-Value v)) (out-Kind k)
opened v k = ap (λ f. f k) (fold_out-Value (Kind → Bool) (λ v k. kind_step v (out-Kind k)) v)

text_kind : (s : List ℕ) → value_has_kind (Value.Text s) Kind.Text ≡ true
text_kind s = opened (Value.Text s) Kind.Text ∙ rw (Value.outs-Text s, Kind.outs-Text)

list_kind : (vs : List Value) (k : Kind) → value_has_kind (Value.List vs) (Kind.List k) ≡ list_all (λ fits. fits k) (map value_has_kind vs)
list_kind vs k = opened (Value.List vs) (Kind.List k) ∙ rw (Value.outs-List vs, Kind.outs-List k)

inst_kind : (x : V.Value-F Value) → value_has_kind (net_part x) Kind.Net ≡ true
inst_kind (V.Int n) = opened (Value.Inst (Old 0)) Kind.Net ∙ rw (Value.outs-Inst (Old 0), Kind.outs-Net)
inst_kind (V.Text s) = opened (Value.Inst (Old 0)) Kind.Net ∙ rw (Value.outs-Inst (Old 0), Kind.outs-Net)
inst_kind (V.Tuple vs) = opened (Value.Inst (Old 0)) Kind.Net ∙ rw (Value.outs-Inst (Old 0), Kind.outs-Net)
inst_kind (V.List vs) = opened (Value.Inst (Old 0)) Kind.Net ∙ rw (Value.outs-Inst (Old 0), Kind.outs-Net)
inst_kind (V.Inst i) = opened (Value.Inst i) Kind.Net ∙ rw (Value.outs-Inst i, Kind.outs-Net)

int_part_kind : (x : V.Value-F Value) → value_has_kind (int_part x) Kind.Int ≡ true
int_part_kind (V.Int n) = value_has_kind-Int n
int_part_kind (V.Text s) = value_has_kind-Int (pos 0)
int_part_kind (V.Tuple vs) = value_has_kind-Int (pos 0)
int_part_kind (V.List vs) = value_has_kind-Int (pos 0)
int_part_kind (V.Inst i) = value_has_kind-Int (pos 0)

text_part_kind : (x : V.Value-F Value) → value_has_kind (text_part x) Kind.Text ≡ true
text_part_kind (V.Int n) = text_kind []
text_part_kind (V.Text s) = text_kind s
text_part_kind (V.Tuple vs) = text_kind []
text_part_kind (V.List vs) = text_kind []
text_part_kind (V.Inst i) = text_kind []

-- A mended value has the kind.
abbrev IsMended : Kind → Type 0
IsMended k = (v : Value) → HasKind (mend k v) k

tuple_mended : (ks : List Kind) → AllByRecursion IsMended ks → (vs : List Value) → fit_all (map value_has_kind (apply_all (map mend ks) vs)) ks ≡ true
tuple_mended [] all vs = refl
tuple_mended (k ∷ ks) all [] =
    true_both (value_has_kind (mend k (Value.Int (pos 0))) k) (fit_all (map value_has_kind (apply_all (map mend ks) [])) ks) (all.0 (Value.Int (pos 0))) (tuple_mended ks all.1 [])
tuple_mended (k ∷ ks) all (v ∷ vs) =
    true_both (value_has_kind (mend k v) k) (fit_all (map value_has_kind (apply_all (map mend ks) vs)) ks) (all.0 v) (tuple_mended ks all.1 vs)

list_mended : (k : Kind) → IsMended k → (vs : List Value) → list_all (λ fits. fits k) (map value_has_kind (map (mend k) vs)) ≡ true
list_mended k is [] = refl
list_mended k is (v ∷ vs) =
    true_both (value_has_kind (mend k v) k) (list_all (λ fits. fits k) (map value_has_kind (map (mend k) vs))) (is v) (list_mended k is vs)

-- a value at a kind of each form, mended
mend-Int : (v : Value) → mend Kind.Int v ≡ int_part (out-Value v)
mend-Int v = mend_out Kind.Int v ∙ ap (λ z. mend_step (mends z) (out-Value v)) Kind.outs-Int

mend-Text : (v : Value) → mend Kind.Text v ≡ text_part (out-Value v)
mend-Text v = mend_out Kind.Text v ∙ ap (λ z. mend_step (mends z) (out-Value v)) Kind.outs-Text

mend-Tuple : (ks : List Kind) (v : Value) → mend (Kind.Tuple ks) v ≡ Value.Tuple (apply_all (map mend ks) (tuple_parts (out-Value v)))
mend-Tuple ks v = mend_out (Kind.Tuple ks) v ∙ ap (λ z. mend_step (mends z) (out-Value v)) (Kind.outs-Tuple ks)

mend-List : (k : Kind) (v : Value) → mend (Kind.List k) v ≡ Value.List (map (mend k) (list_parts (out-Value v)))
mend-List k v = mend_out (Kind.List k) v ∙ ap (λ z. mend_step (mends z) (out-Value v)) (Kind.outs-List k)

mend-Net : (v : Value) → mend Kind.Net v ≡ net_part (out-Value v)
mend-Net v = mend_out Kind.Net v ∙ ap (λ z. mend_step (mends z) (out-Value v)) Kind.outs-Net

-- a mended value has the kind
pub mend_has : (k : Kind) (v : Value) → HasKind (mend k v) k
mend_has = by_kind IsMended (record {
  int = λ v. ap (λ w. value_has_kind w Kind.Int) (mend-Int v) ∙ int_part_kind (out-Value v);
  text = λ v. ap (λ w. value_has_kind w Kind.Text) (mend-Text v) ∙ text_part_kind (out-Value v);
  tuple = λ ks all v.
      let parts = apply_all (map mend ks) (tuple_parts (out-Value v)) in
      ap (λ w. value_has_kind w (Kind.Tuple ks)) (mend-Tuple ks v) ∙ value_has_kind-Tuple parts ks ∙ tuple_mended ks all (tuple_parts (out-Value v));
  list = λ k is v.
      let parts = map (mend k) (list_parts (out-Value v)) in
      ap (λ w. value_has_kind w (Kind.List k)) (mend-List k v) ∙ list_kind parts k ∙ list_mended k is (list_parts (out-Value v));
  net = λ v. ap (λ w. value_has_kind w Kind.Net) (mend-Net v) ∙ inst_kind (out-Value v);
})

-- A value that has the kind stays as it is.
abbrev Stays : Kind → Type 0
Stays k = (v : Value) → HasKind v k → mend k v ≡ v

tuple_stays : (ks : List Kind) → AllByRecursion Stays ks → (vs : List Value) → fit_all (map value_has_kind vs) ks ≡ true → apply_all (map mend ks) vs ≡ vs
tuple_stays [] all [] e = refl
tuple_stays [] all (v ∷ vs) e = absurd (let no : ⊥ = cc in no)
tuple_stays (k ∷ ks) all [] e = absurd (let no : ⊥ = cc in no)
tuple_stays (k ∷ ks) all (v ∷ vs) e =
    let both = both_true (value_has_kind v k) (fit_all (map value_has_kind vs) ks) e in
    ap (λ w. w ∷ apply_all (map mend ks) vs) (all.0 v both.0) ∙ ap (λ ws. v ∷ ws) (tuple_stays ks all.1 vs both.1)

list_stays : (k : Kind) → Stays k → (vs : List Value) → list_all (λ fits. fits k) (map value_has_kind vs) ≡ true → map (mend k) vs ≡ vs
list_stays k is [] e = refl
list_stays k is (v ∷ vs) e =
    let both = both_true (value_has_kind v k) (list_all (λ fits. fits k) (map value_has_kind vs)) e in
    ap (λ w. w ∷ map (mend k) vs) (is v both.0) ∙ ap (λ ws. v ∷ ws) (list_stays k is vs both.1)

int_layer : (x : V.Value-F Value) → kind_step (tested x) K.Int ≡ true → int_part x ≡ roll-Value x
int_layer (V.Int n) e = sym (Value.rolls-Int n)
int_layer (V.Text s) e = absurd (let no : ⊥ = cc in no)
int_layer (V.Tuple vs) e = absurd (let no : ⊥ = cc in no)
int_layer (V.List vs) e = absurd (let no : ⊥ = cc in no)
int_layer (V.Inst i) e = absurd (let no : ⊥ = cc in no)

text_layer : (x : V.Value-F Value) → kind_step (tested x) K.Text ≡ true → text_part x ≡ roll-Value x
text_layer (V.Int n) e = absurd (let no : ⊥ = cc in no)
text_layer (V.Text s) e = sym (Value.rolls-Text s)
text_layer (V.Tuple vs) e = absurd (let no : ⊥ = cc in no)
text_layer (V.List vs) e = absurd (let no : ⊥ = cc in no)
text_layer (V.Inst i) e = absurd (let no : ⊥ = cc in no)

net_layer : (x : V.Value-F Value) → kind_step (tested x) K.Net ≡ true → net_part x ≡ roll-Value x
net_layer (V.Int n) e = absurd (let no : ⊥ = cc in no)
net_layer (V.Text s) e = absurd (let no : ⊥ = cc in no)
net_layer (V.Tuple vs) e = absurd (let no : ⊥ = cc in no)
net_layer (V.List vs) e = absurd (let no : ⊥ = cc in no)
net_layer (V.Inst i) e = sym (Value.rolls-Inst i)

tuple_layer : (ks : List Kind) → AllByRecursion Stays ks → (x : V.Value-F Value) → kind_step (tested x) (K.Tuple ks) ≡ true → Value.Tuple (apply_all (map mend ks) (tuple_parts x)) ≡ roll-Value x
tuple_layer ks all (V.Int n) e = absurd (let no : ⊥ = cc in no)
tuple_layer ks all (V.Text s) e = absurd (let no : ⊥ = cc in no)
tuple_layer ks all (V.Tuple vs) e = ap (λ ws. Value.Tuple ws) (tuple_stays ks all vs e) ∙ sym (Value.rolls-Tuple vs)
tuple_layer ks all (V.List vs) e = absurd (let no : ⊥ = cc in no)
tuple_layer ks all (V.Inst i) e = absurd (let no : ⊥ = cc in no)

list_layer : (k : Kind) → Stays k → (x : V.Value-F Value) → kind_step (tested x) (K.List k) ≡ true → Value.List (map (mend k) (list_parts x)) ≡ roll-Value x
list_layer k is (V.Int n) e = absurd (let no : ⊥ = cc in no)
list_layer k is (V.Text s) e = absurd (let no : ⊥ = cc in no)
list_layer k is (V.Tuple vs) e = absurd (let no : ⊥ = cc in no)
list_layer k is (V.List vs) e = ap (λ ws. Value.List ws) (list_stays k is vs e) ∙ sym (Value.rolls-List vs)
list_layer k is (V.Inst i) e = absurd (let no : ⊥ = cc in no)

-- a value at a kind whose layer is known
at_kind : (k : Kind) (z : K.Kind-F Kind) (v : Value) → out-Kind k ≡ z → HasKind v k → kind_step (tested (out-Value v)) z ≡ true
at_kind k z v is has = sym (opened v k ∙ ap (kind_step (tested (out-Value v))) is) ∙ has

-- a value that has the kind stays as it is
pub mend_same : (k : Kind) (v : Value) → HasKind v k → mend k v ≡ v
mend_same = by_kind Stays (record {
  int = λ v has. mend-Int v ∙ int_layer (out-Value v) (at_kind Kind.Int K.Int v Kind.outs-Int has) ∙ roll-out-Value v;
  text = λ v has. mend-Text v ∙ text_layer (out-Value v) (at_kind Kind.Text K.Text v Kind.outs-Text has) ∙ roll-out-Value v;
  tuple = λ ks all v has. mend-Tuple ks v ∙ tuple_layer ks all (out-Value v) (at_kind (Kind.Tuple ks) (K.Tuple ks) v (Kind.outs-Tuple ks) has) ∙ roll-out-Value v;
  list = λ k is v has. mend-List k v ∙ list_layer k is (out-Value v) (at_kind (Kind.List k) (K.List k) v (Kind.outs-List k) has) ∙ roll-out-Value v;
  net = λ v has. mend-Net v ∙ net_layer (out-Value v) (at_kind Kind.Net K.Net v Kind.outs-Net has) ∙ roll-out-Value v;
})

-- an instance has the kind of nets
pub inst_has_kind : (i : InstRef) → HasKind (Value.Inst i) Kind.Net
inst_has_kind i = inst_kind (V.Inst i)

all_listed : (k : Kind) (vs : List Value) → ((w : Value) → Contains vs w → HasKind w k) → list_all (λ fits. fits k) (map value_has_kind vs) ≡ true
all_listed k [] each = refl
all_listed k (v ∷ vs) each =
    true_both (value_has_kind v k) (list_all (λ fits. fits k) (map value_has_kind vs)) (each v (0, omega arith, refl)) (all_listed k vs (λ w there. each w (later v w vs there)))

-- a list whose elements have a kind has the kind of such lists
pub each_listed : (k : Kind) (vs : List Value) → ((w : Value) → Contains vs w → HasKind w k) → HasKind (Value.List vs) (Kind.List k)
each_listed k vs each = list_kind vs k ∙ all_listed k vs each

-- The brackets of a kind or constant that is read nest as deep as its tokens.
use Rattle.std.proofs.Common.{◌≡◌, ℕ, ℤ, neg_ℤ, ◌+◌, ◌≤◌, List, [], ◌∷◌, ◌++◌, map, refl}
use Rattle.std.proofs.Common.{ap, ◌∙◌, arith}
use Rattle.std.specs.Prelude.{suc, max, fold}
use Rattle.std.specs.List.{AllByRecursion}
use Rattle.rn_value.specs.declared.value.Kind.{Kind, fold_out-Kind}
use Rattle.rn_value.specs.declared.value.Kind.TheVariants as Kind
use Rattle.rn_value.specs.declared.value.Value.{Value, fold_out-Value}
use Rattle.rn_value.specs.declared.value.Value.TheVariants as Value
use Rattle.rn_model.specs.Kinds.{greatest, kind_depth, kind_depth_step}
use Rattle.rn_model.specs.Kinds.{value_depth, value_depth_step}
use Rattle.rn_notation.specs.declared.token.Spot.{Spot}
use Rattle.rn_notation.specs.declared.token.Token.{Token}
use Rattle.rn_notation.specs.declared.token.TokenKind.{TokenKind}
use Rattle.rn_net.specs.declared.kinds.PKind.{PKind}
use Rattle.rn_net.specs.declared.kinds.PKindForm.{PKindForm, fold_out-PKindForm}
use Rattle.rn_net.specs.declared.kinds.PKindForm.TheVariants as K
use Rattle.rn_net.specs.declared.constants.PConst.{PConst, fold-roll-PConst}
use Rattle.rn_net.specs.declared.constants.PConstForm.{PConstForm, fold-PConstForm}
use Rattle.rn_net.specs.declared.constants.PConstForm.{fold_out-PConstForm}
use Rattle.rn_net.specs.declared.constants.PConstForm.TheVariants as C
use Rattle.rn_net.specs.Kinds.{kind_at, IsKind, AreListed, AreKinds, AreMoreKinds}
use Rattle.rn_net.specs.Constants.{constant_at, IsConstant, AreItems, AreConstants}
use Rattle.rn_net.specs.Constants.{AreMoreConstants}
use Rattle.rn_numbered.specs.Numbered.{kind_of, kind_of_form, value_of, value_of_form}
use Rattle.rn_numbered.proofs.NumberedForms.{form_kind, kind-at}
use Rattle.rn_spelled.proofs.WithinLevels.{IsClosing, opening, closing, neither, Declared}
use Rattle.rn_spelled.proofs.WithinLevels.{declared_open, declared_close, declared_on}

pub from_zero : (n : ℕ) → n ≤ 64 → 0 + n ≤ 64
from_zero n h = omega (arith, h)

-- the greatest of some depths, where each has room
pub room_of_two : {A B : Type 0} (depth : B → ℕ) (f : A → B) (n : ℕ) (xs : List A) (first : ℕ) →
    first + n ≤ 64 → AllByRecursion (λ x. depth (f x) + n ≤ 64) xs →
    fold max first (map depth (map f xs)) + n ≤ 64
room_of_two depth f n [] first h all = h
room_of_two depth f n (x ∷ xs) first h all =
    room_of_two depth f n xs (max first (depth (f x))) (omega (arith, h, all.0)) all.1

-- what holds of all elements and of one more holds of all with that one
pub push : {A : Type 0} (P : A → Type 0) (xs : List A) (x : A) → AllByRecursion P xs → P x →
    AllByRecursion P (xs ++ x ∷ [])
push P [] x all is = (is, tt)
push P (y ∷ xs) x (here, all) is = (here, push P xs x all is)

-- kinds
abbrev pub KindFits : ℕ → PKind → Type 0
KindFits n k = kind_depth (kind_of k) + n ≤ 64

depth-at : (s : Spot) (f : PKindForm) (k : Kind) → form_kind f ≡ k →
    kind_depth (kind_of (kind_at s f)) ≡ kind_depth k
depth-at s f k e = ap kind_depth (kind-at s f ∙ e)

kind-Int : form_kind K.Int ≡ Kind.Int
kind-Int = fold_out-PKindForm Kind Kind kind_of_form (λ kind. kind.form) K.Int ∙ rw K.outs-Int

kind-Text : form_kind K.Text ≡ Kind.Text
kind-Text = fold_out-PKindForm Kind Kind kind_of_form (λ kind. kind.form) K.Text ∙ rw K.outs-Text

kind-Net : form_kind K.Net ≡ Kind.Net
kind-Net = fold_out-PKindForm Kind Kind kind_of_form (λ kind. kind.form) K.Net ∙ rw K.outs-Net

kind-Tuple : (ks : List PKind) → form_kind (K.Tuple ks) ≡ Kind.Tuple (map kind_of ks)
kind-Tuple ks = fold_out-PKindForm Kind Kind kind_of_form (λ kind. kind.form) (K.Tuple ks)
    ∙ rw (K.outs-Tuple ks)

kind-List : (k : PKind) → form_kind (K.List k) ≡ Kind.List (kind_of k)
kind-List k = fold_out-PKindForm Kind Kind kind_of_form (λ kind. kind.form) (K.List k)
    ∙ rw (K.outs-List k)

flat : (s : Spot) (f : PKindForm) (k : Kind) (n : ℕ) → form_kind f ≡ k → kind_depth k ≡ 0 →
    n ≤ 64 → KindFits n (kind_at s f)
flat s f k n e none h = omega (arith, depth-at s f k e, none, h)

pub tuple_fits : (s : Spot) (ks : List PKind) (n : ℕ) → n + 1 ≤ 64 →
    AllByRecursion (KindFits (n + 1)) ks → KindFits n (kind_at s (K.Tuple ks))
tuple_fits s ks n h all =
    let whole = depth-at s (K.Tuple ks) (Kind.Tuple (map kind_of ks)) (kind-Tuple ks) in
    let step : kind_depth (Kind.Tuple (map kind_of ks))
    ≡ suc (greatest (map kind_depth (map kind_of ks))) =
    fold_out-Kind ℕ kind_depth_step (Kind.Tuple (map kind_of ks))
    ∙ rw (Kind.outs-Tuple (map kind_of ks)) in
    let parts = room_of_two kind_depth kind_of (n + 1) ks 0 (from_zero (n + 1) h) all in
    omega (arith, whole, step, parts)

list_fits : (s : Spot) (k : PKind) (n : ℕ) → KindFits (n + 1) k → KindFits n (kind_at s (K.List k))
list_fits s k n h =
    let whole = depth-at s (K.List k) (Kind.List (kind_of k)) (kind-List k) in
    let step : kind_depth (Kind.List (kind_of k)) ≡ suc (kind_depth (kind_of k)) =
    fold_out-Kind ℕ kind_depth_step (Kind.List (kind_of k)) ∙ rw (Kind.outs-List (kind_of k)) in
    omega (arith, whole, step, h)

depth-Int : kind_depth Kind.Int ≡ 0
depth-Int = fold_out-Kind ℕ kind_depth_step Kind.Int ∙ rw Kind.outs-Int

depth-Text : kind_depth Kind.Text ≡ 0
depth-Text = fold_out-Kind ℕ kind_depth_step Kind.Text ∙ rw Kind.outs-Text

depth-Net : kind_depth Kind.Net ≡ 0
depth-Net = fold_out-Kind ℕ kind_depth_step Kind.Net ∙ rw Kind.outs-Net

mutual
  pub kind_fits : {n : ℕ} {ts rest : List Token} {k : PKind} → IsKind ts k rest → Declared n ts →
      KindFits n k × Declared n rest
  kind_fits {n = n} (IsKind.int {t = t} e) d = (
    flat t.spot K.Int Kind.Int n kind-Int depth-Int d.few,
    declared_on (neither refl refl refl) e d,
  )
  kind_fits {n = n} (IsKind.text {t = t} e) d = (
    flat t.spot K.Text Kind.Text n kind-Text depth-Text d.few,
    declared_on (neither refl refl refl) e d,
  )
  kind_fits {n = n} (IsKind.net {t = t} e) d = (
    flat t.spot K.Net Kind.Net n kind-Net depth-Net d.few,
    declared_on (neither refl refl refl) e d,
  )
  kind_fits {n = n} (IsKind.tuple {t = t} {kinds = kinds} e x) d =
      let inner = declared_open (opening refl refl) e d in
      let p = listed_fit (closing refl refl refl) x inner in
      (tuple_fits t.spot kinds n inner.few p.0, p.1)
  kind_fits {n = n} (IsKind.list {t = t} {kind = kind} e x f) d =
      let p = kind_fits x (declared_open (opening refl refl) e d) in
      (list_fits t.spot kind n p.0, declared_close (closing refl refl refl) f p.1)

  pub listed_fit : {n : ℕ} {close : TokenKind} {ts rest : List Token} {ks : List PKind} →
      IsClosing close → AreListed close ts ks rest → Declared (n + 1) ts →
      AllByRecursion (KindFits (n + 1)) ks × Declared n rest
  listed_fit c (AreListed.nothing e) d = (tt, declared_close c e d)
  listed_fit c (AreListed.some x e) d =
      let p = kinds_fit x d in (p.0, declared_close c e p.1)

  kinds_fit : {n : ℕ} {ts rest : List Token} {ks : List PKind} → AreKinds ts ks rest →
      Declared n ts → AllByRecursion (KindFits n) ks × Declared n rest
  kinds_fit (AreKinds.kinds x m) d = let p = kind_fits x d in more_fit m (p.0, tt) p.1

  more_fit : {n : ℕ} {before ks : List PKind} {ts rest : List Token} →
      AreMoreKinds before ts ks rest → AllByRecursion (KindFits n) before → Declared n ts →
      AllByRecursion (KindFits n) ks × Declared n rest
  more_fit AreMoreKinds.no_more_kinds all d = (all, d)
  more_fit {n = n} (AreMoreKinds.more_kinds {before = before} {kind = kind} e x m) all d =
      let p = kind_fits x (declared_on (neither refl refl refl) e d) in
      more_fit m (push (KindFits n) before kind all p.0) p.1

-- constants
abbrev pub ConstantFits : ℕ → PConst → Type 0
ConstantFits n c = value_depth (value_of c) + n ≤ 64

abbrev form_value : PConstForm → Value
form_value = fold-PConstForm Value Value value_of_form (λ const. const.form)

value-at : (s : Spot) (f : PConstForm) (v : Value) → form_value f ≡ v →
    value_depth (value_of (constant_at s f)) ≡ value_depth v
value-at s f v e = ap value_depth
    (fold-roll-PConst Value Value value_of_form (λ const. const.form)
    (record { form = f; spot = s }) ∙ e)

value-Int : (n : ℤ) → form_value (C.Int n) ≡ Value.Int n
value-Int n = fold_out-PConstForm Value Value value_of_form (λ const. const.form) (C.Int n)
    ∙ rw (C.outs-Int n)

value-Text : (t : List ℕ) → form_value (C.Text t) ≡ Value.Text t
value-Text t = fold_out-PConstForm Value Value value_of_form (λ const. const.form) (C.Text t)
    ∙ rw (C.outs-Text t)

value-Tuple : (cs : List PConst) → form_value (C.Tuple cs) ≡ Value.Tuple (map value_of cs)
value-Tuple cs = fold_out-PConstForm Value Value value_of_form (λ const. const.form) (C.Tuple cs)
    ∙ rw (C.outs-Tuple cs)

value-List : (cs : List PConst) → form_value (C.List cs) ≡ Value.List (map value_of cs)
value-List cs = fold_out-PConstForm Value Value value_of_form (λ const. const.form) (C.List cs)
    ∙ rw (C.outs-List cs)

number_fits : (s : Spot) (z : ℤ) (n : ℕ) → n ≤ 64 → ConstantFits n (constant_at s (C.Int z))
number_fits s z n h =
    let whole = value-at s (C.Int z) (Value.Int z) (value-Int z) in
    let step : value_depth (Value.Int z) ≡ 0 =
    fold_out-Value ℕ value_depth_step (Value.Int z) ∙ rw (Value.outs-Int z) in
    omega (arith, whole, step, h)

text_fits : (s : Spot) (t : List ℕ) (n : ℕ) → n ≤ 64 → ConstantFits n (constant_at s (C.Text t))
text_fits s t n h =
    let whole = value-at s (C.Text t) (Value.Text t) (value-Text t) in
    let step : value_depth (Value.Text t) ≡ 0 =
    fold_out-Value ℕ value_depth_step (Value.Text t) ∙ rw (Value.outs-Text t) in
    omega (arith, whole, step, h)

values_fit : (s : Spot) (cs : List PConst) (n : ℕ) → n + 1 ≤ 64 →
    AllByRecursion (ConstantFits (n + 1)) cs → ConstantFits n (constant_at s (C.Tuple cs))
values_fit s cs n h all =
    let whole = value-at s (C.Tuple cs) (Value.Tuple (map value_of cs)) (value-Tuple cs) in
    let step : value_depth (Value.Tuple (map value_of cs))
    ≡ suc (greatest (map value_depth (map value_of cs))) =
    fold_out-Value ℕ value_depth_step (Value.Tuple (map value_of cs))
    ∙ rw (Value.outs-Tuple (map value_of cs)) in
    let parts = room_of_two value_depth value_of (n + 1) cs 0 (from_zero (n + 1) h) all in
    omega (arith, whole, step, parts)

list_of_values_fits : (s : Spot) (cs : List PConst) (n : ℕ) → n + 1 ≤ 64 →
    AllByRecursion (ConstantFits (n + 1)) cs → ConstantFits n (constant_at s (C.List cs))
list_of_values_fits s cs n h all =
    let whole = value-at s (C.List cs) (Value.List (map value_of cs)) (value-List cs) in
    let step : value_depth (Value.List (map value_of cs))
    ≡ suc (greatest (map value_depth (map value_of cs))) =
    fold_out-Value ℕ value_depth_step (Value.List (map value_of cs))
    ∙ rw (Value.outs-List (map value_of cs)) in
    let parts = room_of_two value_depth value_of (n + 1) cs 0 (from_zero (n + 1) h) all in
    omega (arith, whole, step, parts)

mutual
  pub constant_fits : {n : ℕ} {ts rest : List Token} {c : PConst} → IsConstant ts c rest →
      Declared n ts → ConstantFits n c × Declared n rest
  constant_fits {n = n} (IsConstant.number {t = t} {n = z} e) d =
      (number_fits t.spot z n d.few, declared_on (neither refl refl refl) e d)
  constant_fits {n = n} (IsConstant.negative {t = t} {n = z} e f) d = (
    number_fits t.spot (neg_ℤ z) n d.few,
    declared_on (neither refl refl refl) f (declared_on (neither refl refl refl) e d),
  )
  constant_fits {n = n} (IsConstant.text {t = t} {s = s} e) d =
      (text_fits t.spot s n d.few, declared_on (neither refl refl refl) e d)
  constant_fits {n = n} (IsConstant.tuple {t = t} {items = items} e x) d =
      let inner = declared_open (opening refl refl) e d in
      let p = items_fit (closing refl refl refl) x inner in
      (values_fit t.spot items n inner.few p.0, p.1)
  constant_fits {n = n} (IsConstant.list {t = t} {items = items} e x) d =
      let inner = declared_open (opening refl refl) e d in
      let p = items_fit (closing refl refl refl) x inner in
      (list_of_values_fits t.spot items n inner.few p.0, p.1)

  items_fit : {n : ℕ} {close : TokenKind} {ts rest : List Token} {cs : List PConst} →
      IsClosing close → AreItems close ts cs rest → Declared (n + 1) ts →
      AllByRecursion (ConstantFits (n + 1)) cs × Declared n rest
  items_fit c (AreItems.nothing e) d = (tt, declared_close c e d)
  items_fit c (AreItems.some x e) d =
      let p = constants_fit x d in (p.0, declared_close c e p.1)

  pub constants_fit : {n : ℕ} {ts rest : List Token} {cs : List PConst} → AreConstants ts cs rest →
      Declared n ts → AllByRecursion (ConstantFits n) cs × Declared n rest
  constants_fit (AreConstants.constants x m) d =
      let p = constant_fits x d in more_constants_fit m (p.0, tt) p.1

  more_constants_fit : {n : ℕ} {before cs : List PConst} {ts rest : List Token} →
      AreMoreConstants before ts cs rest → AllByRecursion (ConstantFits n) before →
      Declared n ts → AllByRecursion (ConstantFits n) cs × Declared n rest
  more_constants_fit AreMoreConstants.no_more_constants all d = (all, d)
  more_constants_fit {n = n}
      (AreMoreConstants.more_constants {before = before} {item = item} e x m) all d =
      let p = constant_fits x (declared_on (neither refl refl refl) e d) in
      more_constants_fit m (push (ConstantFits n) before item all p.0) p.1

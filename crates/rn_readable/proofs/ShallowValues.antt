-- How deep the brackets of a value nest, by its kind.
use Rattle.std.proofs.Common.{◌≡◌, ℕ, ℤ, suc, ◌≤◌, Bool, true, List, [], ◌∷◌, ◌++◌, map, refl}
use Rattle.std.proofs.Common.{sym, ap}
use Rattle.std.proofs.Common.{◌∙◌, subst, arith}
use Rattle.std.specs.Prelude.{All, Option, Some, None, max, fold, slice_get, unwrap_or}
use Rattle.std.specs.Option.{option_map_or}
use Rattle.std.specs.List.{list_all}
use Rattle.rn_items.proofs.Bools.{both_true}
use Rattle.rn_value.specs.Kinds.{HasKind, value_has_kind, kind_step, fit_all}
use Rattle.rn_value.specs.declared.value.InstRef.{InstRef}
use Rattle.rn_value.specs.declared.value.Kind.{Kind, out-Kind, map-Kind, fold_out-Kind}
use Rattle.rn_value.specs.declared.value.Kind.TheVariants as Kind
use Rattle.rn_value.specs.declared.value.Kind.TheOpen as K
use Rattle.rn_value.specs.declared.value.Value.{Value, roll-Value, map-Value, fold_out-Value}
use Rattle.rn_value.specs.declared.value.Value.{fold-roll-Value, ind-Value, out-Value}
use Rattle.rn_value.specs.declared.value.Value.TheVariants as Value
use Rattle.rn_value.specs.declared.value.Value.TheOpen as V
use Rattle.rn_model.specs.declared.system.System.{System}
use Rattle.rn_model.specs.declared.system.Net.{Net}
use Rattle.rn_model.specs.declared.system.Var.{Var}
use Rattle.rn_model.specs.declared.system.Place.{Place}
use Rattle.rn_model.specs.Good.{Good, IsGoodNet, IsGoodKind, IsGoodPlace}
use Rattle.rn_model.specs.Kinds.{greatest, kind_depth, kind_depth_step, value_depth}
use Rattle.rn_model.specs.Kinds.{value_depth_step}
use Rattle.rn_model.specs.Names.{IsGoodName}
use Rattle.rn_model.specs.Systems.{empty_net, unkinded, var_kind, place_kind}
use Rattle.rn_model.proofs.EachElement.{at_place}
use Rattle.rn_readable.proofs.MendedValues.{first_within}

abbrev IsShallow : Value → Type 0
IsShallow v = (k : Kind) → value_has_kind v k ≡ true → value_depth v ≤ kind_depth k

abbrev Part : Type 0
Part = (v : Value) × IsShallow v

abbrev values : List Part → List Value
values parts = map (λ e. e.0) parts

parts_shallow : (parts : List Part) (ks : List Kind) (a b : ℕ) → a ≤ b →
    fit_all (map value_has_kind (values parts)) ks ≡ true →
    fold max a (map value_depth (values parts)) ≤ fold max b (map kind_depth ks)
parts_shallow [] [] a b h e = h
parts_shallow [] (k ∷ ks) a b h e = absurd (let no : ⊥ = cc in no)
parts_shallow (part ∷ parts) [] a b h e = absurd (let no : ⊥ = cc in no)
parts_shallow (part ∷ parts) (k ∷ ks) a b h e =
    let both = both_true (value_has_kind part.0 k)
    (fit_all (map value_has_kind (values parts)) ks) e in
    let first = part.1 k both.0 in
    parts_shallow parts ks (max a (value_depth part.0)) (max b (kind_depth k))
    (omega (arith, h, first)) both.1

items_shallow : (parts : List Part) (k : Kind) (a : ℕ) → a ≤ kind_depth k →
    list_all (λ fits. fits k) (map value_has_kind (values parts)) ≡ true →
    fold max a (map value_depth (values parts)) ≤ kind_depth k
items_shallow [] k a h e = h
items_shallow (part ∷ parts) k a h e =
    let both = both_true (value_has_kind part.0 k)
    (list_all (λ fits. fits k) (map value_has_kind (values parts))) e in
    let first = part.1 k both.0 in
    items_shallow parts k (max a (value_depth part.0)) (omega (arith, h, first)) both.1

abbrev LayerShallow : V.Value-F Value → Type 0
LayerShallow x = (z : K.Kind-F Kind) →
    kind_step (map-Value Value (Kind → Bool) value_has_kind x) z ≡ true →
    value_depth_step (map-Value Value ℕ value_depth x)
    ≤ kind_depth_step (map-Kind Kind ℕ kind_depth z)

tuple_shallow : (parts : List Part) (z : K.Kind-F Kind) →
    kind_step (V.Tuple (map value_has_kind (values parts))) z ≡ true →
    value_depth_step (V.Tuple (map value_depth (values parts)))
    ≤ kind_depth_step (map-Kind Kind ℕ kind_depth z)
tuple_shallow parts (K.Tuple ks) e =
    let parts_are = parts_shallow parts ks 0 0 (omega arith) e in
    omega (arith, parts_are)
tuple_shallow parts _ e = absurd (let no : ⊥ = cc in no)

list_shallow : (parts : List Part) (z : K.Kind-F Kind) →
    kind_step (V.List (map value_has_kind (values parts))) z ≡ true →
    value_depth_step (V.List (map value_depth (values parts)))
    ≤ kind_depth_step (map-Kind Kind ℕ kind_depth z)
list_shallow parts (K.List k) e =
    let items_are = items_shallow parts k 0 (omega arith) e in
    omega (arith, items_are)
list_shallow parts _ e = absurd (let no : ⊥ = cc in no)

layer : (y : V.Value-F Part) → LayerShallow (map-Value Part Value (λ e. e.0) y)
layer (V.Int n) z e = omega arith
layer (V.Text s) z e = omega arith
layer (V.Tuple parts) z e = tuple_shallow parts z e
layer (V.List parts) z e = list_shallow parts z e
layer (V.Inst i) z e = omega arith

-- a value of a kind is no deeper than the kind
pub as_its_kind : (v : Value) (k : Kind) → HasKind v k → value_depth v ≤ kind_depth k
as_its_kind = ind-Value IsShallow (λ x y is k e.
    let at_layer : kind_step (map-Value Value (Kind → Bool) value_has_kind x) (out-Kind k) ≡ true =
    sym (ap (λ f. f k) (fold-roll-Value (Kind → Bool) (λ v k. kind_step v (out-Kind k)) x)) ∙ e in
    let whole : LayerShallow x = subst LayerShallow is (layer y) in
    let here = whole (out-Kind k) at_layer in
    let left : value_depth (roll-Value x) ≡ value_depth_step (map-Value Value ℕ value_depth x) =
    fold-roll-Value ℕ value_depth_step x in
    let right : kind_depth k ≡ kind_depth_step (map-Kind Kind ℕ kind_depth (out-Kind k)) =
    fold_out-Kind ℕ kind_depth_step k in
    omega (arith, here, left, right))

-- the depths of values, by their forms
depth_out : (v : Value) (x : V.Value-F Value) → out-Value v ≡ x →
    value_depth v ≡ value_depth_step (map-Value Value ℕ value_depth x)
depth_out v x is = fold_out-Value ℕ value_depth_step v
    ∙ ap (λ x. value_depth_step (map-Value Value ℕ value_depth x)) is

-- Kinds of a good system.
nothing_deep : kind_depth unkinded ≤ 64
nothing_deep =
    let step : kind_depth unkinded ≡ 1 =
    fold_out-Kind ℕ kind_depth_step unkinded ∙ rw (Kind.outs-Tuple []) in
    omega (arith, step)

module _ (system : System) (good : Good system) where
  -- a kind that stands in a list of a net is good, or there is none
  of_var : (vars : List Var) → All (λ var. IsGoodName var.name × IsGoodKind var.kind) vars →
      (o : Option Var) (x : ℕ) → slice_get vars x ≡ o →
      kind_depth (option_map_or (λ var. var.kind) o unkinded) ≤ 64
  of_var vars all None x is = nothing_deep
  of_var vars all (Some var) x is =
      (at_place (λ var. IsGoodName var.name × IsGoodKind var.kind) vars x var all is).1.deep

  of_place : (places : List Place) → All IsGoodPlace places → (o : Option Place) (p : ℕ) →
      slice_get places p ≡ o → kind_depth (option_map_or (λ p. p.kind) o unkinded) ≤ 64
  of_place places all None p is = nothing_deep
  of_place places all (Some place) p is = (at_place IsGoodPlace places p place all is).kind.deep

  var_of_net : (o : Option Net) (n x : ℕ) → slice_get system.nets n ≡ o →
      kind_depth (option_map_or (λ var. var.kind) (slice_get (unwrap_or o empty_net).vars x)
      unkinded) ≤ 64
  var_of_net None n x is = nothing_deep
  var_of_net (Some net) n x is =
      of_var net.vars (at_place (IsGoodNet system) system.nets n net good.nets is).vars
      (slice_get net.vars x) x refl

  place_of_net : (o : Option Net) (n p : ℕ) → slice_get system.nets n ≡ o →
      kind_depth (option_map_or (λ place. place.kind) (slice_get (unwrap_or o empty_net).places p)
      unkinded) ≤ 64
  place_of_net None n p is = nothing_deep
  place_of_net (Some net) n p is =
      of_place net.places (at_place (IsGoodNet system) system.nets n net good.nets is).places
      (slice_get net.places p) p refl

  -- the values of variables and the tokens of places aren't deep
  pub of_var_kind : (n x : ℕ) (v : Value) → HasKind v (var_kind system n x) → value_depth v ≤ 64
  of_var_kind n x v has =
      let kind : kind_depth (var_kind system n x) ≤ 64 =
      var_of_net (slice_get system.nets n) n x refl in
      let own = as_its_kind v (var_kind system n x) has in
      omega (arith, kind, own)

  pub of_place_kind : (n p : ℕ) (v : Value) → HasKind v (place_kind system n p) →
      value_depth v ≤ 64
  of_place_kind n p v has =
      let kind : kind_depth (place_kind system n p) ≤ 64 =
      place_of_net (slice_get system.nets n) n p refl in
      let own = as_its_kind v (place_kind system n p) has in
      omega (arith, kind, own)

-- the depth of a list, by those of its elements
pub depth-Int : (n : ℤ) → value_depth (Value.Int n) ≡ 0
depth-Int n = depth_out (Value.Int n) (V.Int n) (Value.outs-Int n)

pub depth-Text : (s : List ℕ) → value_depth (Value.Text s) ≡ 0
depth-Text s = depth_out (Value.Text s) (V.Text s) (Value.outs-Text s)

pub depth-Tuple : (vs : List Value) →
    value_depth (Value.Tuple vs) ≡ suc (greatest (map value_depth vs))
depth-Tuple vs = depth_out (Value.Tuple vs) (V.Tuple vs) (Value.outs-Tuple vs)

pub depth-List : (vs : List Value) →
    value_depth (Value.List vs) ≡ suc (greatest (map value_depth vs))
depth-List vs = depth_out (Value.List vs) (V.List vs) (Value.outs-List vs)

pub depth-Inst : (i : InstRef) → value_depth (Value.Inst i) ≡ 0
depth-Inst i = depth_out (Value.Inst i) (V.Inst i) (Value.outs-Inst i)

-- more elements, from another start
from_start : (xs : List ℕ) (a b most : ℕ) → a ≤ most → fold max b xs ≤ most →
    fold max a xs ≤ most
from_start [] a b most h k = h
from_start (x ∷ xs) a b most h k =
    let one = first_within xs (max b x) most k in
    from_start xs (max a x) (max b x) most (omega (arith, h, one)) k

pub joined_depth : (vs ws : List Value) (a most : ℕ) → fold max a (map value_depth vs) ≤ most →
    greatest (map value_depth ws) ≤ most → fold max a (map value_depth (vs ++ ws)) ≤ most
joined_depth [] ws a most h k = from_start (map value_depth ws) a 0 most h k
joined_depth (v ∷ vs) ws a most h k = joined_depth vs ws (max a (value_depth v)) most h k

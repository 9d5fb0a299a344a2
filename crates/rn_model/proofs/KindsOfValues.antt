-- An expression with a kind has values of that kind, where its variables have values of their kinds.
use Rattle.std.proofs.Common.{◌≡◌, ℕ, ℤ, zero, suc, pos, Bool, true, false, List, [], ◌∷◌, ◌++◌, map, refl, sym, ap, ◌∙◌, subst, arith}
use Rattle.std.specs.Prelude.{Option, Some, Contains, option_map, option_and_then, nat_eq, zip, if◌then◌else◌}
use Rattle.std.specs.List.{list_all, AllZip}
use Rattle.std.proofs.lemmas.Bool.{eqb-true}
use Rattle.std.proofs.lemmas.Option.{same_Some, option_and_then_some}
use Rattle.rn_items.proofs.Options.{option_map_some}
use Rattle.rn_items.proofs.Bools.{both_true, true_both}
use Rattle.rn_value.specs.Kinds.{HasKind, value_has_kind, kind_step, fit_all}
use Rattle.rn_value.specs.declared.value.InstRef.{InstRef}
use Rattle.rn_value.specs.declared.value.Kind.{Kind, out-Kind, roll-Kind, map-Kind, fold-roll-Kind, roll-out-Kind, ind-Kind}
use Rattle.rn_value.specs.declared.value.Kind.TheVariants as Kind
use Rattle.rn_value.specs.declared.value.Kind.TheOpen as K
use Rattle.rn_value.specs.declared.value.Value.{Value, out-Value, map-Value, fold_out-Value, fold-roll-Value, ind-Value}
use Rattle.rn_value.specs.declared.value.Value.TheVariants as Value
use Rattle.rn_value.specs.declared.value.Value.TheOpen as V
use Rattle.rn_model.specs.declared.expr.Expr.{Expr, map-Expr, fold-roll-Expr, ind-Expr}
use Rattle.rn_model.specs.declared.expr.Expr.TheOpen as O
use Rattle.rn_model.specs.declared.expr.OpKind.{OpKind}
use Rattle.rn_model.specs.declared.system.ArcKind.{ArcKind}
use Rattle.rn_model.specs.declared.system.ArcKind.TheVariants.{Input, Output, Test, Reserve, FlexInput, FlexOutput, Inhibit, Clear}
use Rattle.rn_model.specs.Lists.{value_beside}
use Rattle.rn_model.specs.Kinds.{same_kind, same_kind_step, expr_kind_step, expr_or_var_step, expr_has_kind, HasExprKind}
use Rattle.rn_model.specs.Evaluation.{Env, worth, worth_step, worths, list_onto, list_of}
use Rattle.rn_model.specs.Agreement.{inscribed_kind}
use Rattle.rn_model.specs.Demands.{elements, puts}
use Rattle.rn_model.specs.Firing.{renamed_value}
use Rattle.rn_model.proofs.EnablingLemmas.{not_in_nil, the_one}
use Rattle.rn_model.proofs.HoleValues.{op_is, neg_is, list_of_kind}
use Rattle.rn_model.proofs.ReplacedValues.{replaced, replaced_step, renamed_is_replaced}

-- Kinds that are the same are equal.
abbrev SameIsEqual : Kind → Type 0
SameIsEqual k = (l : Kind) → same_kind k l ≡ true → k ≡ l

abbrev KindPart : Type 0
KindPart = (k : Kind) × SameIsEqual k

kinds_equal : (parts : List KindPart) (ls : List Kind) → fit_all (map same_kind (map (λ e. e.0) parts)) ls ≡ true → map (λ e. e.0) parts ≡ ls
kinds_equal [] [] e = refl
kinds_equal [] (l ∷ ls) e = absurd (let no : ⊥ = cc in no)
kinds_equal (part ∷ parts) [] e = absurd (let no : ⊥ = cc in no)
kinds_equal (part ∷ parts) (l ∷ ls) e =
    let both = both_true (same_kind part.0 l) (fit_all (map same_kind (map (λ e. e.0) parts)) ls) e in
    ap (λ k. k ∷ map (λ e. e.0) parts) (part.1 l both.0) ∙ ap (λ ks. l ∷ ks) (kinds_equal parts ls both.1)

kind_layer : (y : K.Kind-F KindPart) (z : K.Kind-F Kind) → same_kind_step (map-Kind Kind (Kind → Bool) same_kind (map-Kind KindPart Kind (λ e. e.0) y)) z ≡ true → map-Kind KindPart Kind (λ e. e.0) y ≡ z
kind_layer K.Int K.Int e = refl
kind_layer K.Text K.Text e = refl
kind_layer (K.Tuple parts) (K.Tuple ls) e = ap (λ ks. K.Tuple ks) (kinds_equal parts ls e)
kind_layer (K.List part) (K.List l) e = ap (λ k. K.List k) (part.1 l e)
kind_layer K.Net K.Net e = refl
kind_layer _ _ e = absurd (let no : ⊥ = cc in no)

-- kinds that the test takes as the same are equal
pub same_is_equal : (k l : Kind) → same_kind k l ≡ true → k ≡ l
same_is_equal = ind-Kind SameIsEqual (λ x y is l e.
    let at_layer : same_kind_step (map-Kind Kind (Kind → Bool) same_kind x) (out-Kind l) ≡ true = sym (ap (λ f. f l) (fold-roll-Kind (Kind → Bool) (λ k l. same_kind_step k (out-Kind l)) x)) ∙ e in
    let here : x ≡ out-Kind l = subst (λ w. same_kind_step (map-Kind Kind (Kind → Bool) same_kind w) (out-Kind l) ≡ true → w ≡ out-Kind l) is (kind_layer y (out-Kind l)) at_layer in
    ap (λ w. roll-Kind w) here ∙ roll-out-Kind l)

-- A value at a kind, layer by layer.
abbrev kinded : Value → K.Kind-F Kind → Bool
kinded v z = kind_step (map-Value Value (Kind → Bool) value_has_kind (out-Value v)) z

kinded_is : (v : Value) (kind : Kind) → value_has_kind v kind ≡ kinded v (out-Kind kind)
kinded_is v kind = ap (λ f. f kind) (fold_out-Value (Kind → Bool) (λ v k. kind_step v (out-Kind k)) v)

kinded-Int : (n : ℤ) (z : K.Kind-F Kind) → kinded (Value.Int n) z ≡ kind_step (V.Int n) z
kinded-Int n z = rw (Value.outs-Int n)

kinded-Text : (s : List ℕ) (z : K.Kind-F Kind) → kinded (Value.Text s) z ≡ kind_step (V.Text s) z
kinded-Text s z = rw (Value.outs-Text s)

kinded-Tuple : (vs : List Value) (z : K.Kind-F Kind) → kinded (Value.Tuple vs) z ≡ kind_step (V.Tuple (map value_has_kind vs)) z
kinded-Tuple vs z = rw (Value.outs-Tuple vs)

kinded-List : (vs : List Value) (z : K.Kind-F Kind) → kinded (Value.List vs) z ≡ kind_step (V.List (map value_has_kind vs)) z
kinded-List vs z = rw (Value.outs-List vs)

kinded-Inst : (i : InstRef) (z : K.Kind-F Kind) → kinded (Value.Inst i) z ≡ kind_step (V.Inst i) z
kinded-Inst i z = rw (Value.outs-Inst i)

list_kinds : (vs : List Value) (kind : Kind) → HasKind (Value.List vs) (Kind.List kind) → list_all (λ fits. fits kind) (map value_has_kind vs) ≡ true
list_kinds vs kind e = sym (kinded_is (Value.List vs) (Kind.List kind) ∙ kinded-List vs (out-Kind (Kind.List kind)) ∙ ap (kind_step (V.List (map value_has_kind vs))) (Kind.outs-List kind)) ∙ e

each_kind : (kind : Kind) (vs : List Value) (v : Value) → list_all (λ fits. fits kind) (map value_has_kind vs) ≡ true → Contains vs v → HasKind v kind
each_kind kind [] v e there = absurd (not_in_nil v there)
each_kind kind (w ∷ vs) v e (zero, h, is) = ap (λ u. value_has_kind u kind) (sym is) ∙ (both_true (value_has_kind w kind) (list_all (λ fits. fits kind) (map value_has_kind vs)) e).0
each_kind kind (w ∷ vs) v e (suc k, h, is) = each_kind kind vs v (both_true (value_has_kind w kind) (list_all (λ fits. fits kind) (map value_has_kind vs)) e).1 (k, omega (arith, h), is)

both_lists : (kind : Kind) (vs ws : List Value) → list_all (λ fits. fits kind) (map value_has_kind vs) ≡ true → list_all (λ fits. fits kind) (map value_has_kind ws) ≡ true → list_all (λ fits. fits kind) (map value_has_kind (vs ++ ws)) ≡ true
both_lists kind [] ws e f = f
both_lists kind (v ∷ vs) ws e f =
    let both = both_true (value_has_kind v kind) (list_all (λ fits. fits kind) (map value_has_kind vs)) e in
    true_both (value_has_kind v kind) (list_all (λ fits. fits kind) (map value_has_kind (vs ++ ws))) both.0 (both_lists kind vs ws both.1 f)

module _ (kinds : ℕ → Kind) (env : Env) (well : (x : ℕ) (v : Value) → value_beside env.pairs x ≡ Some v → HasKind v (kinds x)) where
  abbrev HasItsKind : Expr → Type 0
  HasItsKind e = (kind : Kind) → HasExprKind kinds e kind → (v : Value) → worth e env ≡ Some v → HasKind v kind

  abbrev Part : Type 0
  Part = (e : Expr) × HasItsKind e

  abbrev exprs : List Part → List Expr
  exprs parts = map (λ e. e.0) parts

  parts_fit : (parts : List Part) (ks : List Kind) (vs : List Value) → fit_all (map (λ test. test kinds) (map expr_has_kind (exprs parts))) ks ≡ true → worths (map worth (exprs parts)) env ≡ Some vs → fit_all (map value_has_kind vs) ks ≡ true
  parts_fit [] [] vs e f = ap (λ ws. fit_all (map value_has_kind ws) []) (sym (same_Some [] vs f))
  parts_fit [] (k ∷ ks) vs e f = absurd (let no : ⊥ = cc in no)
  parts_fit (part ∷ parts) [] vs e f = absurd (let no : ⊥ = cc in no)
  parts_fit (part ∷ parts) (k ∷ ks) vs e f =
      let both = both_true (expr_has_kind part.0 kinds k) (fit_all (map (λ test. test kinds) (map expr_has_kind (exprs parts))) ks) e in
      option_and_then_some (λ v. option_map (λ ws. v ∷ ws) (worths (map worth (exprs parts)) env)) (worth part.0 env) vs f (λ v first rest.
      option_map_some (λ ws. v ∷ ws) (worths (map worth (exprs parts)) env) vs rest (λ ws others made.
      ap (λ us. fit_all (map value_has_kind us) (k ∷ ks)) (sym (same_Some (v ∷ ws) vs made)) ∙ true_both (value_has_kind v k) (fit_all (map value_has_kind ws) ks) (part.1 k both.0 v first) (parts_fit parts ks ws both.1 others)))

  parts_all : (parts : List Part) (k : Kind) (vs : List Value) → list_all (λ test. test kinds k) (map expr_has_kind (exprs parts)) ≡ true → worths (map worth (exprs parts)) env ≡ Some vs → list_all (λ fits. fits k) (map value_has_kind vs) ≡ true
  parts_all [] k vs e f = ap (λ ws. list_all (λ fits. fits k) (map value_has_kind ws)) (sym (same_Some [] vs f))
  parts_all (part ∷ parts) k vs e f =
      let both = both_true (expr_has_kind part.0 kinds k) (list_all (λ test. test kinds k) (map expr_has_kind (exprs parts))) e in
      option_and_then_some (λ v. option_map (λ ws. v ∷ ws) (worths (map worth (exprs parts)) env)) (worth part.0 env) vs f (λ v first rest.
      option_map_some (λ ws. v ∷ ws) (worths (map worth (exprs parts)) env) vs rest (λ ws others made.
      ap (λ us. list_all (λ fits. fits k) (map value_has_kind us)) (sym (same_Some (v ∷ ws) vs made)) ∙ true_both (value_has_kind v k) (list_all (λ fits. fits k) (map value_has_kind ws)) (part.1 k both.0 v first) (parts_all parts k ws both.1 others)))

  -- one layer of an expression, of its test and of its value
  abbrev tested : O.Expr-F Part → K.Kind-F Kind → Bool
  tested y z = expr_kind_step (map-Expr Expr ((ℕ → Kind) → Kind → Bool) expr_has_kind (map-Expr Part Expr (λ e. e.0) y)) kinds z

  abbrev valued : O.Expr-F Part → Option Value
  valued y = worth_step (map-Expr Expr (Env → Option Value) worth (map-Expr Part Expr (λ e. e.0) y)) env

  int_at : (n : ℤ) (z : K.Kind-F Kind) → expr_kind_step (O.Int n) kinds z ≡ true → kind_step (V.Int n) z ≡ true
  int_at n K.Int e = refl
  int_at n _ e = absurd (let no : ⊥ = cc in no)

  text_at : (s : List ℕ) (z : K.Kind-F Kind) → expr_kind_step (O.Text s) kinds z ≡ true → kind_step (V.Text s) z ≡ true
  text_at s K.Text e = refl
  text_at s _ e = absurd (let no : ⊥ = cc in no)

  this_at : (i : InstRef) (z : K.Kind-F Kind) → expr_kind_step O.This kinds z ≡ true → kind_step (V.Inst i) z ≡ true
  this_at i K.Net e = refl
  this_at i _ e = absurd (let no : ⊥ = cc in no)

  step_at : (n : ℤ) (z : K.Kind-F Kind) → expr_kind_step O.Step kinds z ≡ true → kind_step (V.Int n) z ≡ true
  step_at n K.Int e = refl
  step_at n _ e = absurd (let no : ⊥ = cc in no)

  tuple_at : (parts : List Part) (vs : List Value) (z : K.Kind-F Kind) → tested (O.Tuple parts) z ≡ true → worths (map worth (exprs parts)) env ≡ Some vs → kind_step (V.Tuple (map value_has_kind vs)) z ≡ true
  tuple_at parts vs (K.Tuple ks) e f = parts_fit parts ks vs e f
  tuple_at parts vs _ e f = absurd (let no : ⊥ = cc in no)

  list_at : (parts : List Part) (vs : List Value) (z : K.Kind-F Kind) → tested (O.List parts) z ≡ true → worths (map worth (exprs parts)) env ≡ Some vs → kind_step (V.List (map value_has_kind vs)) z ≡ true
  list_at parts vs (K.List k) e f = parts_all parts k vs e f
  list_at parts vs _ e f = absurd (let no : ⊥ = cc in no)

  rest_of : (w : Value) (others : List Value) (kind : Kind) → HasKind w (Kind.List kind) → list_of w ≡ Some others → HasKind (Value.List others) (Kind.List kind)
  rest_of w others kind e is =
      let elements_are : elements w ≡ others = rw is refl in
      ap (λ us. value_has_kind (Value.List us) (Kind.List kind)) (sym elements_are) ∙ ap (λ u. value_has_kind u (Kind.List kind)) (list_of_kind w kind e) ∙ e

  cons_at : (parts : List Part) (tail : Part) (vs others : List Value) (w : Value) (z : K.Kind-F Kind) → tested (O.Cons parts tail) z ≡ true → worths (map worth (exprs parts)) env ≡ Some vs → worth tail.0 env ≡ Some w → list_of w ≡ Some others → kind_step (V.List (map value_has_kind (vs ++ others))) z ≡ true
  cons_at parts tail vs others w (K.List k) e f g h =
      let both = both_true (list_all (λ test. test kinds k) (map expr_has_kind (exprs parts))) (expr_has_kind tail.0 kinds (Kind.List k)) e in
      both_lists k vs others (parts_all parts k vs both.0 f) (list_kinds others k (rest_of w others k (tail.1 (Kind.List k) both.1 w g) h))
  cons_at parts tail vs others w _ e f g h = absurd (let no : ⊥ = cc in no)

  neg_at : (part : Part) (n : ℤ) (z : K.Kind-F Kind) → tested (O.Neg part) z ≡ true → kind_step (V.Int n) z ≡ true
  neg_at part n K.Int e = refl
  neg_at part n _ e = absurd (let no : ⊥ = cc in no)

  op_at : (kind : OpKind) (a b : Part) (n : ℤ) (z : K.Kind-F Kind) → tested (O.Op kind a b) z ≡ true → kind_step (V.Int n) z ≡ true
  op_at kind a b n K.Int e = refl
  op_at kind a b n _ e = absurd (let no : ⊥ = cc in no)

  layer : (y : O.Expr-F Part) (kind : Kind) → expr_or_var_step (map-Expr Expr ((ℕ → Kind) → Kind → Bool) expr_has_kind (map-Expr Part Expr (λ e. e.0) y)) kinds kind ≡ true → (v : Value) → valued y ≡ Some v → value_has_kind v kind ≡ true
  layer (O.Int n) kind e v f = ap (λ u. value_has_kind u kind) (sym (same_Some (Value.Int n) v f)) ∙ kinded_is (Value.Int n) kind ∙ kinded-Int n (out-Kind kind) ∙ int_at n (out-Kind kind) e
  layer (O.Text s) kind e v f = ap (λ u. value_has_kind u kind) (sym (same_Some (Value.Text s) v f)) ∙ kinded_is (Value.Text s) kind ∙ kinded-Text s (out-Kind kind) ∙ text_at s (out-Kind kind) e
  layer (O.Var x) kind e v f = ap (value_has_kind v) (sym (same_is_equal (kinds x) kind e)) ∙ well x v f
  layer O.This kind e v f = ap (λ u. value_has_kind u kind) (sym (same_Some (Value.Inst env.this) v f)) ∙ kinded_is (Value.Inst env.this) kind ∙ kinded-Inst env.this (out-Kind kind) ∙ this_at env.this (out-Kind kind) e
  layer O.Step kind e v f =
      option_map_some (λ n. Value.Int (pos n)) env.step v f (λ n there is.
      ap (λ u. value_has_kind u kind) (sym (same_Some (Value.Int (pos n)) v is)) ∙ kinded_is (Value.Int (pos n)) kind ∙ kinded-Int (pos n) (out-Kind kind) ∙ step_at (pos n) (out-Kind kind) e)
  layer (O.Tuple parts) kind e v f =
      option_map_some (λ vs. Value.Tuple vs) (worths (map worth (exprs parts)) env) v f (λ vs there is.
      ap (λ u. value_has_kind u kind) (sym (same_Some (Value.Tuple vs) v is)) ∙ kinded_is (Value.Tuple vs) kind ∙ kinded-Tuple vs (out-Kind kind) ∙ tuple_at parts vs (out-Kind kind) e there)
  layer (O.List parts) kind e v f =
      option_map_some (λ vs. Value.List vs) (worths (map worth (exprs parts)) env) v f (λ vs there is.
      ap (λ u. value_has_kind u kind) (sym (same_Some (Value.List vs) v is)) ∙ kinded_is (Value.List vs) kind ∙ kinded-List vs (out-Kind kind) ∙ list_at parts vs (out-Kind kind) e there)
  layer (O.Cons parts tail) kind e v f =
      option_and_then_some (λ vs. option_and_then (list_onto vs) (worth tail.0 env)) (worths (map worth (exprs parts)) env) v f (λ vs each rest.
      option_and_then_some (list_onto vs) (worth tail.0 env) v rest (λ w last joined.
      option_map_some (λ others. Value.List (vs ++ others)) (list_of w) v joined (λ others listed is.
      ap (λ u. value_has_kind u kind) (sym (same_Some (Value.List (vs ++ others)) v is)) ∙ kinded_is (Value.List (vs ++ others)) kind ∙ kinded-List (vs ++ others) (out-Kind kind) ∙ cons_at parts tail vs others w (out-Kind kind) e each last listed)))
  layer (O.Neg part) kind e v f =
      let int = neg_is (worth part.0 env) v f in
      ap (λ u. value_has_kind u kind) int.1 ∙ kinded_is (Value.Int int.0) kind ∙ kinded-Int int.0 (out-Kind kind) ∙ neg_at part int.0 (out-Kind kind) e
  layer (O.Op op a b) kind e v f =
      let int = op_is op (worth a.0 env) (worth b.0 env) v f in
      ap (λ u. value_has_kind u kind) int.1 ∙ kinded_is (Value.Int int.0) kind ∙ kinded-Int int.0 (out-Kind kind) ∙ op_at op a b int.0 (out-Kind kind) e

  -- what an expression is worth has its kind
  pub worth_has_kind : (e : Expr) (kind : Kind) → HasExprKind kinds e kind → (v : Value) → worth e env ≡ Some v → HasKind v kind
  worth_has_kind = ind-Expr HasItsKind (λ x y is kind e v f.
      let Here = λ (w : O.Expr-F Expr). expr_or_var_step (map-Expr Expr ((ℕ → Kind) → Kind → Bool) expr_has_kind w) kinds kind ≡ true → (v : Value) → worth_step (map-Expr Expr (Env → Option Value) worth w) env ≡ Some v → value_has_kind v kind ≡ true in
      let here : Here x = subst Here is (layer y kind) in
      here (sym (ap (λ g. g kinds kind) (fold-roll-Expr ((ℕ → Kind) → Kind → Bool) expr_or_var_step x)) ∙ e) v (sym (ap (λ g. g env) (fold-roll-Expr (Env → Option Value) worth_step x)) ∙ f))

-- what is put has its place's kind
pub put_has_kind : (arc : ArcKind) (kind : Kind) (w v : Value) → HasKind w (inscribed_kind arc kind) → Contains (puts arc w) v → HasKind v kind
put_has_kind Output kind w v e there = ap (λ u. value_has_kind u kind) (sym (the_one w v there)) ∙ e
put_has_kind Reserve kind w v e there = ap (λ u. value_has_kind u kind) (sym (the_one w v there)) ∙ e
put_has_kind FlexOutput kind w v e there = each_kind kind (elements w) v (list_kinds (elements w) kind (ap (λ u. value_has_kind u (Kind.List kind)) (list_of_kind w kind e) ∙ e)) there
put_has_kind Input kind w v e there = absurd (not_in_nil v there)
put_has_kind Test kind w v e there = absurd (not_in_nil v there)
put_has_kind FlexInput kind w v e there = absurd (not_in_nil v there)
put_has_kind Inhibit kind w v e there = absurd (not_in_nil v there)
put_has_kind Clear kind w v e there = absurd (not_in_nil v there)

-- A value keeps its kinds where its instances are renamed.
module _ (name : InstRef → InstRef) where
  abbrev rename : Value → Value
  rename = replaced (λ i. Value.Inst (name i))

  abbrev KeepsKinds : Value → Type 0
  KeepsKinds v = (kind : Kind) → value_has_kind v kind ≡ true → value_has_kind (rename v) kind ≡ true

  abbrev KeptPart : Type 0
  KeptPart = (v : Value) × KeepsKinds v

  parts_keep : (parts : List KeptPart) (ks : List Kind) → fit_all (map value_has_kind (map (λ e. e.0) parts)) ks ≡ true → fit_all (map value_has_kind (map rename (map (λ e. e.0) parts))) ks ≡ true
  parts_keep [] [] e = refl
  parts_keep [] (k ∷ ks) e = absurd (let no : ⊥ = cc in no)
  parts_keep (part ∷ parts) [] e = absurd (let no : ⊥ = cc in no)
  parts_keep (part ∷ parts) (k ∷ ks) e =
      let both = both_true (value_has_kind part.0 k) (fit_all (map value_has_kind (map (λ e. e.0) parts)) ks) e in
      true_both (value_has_kind (rename part.0) k) (fit_all (map value_has_kind (map rename (map (λ e. e.0) parts))) ks) (part.1 k both.0) (parts_keep parts ks both.1)

  all_keep : (parts : List KeptPart) (k : Kind) → list_all (λ fits. fits k) (map value_has_kind (map (λ e. e.0) parts)) ≡ true → list_all (λ fits. fits k) (map value_has_kind (map rename (map (λ e. e.0) parts))) ≡ true
  all_keep [] k e = refl
  all_keep (part ∷ parts) k e =
      let both = both_true (value_has_kind part.0 k) (list_all (λ fits. fits k) (map value_has_kind (map (λ e. e.0) parts))) e in
      true_both (value_has_kind (rename part.0) k) (list_all (λ fits. fits k) (map value_has_kind (map rename (map (λ e. e.0) parts)))) (part.1 k both.0) (all_keep parts k both.1)

  tuple_keeps : (parts : List KeptPart) (z : K.Kind-F Kind) → kind_step (V.Tuple (map value_has_kind (map (λ e. e.0) parts))) z ≡ true → kind_step (V.Tuple (map value_has_kind (map rename (map (λ e. e.0) parts)))) z ≡ true
  tuple_keeps parts (K.Tuple ks) e = parts_keep parts ks e
  tuple_keeps parts _ e = absurd (let no : ⊥ = cc in no)

  list_keeps : (parts : List KeptPart) (z : K.Kind-F Kind) → kind_step (V.List (map value_has_kind (map (λ e. e.0) parts))) z ≡ true → kind_step (V.List (map value_has_kind (map rename (map (λ e. e.0) parts)))) z ≡ true
  list_keeps parts (K.List k) e = all_keep parts k e
  list_keeps parts _ e = absurd (let no : ⊥ = cc in no)

  inst_keeps : (i : InstRef) (z : K.Kind-F Kind) → kind_step (V.Inst i) z ≡ true → kind_step (V.Inst (name i)) z ≡ true
  inst_keeps i K.Net e = refl
  inst_keeps i _ e = absurd (let no : ⊥ = cc in no)

  abbrev LayerKeeps : V.Value-F Value → Type 0
  LayerKeeps x = (z : K.Kind-F Kind) → kind_step (map-Value Value (Kind → Bool) value_has_kind x) z ≡ true → kinded (replaced_step (λ i. Value.Inst (name i)) (map-Value Value Value rename x)) z ≡ true

  keeps_layer : (y : V.Value-F KeptPart) → LayerKeeps (map-Value KeptPart Value (λ e. e.0) y)
  keeps_layer (V.Int n) z e = kinded-Int n z ∙ e
  keeps_layer (V.Text s) z e = kinded-Text s z ∙ e
  keeps_layer (V.Tuple parts) z e = kinded-Tuple (map rename (map (λ e. e.0) parts)) z ∙ tuple_keeps parts z e
  keeps_layer (V.List parts) z e = kinded-List (map rename (map (λ e. e.0) parts)) z ∙ list_keeps parts z e
  keeps_layer (V.Inst i) z e = kinded-Inst (name i) z ∙ inst_keeps i z e

  replaced_keeps : (v : Value) → KeepsKinds v
  replaced_keeps = ind-Value KeepsKinds (λ x y is kind e.
      let at_layer : kind_step (map-Value Value (Kind → Bool) value_has_kind x) (out-Kind kind) ≡ true = sym (ap (λ f. f kind) (fold-roll-Value (Kind → Bool) (λ v k. kind_step v (out-Kind k)) x)) ∙ e in
      ap (λ u. value_has_kind u kind) (fold-roll-Value Value (replaced_step (λ i. Value.Inst (name i))) x)
      ∙ kinded_is (replaced_step (λ i. Value.Inst (name i)) (map-Value Value Value rename x)) kind
      ∙ subst LayerKeeps is (keeps_layer y) (out-Kind kind) at_layer)

  -- a value keeps its kinds where its instances are renamed
  pub renamed_has_kind : (v : Value) (kind : Kind) → HasKind v kind → HasKind (renamed_value v name) kind
  renamed_has_kind v kind e = ap (λ u. value_has_kind u kind) (renamed_is_replaced name v) ∙ replaced_keeps v kind e

  -- values beside their variables have their kinds, also where their instances are renamed
  pub beside_has_kind : (kinds : ℕ → Kind) (xs : List ℕ) (vs : List Value) → AllZip (λ x v. HasKind v (kinds x)) xs vs → (x : ℕ) (v : Value) → value_beside (zip xs (map (λ v. renamed_value v name) vs)) x ≡ Some v → HasKind v (kinds x)
  beside_has_kind kinds [] [] all x v e = absurd (let no : ⊥ = cc in no)
  beside_has_kind kinds [] (w ∷ vs) all x v e = absurd all
  beside_has_kind kinds (y ∷ xs) [] all x v e = absurd all
  beside_has_kind kinds (y ∷ xs) (w ∷ vs) all x v e = elim (nat_eq y x) as (λ same. nat_eq y x ≡ same → (if same then Some (renamed_value w name) else value_beside (zip xs (map (λ v. renamed_value v name) vs)) x) ≡ Some v → HasKind v (kinds x)) [
    | true ↦ λ same first.
        let is : y ≡ x = eqb-true y x same in
        ap (λ u. value_has_kind u (kinds x)) (sym (same_Some (renamed_value w name) v first)) ∙ ap (λ z. value_has_kind (renamed_value w name) (kinds z)) (sym is) ∙ renamed_has_kind w (kinds y) all.0
    | false ↦ λ other rest. beside_has_kind kinds xs vs all.1 x v rest
  ] refl e

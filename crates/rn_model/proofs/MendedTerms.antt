-- Terms over unknowns whose values are mended at their kinds.
use Rattle.std.proofs.Common.{◌≡◌, ℕ, ℤ, ◌+◌, Bool, true, List, [], ◌∷◌, ◌++◌, map, length, refl, sym, ap, ◌∙◌, subst}
use Rattle.std.specs.Prelude.{Option, Some, None, option_map, option_and_then}
use Rattle.std.specs.List.{list_all, AllByRecursion}
use Rattle.std.proofs.lemmas.List.{map-append}
use Rattle.std.proofs.lemmas.Option.{same_Some, option_and_then_some}
use Rattle.rn_items.proofs.Options.{option_map_some}
use Rattle.rn_items.proofs.Bools.{both_true}
use Rattle.rn_value.specs.Kinds.{HasKind, value_has_kind, kind_step, fit_all}
use Rattle.rn_value.specs.declared.value.InstRef.{InstRef}
use Rattle.rn_value.specs.declared.value.Kind.{Kind, out-Kind, roll-Kind, roll-out-Kind}
use Rattle.rn_value.specs.declared.value.Kind.TheVariants as Kind
use Rattle.rn_value.specs.declared.value.Kind.TheOpen as K
use Rattle.rn_value.specs.declared.value.Value.{Value, out-Value, map-Value, fold_out-Value}
use Rattle.rn_value.specs.declared.value.Value.TheVariants as Value
use Rattle.rn_value.specs.declared.value.Value.TheOpen as V
use Rattle.rn_model.specs.declared.expr.OpKind.{OpKind}
use Rattle.rn_model.specs.declared.expr.Expr.{Expr, out-Expr, map-Expr, fold_out-Expr}
use Rattle.rn_model.specs.declared.expr.Expr.TheVariants as E
use Rattle.rn_model.specs.declared.expr.Expr.TheOpen as O
use Rattle.rn_model.specs.Kinds.{expr_has_kind, expr_or_var_step, expr_kind_step, HasExprKind}
use Rattle.rn_model.specs.Evaluation.{list_of, list_onto, list_step}
use Rattle.rn_model.specs.Derivation.{Unknowns, term_value, term_step, term_values, unknowns_within, Assignment}
use Rattle.rn_model.specs.KindLaws.{Standing, standing_value, Equation, alike, gives, var_is, hole_is, Meets, IsKinded, HasKindsOf, SolutionsHaveKinds}
use Rattle.rn_model.proofs.DerivationLemmas.{term_value-Int, term_value-Text, term_value-Var, term_value-This, term_value-Tuple, term_value-List, term_value-Cons, term_value-Neg, term_value-Op}
use Rattle.rn_model.proofs.EvaluationLemmas.{list_of-List}
use Rattle.rn_model.proofs.FormsOfExpressions.{by_form}
use Rattle.rn_model.proofs.KindsOfValues.{same_is_equal}
use Rattle.rn_model.proofs.MendedValues.{mend, mends, mend_step, mend_out, apply_all, mend_has, mend_same}

module _ (kinds : ℕ → Kind) where
  -- the second unknowns are the first ones, each mended at its kind
  pub record Mends (u : Unknowns) (w : Unknowns) : Type 0 where
    pub this : w.this ≡ u.this
    pub var : (x : ℕ) → w.var x ≡ mend (kinds x) (u.var x)
    pub hole : (way : List ℕ) → w.hole way ≡ mend Kind.Int (u.hole way)

  within : (i : ℕ) (u w : Unknowns) → Mends u w → Mends (unknowns_within i u) (unknowns_within i w)
  within i u w m = record { this = m.this; var = m.var; hole = λ way. m.hole (i ∷ way) }

  -- a term of a kind under mended unknowns is its value, mended at the kind
  abbrev IsMended : Expr → Type 0
  IsMended e = (kind : Kind) → HasExprKind kinds e kind → (u w : Unknowns) → Mends u w → (v : Value) →
      term_value e u ≡ Some v → term_value e w ≡ Some (mend kind v)

  -- one expression at a kind, opened
  opened : (e : Expr) (kind : Kind) → expr_has_kind e kinds kind ≡ expr_or_var_step (map-Expr Expr ((ℕ → Kind) → Kind → Bool) expr_has_kind (out-Expr e)) kinds kind
  opened e kind = ap (λ f. f kinds kind) (fold_out-Expr ((ℕ → Kind) → Kind → Bool) expr_or_var_step e)

  value_opened : (v : Value) (k : Kind) → value_has_kind v k ≡ kind_step (map-Value Value (Kind → Bool) value_has_kind (out-Value v)) (out-Kind k)
  value_opened v k = ap (λ f. f k) (fold_out-Value (Kind → Bool) (λ v k. kind_step v (out-Kind k)) v)

  int_at : (n : ℤ) (z : K.Kind-F Kind) → expr_kind_step (O.Int n) kinds z ≡ true → kind_step (V.Int n) z ≡ true
  int_at n K.Int e = refl
  int_at n _ e = absurd (let no : ⊥ = cc in no)

  text_at : (s : List ℕ) (z : K.Kind-F Kind) → expr_kind_step (O.Text s) kinds z ≡ true → kind_step (V.Text s) z ≡ true
  text_at s K.Text e = refl
  text_at s _ e = absurd (let no : ⊥ = cc in no)

  this_at : (i : InstRef) (z : K.Kind-F Kind) → expr_kind_step O.This kinds z ≡ true → kind_step (V.Inst i) z ≡ true
  this_at i K.Net e = refl
  this_at i _ e = absurd (let no : ⊥ = cc in no)

  -- a constant stays as it is
  constant : (c : Value) (kind : Kind) → HasKind c kind → (e : Expr) (u w : Unknowns) (v : Value) → term_value e u ≡ Some c → term_value e w ≡ Some c → term_value e u ≡ Some v → term_value e w ≡ Some (mend kind v)
  constant c kind has e u w v before after is =
      let same : c ≡ v = same_Some c v (sym before ∙ is) in
      after ∙ ap Some (sym (mend_same kind c has) ∙ ap (mend kind) same)

  int_mended : (n : ℤ) → IsMended (E.Int n)
  int_mended n kind has u w m v is =
      let step = sym (opened (E.Int n) kind ∙ rw (E.outs-Int n)) ∙ has in
      let fits : HasKind (Value.Int n) kind = value_opened (Value.Int n) kind ∙ rw (Value.outs-Int n) (int_at n (out-Kind kind) step) in
      constant (Value.Int n) kind fits (E.Int n) u w v (term_value-Int n u) (term_value-Int n w) is

  text_mended : (s : List ℕ) → IsMended (E.Text s)
  text_mended s kind has u w m v is =
      let step = sym (opened (E.Text s) kind ∙ rw (E.outs-Text s)) ∙ has in
      let fits : HasKind (Value.Text s) kind = value_opened (Value.Text s) kind ∙ rw (Value.outs-Text s) (text_at s (out-Kind kind) step) in
      constant (Value.Text s) kind fits (E.Text s) u w v (term_value-Text s u) (term_value-Text s w) is

  this_mended : IsMended E.This
  this_mended kind has u w m v is =
      let step = sym (opened E.This kind ∙ rw E.outs-This) ∙ has in
      let fits : HasKind (Value.Inst u.this) kind = value_opened (Value.Inst u.this) kind ∙ rw (Value.outs-Inst u.this) (this_at u.this (out-Kind kind) step) in
      let after : term_value E.This w ≡ Some (Value.Inst u.this) = term_value-This w ∙ ap (λ i. Some (Value.Inst i)) m.this in
      constant (Value.Inst u.this) kind fits E.This u w v (term_value-This u) after is

  var_mended : (x : ℕ) → IsMended (E.Var x)
  var_mended x kind has u w m v is =
      let step = sym (opened (E.Var x) kind ∙ rw (E.outs-Var x)) ∙ has in
      let is_kind : kinds x ≡ kind = same_is_equal (kinds x) kind step in
      let same : u.var x ≡ v = same_Some (u.var x) v (sym (term_value-Var x u) ∙ is) in
      term_value-Var x w ∙ ap Some (m.var x ∙ ap (λ k. mend k (u.var x)) is_kind ∙ ap (mend kind) same)

  term_value-Step : (u : Unknowns) → term_value E.Step u ≡ None
  term_value-Step u = ap (λ f. f u) (fold_out-Expr (Unknowns → Option Value) term_step E.Step) ∙ rw E.outs-Step

  step_mended : IsMended E.Step
  step_mended kind has u w m v is = let none = term_value-Step u in absurd (let no : ⊥ = cc in no)

  -- an operator application is of the kind of whole numbers
  neg_at : (test : (ℕ → Kind) → Kind → Bool) (z : K.Kind-F Kind) → expr_kind_step (O.Neg test) kinds z ≡ true → K.Int ≡ z
  neg_at test K.Int e = refl
  neg_at test _ e = absurd (let no : ⊥ = cc in no)

  op_at : (op : OpKind) (a b : (ℕ → Kind) → Kind → Bool) (z : K.Kind-F Kind) → expr_kind_step (O.Op op a b) kinds z ≡ true → K.Int ≡ z
  op_at op a b K.Int e = refl
  op_at op a b _ e = absurd (let no : ⊥ = cc in no)

  whole : (kind : Kind) → K.Int ≡ out-Kind kind → Kind.Int ≡ kind
  whole kind e = sym Kind.rolls-Int ∙ ap (λ z. roll-Kind z) e ∙ roll-out-Kind kind

  hole_mended : (kind : Kind) → Kind.Int ≡ kind → (e : Expr) → ((u : Unknowns) → term_value e u ≡ Some (u.hole [])) → (u w : Unknowns) → Mends u w → (v : Value) → term_value e u ≡ Some v → term_value e w ≡ Some (mend kind v)
  hole_mended kind int e read u w m v is =
      let same : u.hole [] ≡ v = same_Some (u.hole []) v (sym (read u) ∙ is) in
      read w ∙ ap Some (m.hole [] ∙ ap (λ k. mend k (u.hole [])) int ∙ ap (mend kind) same)

  neg_mended : (part : Expr) → IsMended part → IsMended (E.Neg part)
  neg_mended part _ kind has =
      let step = sym (opened (E.Neg part) kind ∙ rw (E.outs-Neg part)) ∙ has in
      hole_mended kind (whole kind (neg_at (expr_has_kind part) (out-Kind kind) step)) (E.Neg part) (term_value-Neg part)

  op_mended : (op : OpKind) (a b : Expr) → IsMended a → IsMended b → IsMended (E.Op op a b)
  op_mended op a b _ _ kind has =
      let step = sym (opened (E.Op op a b) kind ∙ rw (E.outs-Op op a b)) ∙ has in
      hole_mended kind (whole kind (op_at op (expr_has_kind a) (expr_has_kind b) (out-Kind kind) step)) (E.Op op a b) (term_value-Op op a b)

  abbrev tests : List Expr → List ((ℕ → Kind) → Kind → Bool)
  tests parts = map expr_has_kind parts

  abbrev terms : List Expr → List (Unknowns → Option Value)
  terms parts = map term_value parts

  -- the parts of a tuple, each at its kind
  parts_fit : (parts : List Expr) → AllByRecursion IsMended parts → (ks : List Kind) → fit_all (map (λ test. test kinds) (tests parts)) ks ≡ true → (i : ℕ) (u w : Unknowns) → Mends u w → (vs : List Value) →
      term_values i (terms parts) u ≡ Some vs → term_values i (terms parts) w ≡ Some (apply_all (map mend ks) vs)
  parts_fit [] all [] e i u w m vs is = ap (λ us. Some (apply_all [] us)) (same_Some [] vs is)
  parts_fit [] all (k ∷ ks) e i u w m vs is = absurd (let no : ⊥ = cc in no)
  parts_fit (part ∷ parts) all [] e i u w m vs is = absurd (let no : ⊥ = cc in no)
  parts_fit (part ∷ parts) all (k ∷ ks) e i u w m vs is =
      let both = both_true (expr_has_kind part kinds k) (fit_all (map (λ test. test kinds) (tests parts)) ks) e in
      option_and_then_some (λ v. option_map (λ vs. v ∷ vs) (term_values (i + 1) (terms parts) u)) (term_value part (unknowns_within i u)) vs is (λ v first rest.
      option_map_some (λ vs. v ∷ vs) (term_values (i + 1) (terms parts) u) vs rest (λ ws others made.
      let here : term_value part (unknowns_within i w) ≡ Some (mend k v) = all.0 k both.0 (unknowns_within i u) (unknowns_within i w) (within i u w m) v first in
      let later : term_values (i + 1) (terms parts) w ≡ Some (apply_all (map mend ks) ws) = parts_fit parts all.1 ks both.1 (i + 1) u w m ws others in
      let joined : term_values i (terms (part ∷ parts)) w ≡ Some (mend k v ∷ apply_all (map mend ks) ws) = rw (here, later) refl in
      joined ∙ ap (λ us. Some (apply_all (map mend (k ∷ ks)) us)) (same_Some (v ∷ ws) vs made)))

  -- the parts of a list, all at one kind
  parts_all : (parts : List Expr) → AllByRecursion IsMended parts → (k : Kind) → list_all (λ test. test kinds k) (tests parts) ≡ true → (i : ℕ) (u w : Unknowns) → Mends u w → (vs : List Value) →
      term_values i (terms parts) u ≡ Some vs → term_values i (terms parts) w ≡ Some (map (mend k) vs)
  parts_all [] all k e i u w m vs is = ap (λ us. Some (map (mend k) us)) (same_Some [] vs is)
  parts_all (part ∷ parts) all k e i u w m vs is =
      let both = both_true (expr_has_kind part kinds k) (list_all (λ test. test kinds k) (tests parts)) e in
      option_and_then_some (λ v. option_map (λ vs. v ∷ vs) (term_values (i + 1) (terms parts) u)) (term_value part (unknowns_within i u)) vs is (λ v first rest.
      option_map_some (λ vs. v ∷ vs) (term_values (i + 1) (terms parts) u) vs rest (λ ws others made.
      let here : term_value part (unknowns_within i w) ≡ Some (mend k v) = all.0 k both.0 (unknowns_within i u) (unknowns_within i w) (within i u w m) v first in
      let later : term_values (i + 1) (terms parts) w ≡ Some (map (mend k) ws) = parts_all parts all.1 k both.1 (i + 1) u w m ws others in
      let joined : term_values i (terms (part ∷ parts)) w ≡ Some (mend k v ∷ map (mend k) ws) = rw (here, later) refl in
      joined ∙ ap (λ us. Some (map (mend k) us)) (same_Some (v ∷ ws) vs made)))

  tuple_at : (parts : List Expr) → AllByRecursion IsMended parts → (z : K.Kind-F Kind) → expr_kind_step (O.Tuple (tests parts)) kinds z ≡ true → (u w : Unknowns) → Mends u w → (vs : List Value) →
      term_values 0 (terms parts) u ≡ Some vs → option_map (λ vs. Value.Tuple vs) (term_values 0 (terms parts) w) ≡ Some (mend_step (mends z) (V.Tuple vs))
  tuple_at parts all (K.Tuple ks) e u w m vs is = ap (option_map (λ vs. Value.Tuple vs)) (parts_fit parts all ks e 0 u w m vs is)
  tuple_at parts all _ e u w m vs is = absurd (let no : ⊥ = cc in no)

  -- a value of a known layer, mended
  at_layer : (kind : Kind) (c v : Value) (x : V.Value-F Value) → out-Value c ≡ x → c ≡ v → mend_step (mends (out-Kind kind)) x ≡ mend kind v
  at_layer kind c v x out same = ap (mend_step (mends (out-Kind kind))) (sym out) ∙ sym (mend_out kind c) ∙ ap (mend kind) same

  tuple_mended : (parts : List Expr) → AllByRecursion IsMended parts → IsMended (E.Tuple parts)
  tuple_mended parts all kind has u w m v is =
      let step = sym (opened (E.Tuple parts) kind ∙ rw (E.outs-Tuple parts)) ∙ has in
      option_map_some (λ vs. Value.Tuple vs) (term_values 0 (terms parts) u) v (sym (term_value-Tuple parts u) ∙ is) (λ vs each made.
      term_value-Tuple parts w ∙ tuple_at parts all (out-Kind kind) step u w m vs each ∙ ap Some (at_layer kind (Value.Tuple vs) v (V.Tuple vs) (Value.outs-Tuple vs) (same_Some (Value.Tuple vs) v made)))

  list_at : (parts : List Expr) → AllByRecursion IsMended parts → (z : K.Kind-F Kind) → expr_kind_step (O.List (tests parts)) kinds z ≡ true → (u w : Unknowns) → Mends u w → (vs : List Value) →
      term_values 0 (terms parts) u ≡ Some vs → option_map (λ vs. Value.List vs) (term_values 0 (terms parts) w) ≡ Some (mend_step (mends z) (V.List vs))
  list_at parts all (K.List k) e u w m vs is = ap (option_map (λ vs. Value.List vs)) (parts_all parts all k e 0 u w m vs is)
  list_at parts all _ e u w m vs is = absurd (let no : ⊥ = cc in no)

  list_mended : (parts : List Expr) → AllByRecursion IsMended parts → IsMended (E.List parts)
  list_mended parts all kind has u w m v is =
      let step = sym (opened (E.List parts) kind ∙ rw (E.outs-List parts)) ∙ has in
      option_map_some (λ vs. Value.List vs) (term_values 0 (terms parts) u) v (sym (term_value-List parts u) ∙ is) (λ vs each made.
      term_value-List parts w ∙ list_at parts all (out-Kind kind) step u w m vs each ∙ ap Some (at_layer kind (Value.List vs) v (V.List vs) (Value.outs-List vs) (same_Some (Value.List vs) v made)))

  -- a value that is a list is the list of its elements
  listed_layer : (x : V.Value-F Value) (vs : List Value) (v : Value) → out-Value v ≡ x → list_of v ≡ Some vs → out-Value v ≡ V.List vs
  listed_layer (V.Int n) vs v out is = absurd (let no : ⊥ = cc in no)
  listed_layer (V.Text s) vs v out is = absurd (let no : ⊥ = cc in no)
  listed_layer (V.Tuple ws) vs v out is = absurd (let no : ⊥ = cc in no)
  listed_layer (V.List ws) vs v out is = out ∙ ap (λ us. V.List us) (same_Some ws vs (ap list_step (sym out) ∙ is))
  listed_layer (V.Inst i) vs v out is = absurd (let no : ⊥ = cc in no)

  cons_at : (parts : List Expr) (tail : Expr) → AllByRecursion IsMended parts → IsMended tail → (z : K.Kind-F Kind) → expr_kind_step (O.Cons (tests parts) (expr_has_kind tail)) kinds z ≡ true → (u w : Unknowns) → Mends u w → (vs others : List Value) (t : Value) →
      term_values 0 (terms parts) u ≡ Some vs → term_value tail (unknowns_within (length (terms parts)) u) ≡ Some t → list_of t ≡ Some others →
      option_and_then (λ vs. option_and_then (list_onto vs) (term_value tail (unknowns_within (length (terms parts)) w))) (term_values 0 (terms parts) w) ≡ Some (mend_step (mends z) (V.List (vs ++ others)))
  cons_at parts tail all last (K.List k) e u w m vs others t each ends listed =
      let n = length (terms parts) in
      let both = both_true (list_all (λ test. test kinds k) (tests parts)) (expr_has_kind tail kinds (Kind.List k)) e in
      let firsts : term_values 0 (terms parts) w ≡ Some (map (mend k) vs) = parts_all parts all k both.0 0 u w m vs each in
      let rest : term_value tail (unknowns_within n w) ≡ Some (mend (Kind.List k) t) = last (Kind.List k) both.1 (unknowns_within n u) (unknowns_within n w) (within n u w m) t ends in
      let layer : out-Value t ≡ V.List others = listed_layer (out-Value t) others t refl listed in
      let mended : mend (Kind.List k) t ≡ Value.List (map (mend k) others) = mend_out (Kind.List k) t ∙ ap (λ z. mend_step (mends z) (out-Value t)) (Kind.outs-List k) ∙ ap (mend_step (mends (K.List k))) layer in
      let list : list_of (mend (Kind.List k) t) ≡ Some (map (mend k) others) = ap list_of mended ∙ list_of-List (map (mend k) others) in
      let joined : option_and_then (λ vs. option_and_then (list_onto vs) (term_value tail (unknowns_within n w))) (term_values 0 (terms parts) w) ≡ Some (Value.List (map (mend k) vs ++ map (mend k) others)) = rw (firsts, rest, list) refl in
      joined ∙ ap (λ us. Some (Value.List us)) (sym (map-append (mend k) vs others))
  cons_at parts tail all last _ e u w m vs others t each ends listed = absurd (let no : ⊥ = cc in no)

  cons_mended : (parts : List Expr) (tail : Expr) → AllByRecursion IsMended parts → IsMended tail → IsMended (E.Cons parts tail)
  cons_mended parts tail all last kind has u w m v is =
      let n = length (terms parts) in
      let step = sym (opened (E.Cons parts tail) kind ∙ rw (E.outs-Cons parts tail)) ∙ has in
      option_and_then_some (λ vs. option_and_then (list_onto vs) (term_value tail (unknowns_within n u))) (term_values 0 (terms parts) u) v (sym (term_value-Cons parts tail u) ∙ is) (λ vs each rest.
      option_and_then_some (list_onto vs) (term_value tail (unknowns_within n u)) v rest (λ t ends joined.
      option_map_some (λ others. Value.List (vs ++ others)) (list_of t) v joined (λ others listed made.
      term_value-Cons parts tail w ∙ cons_at parts tail all last (out-Kind kind) step u w m vs others t each ends listed
      ∙ ap Some (at_layer kind (Value.List (vs ++ others)) v (V.List (vs ++ others)) (Value.outs-List (vs ++ others)) (same_Some (Value.List (vs ++ others)) v made)))))

  pub term_mended : (e : Expr) → IsMended e
  term_mended = by_form IsMended (record {
    int = int_mended;
    text = text_mended;
    var = var_mended;
    this = this_mended;
    step = step_mended;
    tuple = tuple_mended;
    list = list_mended;
    cons = cons_mended;
    neg = neg_mended;
    op = op_mended;
  })

-- An assignment with each value mended at its kind.
module _ (kinds : List ℕ → ℕ → Kind) (a : Assignment) where
  abbrev pub mended_by : Assignment
  mended_by = record {
    var = λ path x. mend (kinds path x) (a.var path x);
    hole = λ path site way. mend Kind.Int (a.hole path site way);
  }

  abbrev seen : Assignment → Standing → Unknowns
  seen of s = record { this = s.inst; var = of.var s.path; hole = of.hole s.path s.site }

  pub standing_mended : (s : Standing) (e : Expr) (kind : Kind) (v : Value) → HasExprKind (kinds s.path) e kind → standing_value a s e ≡ Some v → standing_value mended_by s e ≡ Some (mend kind v)
  standing_mended s e kind v has is =
      term_mended (kinds s.path) e kind has (seen a s) (seen mended_by s) (record { this = refl; var = λ x. refl; hole = λ way. refl }) v is

  vars_kinds : (path : List ℕ) (x : ℕ) → HasKind (mended_by.var path x) (kinds path x)
  vars_kinds path x = mend_has (kinds path x) (a.var path x)

  term_kinds : (s : Standing) (e : Expr) (kind : Kind) (v : Value) → HasExprKind (kinds s.path) e kind → standing_value mended_by s e ≡ Some v → HasKind v kind
  term_kinds s e kind v has is =
      let still : Mends (kinds s.path) (seen mended_by s) (seen mended_by s) = record {
        this = refl;
        var = λ x. sym (mend_same (kinds s.path x) (mended_by.var s.path x) (vars_kinds s.path x));
        hole = λ way. sym (mend_same Kind.Int (mended_by.hole s.path s.site way) (mend_has Kind.Int (a.hole s.path s.site way)));
      } in
      let again = term_mended (kinds s.path) e kind has (seen mended_by s) (seen mended_by s) still v is in
      let same : v ≡ mend kind v = same_Some v (mend kind v) (sym is ∙ again) in
      subst (λ u. HasKind u kind) (sym same) (mend_has kind v)

  pub mended_has_kinds : HasKindsOf kinds mended_by
  mended_has_kinds = record {
    vars = vars_kinds;
    holes = λ path site way. mend_has Kind.Int (a.hole path site way);
    terms = term_kinds;
  }

  -- an equation with a kind stays satisfied
  pub mended_meets : (q : Equation) → IsKinded kinds q → Meets a q → Meets mended_by q
  mended_meets (alike s e r f) (kind, first, second) (v, here, there) =
      (mend kind v, standing_mended s e kind v first here, standing_mended r f kind v second there)
  mended_meets (gives s e v) (kind, has, fits) is = standing_mended s e kind v has is ∙ ap Some (mend_same kind v fits)
  mended_meets (var_is path x v) fits is = ap (mend (kinds path x)) is ∙ mend_same (kinds path x) v fits
  mended_meets (hole_is path site way v) fits is = ap (mend Kind.Int) is ∙ mend_same Kind.Int v fits

pub solutions_have_kinds : SolutionsHaveKinds
solutions_have_kinds kinds a = (mended_by kinds a, mended_has_kinds kinds a, mended_meets kinds a)

-- Expressions read where instances are replaced by values: as terms, and as what they are worth.
use Rattle.std.proofs.Common.{◌≡◌, ℕ, ℤ, pos, negsuc, ◌+◌, ◌-◌, ◌^◌, ◌&&◌, List, [], ◌∷◌, map, length, refl, sym, ap, ◌∙◌, subst}
use Rattle.std.specs.Prelude.{◌+ℤ◌, ◌-ℤ◌, ◌*ℤ◌, neg_ℤ, int_le, int_div, int_rem, Bool, true, false, Option, Some, None, option_map, option_and_then, nat_eq, if◌then◌else◌}
use Rattle.std.specs.Ordering.{int_eq}
use Rattle.std.specs.List.{AllByRecursion}
use Rattle.std.proofs.lemmas.Option.{same_Some}
use Rattle.rn_value.specs.declared.value.InstRef.{InstRef}
use Rattle.rn_value.specs.declared.value.Value.{Value}
use Rattle.rn_value.specs.declared.value.Value.TheVariants as Value
use Rattle.rn_model.specs.declared.expr.Expr.{Expr, map-Expr, fold-roll-Expr, ind-Expr}
use Rattle.rn_model.specs.declared.expr.Expr.TheOpen as O
use Rattle.rn_model.specs.declared.expr.OpKind.{OpKind}
use Rattle.rn_model.specs.declared.expr.OpKind.TheVariants.{Add, Sub, Mul, Div, Rem}
use Rattle.rn_model.specs.Lists.{value_beside}
use Rattle.rn_model.specs.Evaluation.{Env, worth, worth_step, worths, list_onto, op_value, neg_value, int_of, int_value, int_result}
use Rattle.rn_model.specs.Derivation.{Unknowns, term_value, term_step, term_values, unknowns_within}
use Rattle.rn_model.proofs.ReplacedValues.{replaced, replaced-Int, replaced-Text, replaced-Tuple, replaced-List, replaced-Inst, IsPlain, list_onto-replaced, int_of-replaced}

module _ (put : InstRef → Value) (plain : IsPlain put) where
  abbrev rep : Value → Value
  rep = replaced put

  -- parts that are replaced one by one
  joined : (o : Option Value) (os : Option (List Value)) →
      option_and_then (λ v. option_map (λ vs. v ∷ vs) (option_map (map rep) os)) (option_map rep o) ≡ option_map (map rep) (option_and_then (λ v. option_map (λ vs. v ∷ vs) os) o)
  joined None os = refl
  joined (Some v) None = refl
  joined (Some v) (Some vs) = refl

  tupled : (o : Option (List Value)) → option_map (λ vs. Value.Tuple vs) (option_map (map rep) o) ≡ option_map rep (option_map (λ vs. Value.Tuple vs) o)
  tupled None = refl
  tupled (Some vs) = ap Some (sym (replaced-Tuple put vs))

  listed : (o : Option (List Value)) → option_map (λ vs. Value.List vs) (option_map (map rep) o) ≡ option_map rep (option_map (λ vs. Value.List vs) o)
  listed None = refl
  listed (Some vs) = ap Some (sym (replaced-List put vs))

  consed : (o : Option (List Value)) (t : Option Value) →
      option_and_then (λ vs. option_and_then (list_onto vs) (option_map rep t)) (option_map (map rep) o) ≡ option_map rep (option_and_then (λ vs. option_and_then (list_onto vs) t) o)
  consed None t = refl
  consed (Some vs) None = refl
  consed (Some vs) (Some w) = list_onto-replaced put plain vs w

  -- the unknowns with each instance in their values replaced
  abbrev pub replaced_unknowns : Unknowns → Unknowns
  replaced_unknowns u = record { this = u.this; var = λ x. rep (u.var x); hole = λ way. rep (u.hole way) }

  abbrev KeepsThis : InstRef → Type 0
  KeepsThis i = put i ≡ Value.Inst i

  abbrev IsReadReplaced : Expr → Type 0
  IsReadReplaced e = (u : Unknowns) → KeepsThis u.this → term_value e (replaced_unknowns u) ≡ option_map rep (term_value e u)

  abbrev Part : Type 0
  Part = (e : Expr) × IsReadReplaced e

  abbrev exprs : List Part → List Expr
  exprs parts = map (λ e. e.0) parts

  parts_read : (parts : List Part) (i : ℕ) (u : Unknowns) → KeepsThis u.this → term_values i (map term_value (exprs parts)) (replaced_unknowns u) ≡ option_map (map rep) (term_values i (map term_value (exprs parts)) u)
  parts_read [] i u keeps = refl
  parts_read (part ∷ parts) i u keeps =
      let others = term_values (i + 1) (map term_value (exprs parts)) in
      ap (λ o. option_and_then (λ v. option_map (λ vs. v ∷ vs) (others (replaced_unknowns u))) o) (part.1 (unknowns_within i u) keeps)
      ∙ ap (λ os. option_and_then (λ v. option_map (λ vs. v ∷ vs) os) (option_map rep (term_value part.0 (unknowns_within i u)))) (parts_read parts (i + 1) u keeps)
      ∙ joined (term_value part.0 (unknowns_within i u)) (others u)

  abbrev read : O.Expr-F Part → Unknowns → Option Value
  read y u = term_step (map-Expr Expr (Unknowns → Option Value) term_value (map-Expr Part Expr (λ e. e.0) y)) u

  layer : (y : O.Expr-F Part) (u : Unknowns) → KeepsThis u.this → read y (replaced_unknowns u) ≡ option_map rep (read y u)
  layer (O.Int n) u keeps = ap Some (sym (replaced-Int put n))
  layer (O.Text s) u keeps = ap Some (sym (replaced-Text put s))
  layer (O.Var x) u keeps = refl
  layer O.This u keeps = ap Some (sym (replaced-Inst put u.this ∙ keeps))
  layer O.Step u keeps = refl
  layer (O.Tuple parts) u keeps = ap (option_map (λ vs. Value.Tuple vs)) (parts_read parts 0 u keeps) ∙ tupled (term_values 0 (map term_value (exprs parts)) u)
  layer (O.List parts) u keeps = ap (option_map (λ vs. Value.List vs)) (parts_read parts 0 u keeps) ∙ listed (term_values 0 (map term_value (exprs parts)) u)
  layer (O.Cons parts tail) u keeps =
      let k = length (map term_value (exprs parts)) in
      let each = term_values 0 (map term_value (exprs parts)) in
      ap (λ o. option_and_then (λ vs. option_and_then (list_onto vs) (term_value tail.0 (unknowns_within k (replaced_unknowns u)))) o) (parts_read parts 0 u keeps)
      ∙ ap (λ t. option_and_then (λ vs. option_and_then (list_onto vs) t) (option_map (map rep) (each u))) (tail.1 (unknowns_within k u) keeps)
      ∙ consed (each u) (term_value tail.0 (unknowns_within k u))
  layer (O.Neg part) u keeps = refl
  layer (O.Op kind a b) u keeps = refl

  abbrev LayerIsReplaced : O.Expr-F Expr → Type 0
  LayerIsReplaced x = (u : Unknowns) → KeepsThis u.this →
      term_step (map-Expr Expr (Unknowns → Option Value) term_value x) (replaced_unknowns u) ≡ option_map rep (term_step (map-Expr Expr (Unknowns → Option Value) term_value x) u)

  -- a term over unknowns with their instances replaced is the term with its instances replaced
  pub term_value-replaced : (e : Expr) (u : Unknowns) → put u.this ≡ Value.Inst u.this → term_value e (replaced_unknowns u) ≡ option_map (replaced put) (term_value e u)
  term_value-replaced = ind-Expr IsReadReplaced (λ x y is u keeps.
      let rolled = λ (w : Unknowns). ap (λ g. g w) (fold-roll-Expr (Unknowns → Option Value) term_step x) in
      let here : LayerIsReplaced x = subst LayerIsReplaced is (layer y) in
      rolled (replaced_unknowns u) ∙ here u keeps ∙ ap (option_map rep) (sym (rolled u)))

  -- Readings of which the second has the instances of the first replaced.
  pub record IsReplaced (env : Env) (other : Env) : Type 0 where
    pub this : put env.this ≡ Value.Inst other.this
    pub step : other.step ≡ env.step
    pub pairs : other.pairs ≡ map (λ p. (p.0, rep p.1)) env.pairs

  beside_or : (x k : ℕ) (v : Value) (rest other : Option Value) (same : Bool) → other ≡ option_map rep rest → (if same then Some (rep v) else other) ≡ option_map rep (if same then Some v else rest)
  beside_or x k v rest other true e = refl
  beside_or x k v rest other false e = e

  beside : (pairs : List (ℕ × Value)) (x : ℕ) → value_beside (map (λ p. (p.0, rep p.1)) pairs) x ≡ option_map rep (value_beside pairs x)
  beside [] x = refl
  beside (p ∷ pairs) x = beside_or x p.0 p.1 (value_beside pairs x) (value_beside (map (λ p. (p.0, rep p.1)) pairs) x) (nat_eq p.0 x) (beside pairs x)

  int_or_none : (z : ℤ) (fits : Bool) → (if fits then Some (Value.Int z) else None) ≡ option_map rep (if fits then Some (Value.Int z) else None)
  int_or_none z true = ap Some (sym (replaced-Int put z))
  int_or_none z false = refl

  int_value-replaced : (z : ℤ) → int_value z ≡ option_map rep (int_value z)
  int_value-replaced z = int_or_none z (int_le (negsuc (2 ^ 63 - 1)) z && int_le z (pos (2 ^ 63 - 1)))

  unless_zero : (zero_is : Bool) (z : ℤ) → (if zero_is then None else int_value z) ≡ option_map rep (if zero_is then None else int_value z)
  unless_zero true z = refl
  unless_zero false z = int_value-replaced z

  int_result-replaced : (kind : OpKind) (x y : ℤ) → int_result kind x y ≡ option_map rep (int_result kind x y)
  int_result-replaced Add x y = int_value-replaced (x +ℤ y)
  int_result-replaced Sub x y = int_value-replaced (x -ℤ y)
  int_result-replaced Mul x y = int_value-replaced (x *ℤ y)
  int_result-replaced Div x y = unless_zero (int_eq y (pos 0)) (int_div x y)
  int_result-replaced Rem x y = unless_zero (int_eq y (pos 0)) (int_rem x y)

  abbrev op_of : OpKind → Option ℤ → Option ℤ → Option Value
  op_of kind a b = option_and_then (λ x. option_and_then (int_result kind x) b) a

  op_of-replaced : (kind : OpKind) (a b : Option ℤ) → op_of kind a b ≡ option_map rep (op_of kind a b)
  op_of-replaced kind None b = refl
  op_of-replaced kind (Some x) None = refl
  op_of-replaced kind (Some x) (Some y) = int_result-replaced kind x y

  neg_of-replaced : (a : Option ℤ) → option_and_then (λ x. int_value (neg_ℤ x)) a ≡ option_map rep (option_and_then (λ x. int_value (neg_ℤ x)) a)
  neg_of-replaced None = refl
  neg_of-replaced (Some x) = int_value-replaced (neg_ℤ x)

  same_int : (a : Option Value) → option_and_then int_of (option_map rep a) ≡ option_and_then int_of a
  same_int None = refl
  same_int (Some v) = int_of-replaced put plain v

  step_value : (step : Option ℕ) → option_map (λ n. Value.Int (pos n)) step ≡ option_map rep (option_map (λ n. Value.Int (pos n)) step)
  step_value None = refl
  step_value (Some n) = ap Some (sym (replaced-Int put (pos n)))

  abbrev IsWorthReplaced : Expr → Type 0
  IsWorthReplaced e = (env other : Env) → IsReplaced env other → worth e other ≡ option_map rep (worth e env)

  abbrev WorthPart : Type 0
  WorthPart = (e : Expr) × IsWorthReplaced e

  abbrev forms : List WorthPart → List Expr
  forms parts = map (λ e. e.0) parts

  parts_worth : (parts : List WorthPart) (env other : Env) → IsReplaced env other → worths (map worth (forms parts)) other ≡ option_map (map rep) (worths (map worth (forms parts)) env)
  parts_worth [] env other r = refl
  parts_worth (part ∷ parts) env other r =
      let others = worths (map worth (forms parts)) in
      ap (λ o. option_and_then (λ v. option_map (λ vs. v ∷ vs) (others other)) o) (part.1 env other r)
      ∙ ap (λ os. option_and_then (λ v. option_map (λ vs. v ∷ vs) os) (option_map rep (worth part.0 env))) (parts_worth parts env other r)
      ∙ joined (worth part.0 env) (others env)

  abbrev worth_read : O.Expr-F WorthPart → Env → Option Value
  worth_read y env = worth_step (map-Expr Expr (Env → Option Value) worth (map-Expr WorthPart Expr (λ e. e.0) y)) env

  worth_layer : (y : O.Expr-F WorthPart) (env other : Env) → IsReplaced env other → worth_read y other ≡ option_map rep (worth_read y env)
  worth_layer (O.Int n) env other r = ap Some (sym (replaced-Int put n))
  worth_layer (O.Text s) env other r = ap Some (sym (replaced-Text put s))
  worth_layer (O.Var x) env other r = ap (λ pairs. value_beside pairs x) r.pairs ∙ beside env.pairs x
  worth_layer O.This env other r = ap Some (sym (replaced-Inst put env.this ∙ r.this))
  worth_layer O.Step env other r = ap (option_map (λ n. Value.Int (pos n))) r.step ∙ step_value env.step
  worth_layer (O.Tuple parts) env other r = ap (option_map (λ vs. Value.Tuple vs)) (parts_worth parts env other r) ∙ tupled (worths (map worth (forms parts)) env)
  worth_layer (O.List parts) env other r = ap (option_map (λ vs. Value.List vs)) (parts_worth parts env other r) ∙ listed (worths (map worth (forms parts)) env)
  worth_layer (O.Cons parts tail) env other r =
      let each = worths (map worth (forms parts)) in
      ap (λ o. option_and_then (λ vs. option_and_then (list_onto vs) (worth tail.0 other)) o) (parts_worth parts env other r)
      ∙ ap (λ t. option_and_then (λ vs. option_and_then (list_onto vs) t) (option_map (map rep) (each env))) (tail.1 env other r)
      ∙ consed (each env) (worth tail.0 env)
  worth_layer (O.Neg part) env other r =
      ap neg_value (part.1 env other r)
      ∙ ap (option_and_then (λ x. int_value (neg_ℤ x))) (same_int (worth part.0 env))
      ∙ neg_of-replaced (option_and_then int_of (worth part.0 env))
  worth_layer (O.Op kind a b) env other r =
      ap (λ o. op_value kind o (worth b.0 other)) (a.1 env other r)
      ∙ ap (op_value kind (option_map rep (worth a.0 env))) (b.1 env other r)
      ∙ ap (λ x. op_of kind x (option_and_then int_of (option_map rep (worth b.0 env)))) (same_int (worth a.0 env))
      ∙ ap (op_of kind (option_and_then int_of (worth a.0 env))) (same_int (worth b.0 env))
      ∙ op_of-replaced kind (option_and_then int_of (worth a.0 env)) (option_and_then int_of (worth b.0 env))

  abbrev LayerIsWorth : O.Expr-F Expr → Type 0
  LayerIsWorth x = (env other : Env) → IsReplaced env other →
      worth_step (map-Expr Expr (Env → Option Value) worth x) other ≡ option_map rep (worth_step (map-Expr Expr (Env → Option Value) worth x) env)

  -- what an expression is worth where instances are replaced is what it was worth, replaced
  pub worth-replaced : (e : Expr) (env other : Env) → IsReplaced env other → worth e other ≡ option_map (replaced put) (worth e env)
  worth-replaced = ind-Expr IsWorthReplaced (λ x y is env other r.
      let rolled = λ (w : Env). ap (λ g. g w) (fold-roll-Expr (Env → Option Value) worth_step x) in
      let here : LayerIsWorth x = subst LayerIsWorth is (worth_layer y) in
      rolled other ∙ here env other r ∙ ap (option_map rep) (sym (rolled env)))

  abbrev IsFixed : ℕ × Value → Type 0
  IsFixed p = rep p.1 ≡ p.1

  all_fixed : (pairs : List (ℕ × Value)) → AllByRecursion IsFixed pairs → pairs ≡ map (λ p. (p.0, rep p.1)) pairs
  all_fixed [] f = refl
  all_fixed (p ∷ pairs) f = ap (λ v. (p.0, v) ∷ pairs) (sym f.0) ∙ ap (λ ps. (p.0, rep p.1) ∷ ps) (all_fixed pairs f.1)

  -- the readings in which nothing is to be replaced
  pub record IsFixedEnv (env : Env) : Type 0 where
    pub this : put env.this ≡ Value.Inst env.this
    pub pairs : AllByRecursion (λ p. replaced put p.1 ≡ p.1) env.pairs

  fixed_some : (o : Option Value) (v : Value) → o ≡ option_map rep o → o ≡ Some v → rep v ≡ v
  fixed_some o v e is = same_Some (rep v) v (ap (option_map rep) (sym is) ∙ sym e ∙ is)

  -- there an expression's value has nothing to be replaced
  pub worth_is_fixed : (e : Expr) (env : Env) (v : Value) → IsFixedEnv env → worth e env ≡ Some v → replaced put v ≡ v
  worth_is_fixed e env v f is = fixed_some (worth e env) v (worth-replaced e env env (record { this = f.this; step = refl; pairs = all_fixed env.pairs f.pairs })) is

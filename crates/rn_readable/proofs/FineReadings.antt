-- Expressions whose constants are fine, read where values are fine: as terms, and as what they are
-- worth.
use Rattle.std.proofs.Common.{◌≡◌, ℕ, ℤ, suc, pos, negsuc, ◌+◌, ◌-◌, ◌^◌, ◌<◌, ◌≤◌, ◌&&◌}
use Rattle.std.proofs.Common.{Bool, true, false, List, [], ◌∷◌, ◌++◌, map, length, refl, sym, ap}
use Rattle.std.proofs.Common.{◌∙◌, subst, arith}
use Rattle.std.specs.Prelude.{◌+ℤ◌, ◌-ℤ◌, ◌*ℤ◌, neg_ℤ, int_le, int_div, int_rem, Option, Some}
use Rattle.std.specs.Prelude.{None, option_map, option_and_then, max, fold, nat_le}
use Rattle.std.specs.Prelude.{if◌then◌else◌}
use Rattle.std.specs.Ordering.{int_eq}
use Rattle.std.specs.List.{AllByRecursion, list_all}
use Rattle.std.specs.Str.{is_utf8}
use Rattle.std.proofs.lemmas.Bool.Decides.{nat_tests}
use Rattle.std.proofs.lemmas.Option.{same_Some, option_and_then_some}
use Rattle.rn_items.proofs.Options.{option_map_some}
use Rattle.rn_items.proofs.Bools.{both_true}
use Rattle.rn_value.specs.declared.value.Value.{Value}
use Rattle.rn_value.specs.declared.value.Value.TheVariants as Value
use Rattle.rn_value.proofs.Variants.{same_parts_of_lists}
use Rattle.rn_model.specs.declared.expr.Expr.{Expr, map-Expr, fold-Expr, fold-roll-Expr}
use Rattle.rn_model.specs.declared.expr.Expr.{para-roll-Expr, ind-Expr}
use Rattle.rn_model.specs.declared.expr.Expr.TheOpen as O
use Rattle.rn_model.specs.declared.expr.OpKind.{OpKind}
use Rattle.rn_model.specs.declared.expr.OpKind.TheVariants.{Add, Sub, Mul, Div, Rem}
use Rattle.rn_model.specs.Lists.{value_beside}
use Rattle.rn_model.specs.Kinds.{greatest, value_depth, expr_depth, expr_depth_step}
use Rattle.rn_model.specs.Evaluation.{Env, worth, worth_step, worths, list_onto, list_of, op_value}
use Rattle.rn_model.specs.Evaluation.{neg_value, int_of, int_value, int_result}
use Rattle.rn_model.specs.Derivation.{Unknowns, term_value, term_step, term_values}
use Rattle.rn_model.specs.Derivation.{unknowns_within, Hole, holes_in, holes_step, holes_of_parts}
use Rattle.rn_model.specs.Derivation.{within_part}
use Rattle.rn_model.proofs.EachElement.{each_append, each_map}
use Rattle.rn_model.proofs.EvaluationLemmas.{worth-Neg, worth-Op}
use Rattle.rn_lines.specs.Laws.{has_sixty_four_bits}
use Rattle.rn_readable.proofs.MendedValues.{mended, IsFine, int_is_fine, text_is_fine}
use Rattle.rn_readable.proofs.MendedValues.{mended-Tuple, mended-List, mended-Inst}
use Rattle.rn_readable.proofs.MendedValues.{list_onto-mended}
use Rattle.rn_readable.proofs.MendedValues.{listed}
use Rattle.rn_readable.proofs.ShallowValues.{depth-Int, depth-Text, depth-Tuple, depth-List}
use Rattle.rn_readable.proofs.ShallowValues.{depth-Inst, joined_depth}

-- One expression, with whether the constants of each part are fine. Those below an operator are no
-- matter, since its result has 64 bits.
abbrev pub constants_step : O.Expr-F Bool → Bool
constants_step (O.Int n) = has_sixty_four_bits n
constants_step (O.Text s) = is_utf8 s
constants_step (O.Tuple parts) = list_all (λ p. p) parts
constants_step (O.List parts) = list_all (λ p. p) parts
constants_step (O.Cons parts tail) = list_all (λ p. p) parts && tail
constants_step _ = true

-- whether each constant of an expression is fine
abbrev pub constants_fine : Expr → Bool
constants_fine = fold-Expr Bool constants_step

-- Results of operators have 64 bits.
abbrev pub IsFineInt : Value → Type 0
IsFineInt v = (z : ℤ) × (v ≡ Value.Int z) × (has_sixty_four_bits z ≡ true)

has_bits : (z : ℤ) → int_le (negsuc (2 ^ 63 - 1)) z && int_le z (pos (2 ^ 63 - 1)) ≡ true →
    has_sixty_four_bits z ≡ true
has_bits (pos n) e =
    let low : nat_le n 9223372036854775807 ≡ true =
    (both_true (int_le (negsuc (2 ^ 63 - 1)) (pos n)) (int_le (pos n) (pos (2 ^ 63 - 1))) e).1 in
    let below : n < 9223372036854775808 = grind (arith, nat_tests) in
    grind (arith, nat_tests)
has_bits (negsuc n) e =
    let low : nat_le n 9223372036854775807 ≡ true =
    (both_true (int_le (negsuc (2 ^ 63 - 1)) (negsuc n))
    (int_le (negsuc n) (pos (2 ^ 63 - 1))) e).0 in
    let below : n < 9223372036854775808 = grind (arith, nat_tests) in
    grind (arith, nat_tests)

int_or_none : (z : ℤ) (v : Value) (fits : Bool) → (fits ≡ true → has_sixty_four_bits z ≡ true) →
    (if fits then Some (Value.Int z) else None) ≡ Some v → IsFineInt v
int_or_none z v true bits e = (z, sym (same_Some (Value.Int z) v e), bits refl)
int_or_none z v false bits e = absurd (let no : ⊥ = cc in no)

int_value_is : (z : ℤ) (v : Value) → int_value z ≡ Some v → IsFineInt v
int_value_is z v e =
    int_or_none z v (int_le (negsuc (2 ^ 63 - 1)) z && int_le z (pos (2 ^ 63 - 1))) (has_bits z) e

unless_zero : (zero_is : Bool) (z : ℤ) (v : Value) →
    (if zero_is then None else int_value z) ≡ Some v → IsFineInt v
unless_zero true z v e = absurd (let no : ⊥ = cc in no)
unless_zero false z v e = int_value_is z v e

int_result_is : (kind : OpKind) (x y : ℤ) (v : Value) → int_result kind x y ≡ Some v → IsFineInt v
int_result_is Add x y v e = int_value_is (x +ℤ y) v e
int_result_is Sub x y v e = int_value_is (x -ℤ y) v e
int_result_is Mul x y v e = int_value_is (x *ℤ y) v e
int_result_is Div x y v e = unless_zero (int_eq y (pos 0)) (int_div x y) v e
int_result_is Rem x y v e = unless_zero (int_eq y (pos 0)) (int_rem x y) v e

op_of : (kind : OpKind) (a b : Option ℤ) (v : Value) →
    option_and_then (λ x. option_and_then (int_result kind x) b) a ≡ Some v → IsFineInt v
op_of kind None b v e = absurd (let no : ⊥ = cc in no)
op_of kind (Some x) None v e = absurd (let no : ⊥ = cc in no)
op_of kind (Some x) (Some y) v e = int_result_is kind x y v e

neg_of : (a : Option ℤ) (v : Value) → option_and_then (λ x. int_value (neg_ℤ x)) a ≡ Some v →
    IsFineInt v
neg_of None v e = absurd (let no : ⊥ = cc in no)
neg_of (Some x) v e = int_value_is (neg_ℤ x) v e

op_is : (kind : OpKind) (a b : Option Value) (v : Value) → op_value kind a b ≡ Some v → IsFineInt v
op_is kind a b v e = op_of kind (option_and_then int_of a) (option_and_then int_of b) v e

neg_is : (a : Option Value) (v : Value) → neg_value a ≡ Some v → IsFineInt v
neg_is a v e = neg_of (option_and_then int_of a) v e

-- what the application in a hole is worth is such a number
abbrev pub GivesFine : Hole → Type 0
GivesFine hole = (env : Env) (v : Value) → worth hole.form env ≡ Some v → IsFine v

abbrev HolesGiveFine : Expr → Type 0
HolesGiveFine e = AllByRecursion GivesFine (holes_in e)

abbrev HolePart : Type 0
HolePart = (e : Expr) × HolesGiveFine e

abbrev with_holes : Expr → Expr × List Hole
with_holes e = (e, holes_in e)

parts_give : (parts : List HolePart) (i : ℕ) →
    AllByRecursion GivesFine (holes_of_parts i (map with_holes (map (λ e. e.0) parts)))
parts_give [] i = tt
parts_give (part ∷ parts) i =
    each_append GivesFine (map (within_part i) (holes_in part.0))
    (holes_of_parts (i + 1) (map with_holes (map (λ e. e.0) parts)))
    (each_map GivesFine (within_part i) (holes_in part.0) part.1) (parts_give parts (i + 1))

with_last_give : (parts : List HolePart) (last : HolePart) (i : ℕ) →
    AllByRecursion GivesFine
    (holes_of_parts i (map with_holes (map (λ e. e.0) parts) ++ with_holes last.0 ∷ []))
with_last_give [] last i =
    each_append GivesFine (map (within_part i) (holes_in last.0)) []
    (each_map GivesFine (within_part i) (holes_in last.0) last.1) tt
with_last_give (part ∷ parts) last i =
    each_append GivesFine (map (within_part i) (holes_in part.0))
    (holes_of_parts (i + 1) (map with_holes (map (λ e. e.0) parts) ++ with_holes last.0 ∷ []))
    (each_map GivesFine (within_part i) (holes_in part.0) part.1)
    (with_last_give parts last (i + 1))

fine_of_int : (v : Value) → IsFineInt v → IsFine v
fine_of_int v is = subst IsFine (sym is.1) (int_is_fine is.0 is.2)

holes_layer : (y : O.Expr-F HolePart) →
    AllByRecursion GivesFine (holes_step (map-Expr Expr (Expr × List Hole) with_holes
    (map-Expr HolePart Expr (λ e. e.0) y)))
holes_layer (O.Int n) = tt
holes_layer (O.Text s) = tt
holes_layer (O.Var x) = tt
holes_layer O.This = tt
holes_layer O.Step = tt
holes_layer (O.Tuple parts) = parts_give parts 0
holes_layer (O.List parts) = parts_give parts 0
holes_layer (O.Cons parts tail) = with_last_give parts tail 0
holes_layer (O.Neg part) =
    (λ env v e. fine_of_int v (neg_is (worth part.0 env) v (sym (worth-Neg part.0 env) ∙ e)), tt)
holes_layer (O.Op kind a b) = (
  λ env v e. fine_of_int v
      (op_is kind (worth a.0 env) (worth b.0 env) v (sym (worth-Op kind a.0 b.0 env) ∙ e)),
  tt,
)

pub holes_give_fine : (e : Expr) → AllByRecursion GivesFine (holes_in e)
holes_give_fine = ind-Expr HolesGiveFine (λ x y is.
    subst (AllByRecursion GivesFine) (sym (para-roll-Expr (List Hole) holes_step x))
    (subst (λ z. AllByRecursion GivesFine
    (holes_step (map-Expr Expr (Expr × List Hole) with_holes z))) is (holes_layer y)))

-- Values that are mended one by one.
each_mended : (o : Option Value) (os : Option (List Value)) →
    option_and_then (λ v. option_map (λ vs. v ∷ vs) (option_map (map mended) os))
    (option_map mended o)
    ≡ option_map (map mended) (option_and_then (λ v. option_map (λ vs. v ∷ vs) os) o)
each_mended None os = refl
each_mended (Some v) None = refl
each_mended (Some v) (Some vs) = refl

tupled : (o : Option (List Value)) →
    option_map (λ vs. Value.Tuple vs) (option_map (map mended) o)
    ≡ option_map mended (option_map (λ vs. Value.Tuple vs) o)
tupled None = refl
tupled (Some vs) = ap Some (sym (mended-Tuple vs))

as_list : (o : Option (List Value)) →
    option_map (λ vs. Value.List vs) (option_map (map mended) o)
    ≡ option_map mended (option_map (λ vs. Value.List vs) o)
as_list None = refl
as_list (Some vs) = ap Some (sym (mended-List vs))

consed : (o : Option (List Value)) (t : Option Value) →
    option_and_then (λ vs. option_and_then (list_onto vs) (option_map mended t))
    (option_map (map mended) o)
    ≡ option_map mended (option_and_then (λ vs. option_and_then (list_onto vs) t) o)
consed None t = refl
consed (Some vs) None = refl
consed (Some vs) (Some w) = list_onto-mended vs w

-- the unknowns with their values mended
abbrev pub mended_unknowns : Unknowns → Unknowns
mended_unknowns u = record {
  this = u.this;
  var = λ x. mended (u.var x);
  hole = λ way. mended (u.hole way);
}

abbrev IsReadMended : Expr → Type 0
IsReadMended e = constants_fine e ≡ true → (u : Unknowns) →
    term_value e (mended_unknowns u) ≡ option_map mended (term_value e u)

abbrev ReadPart : Type 0
ReadPart = (e : Expr) × IsReadMended e

abbrev read_exprs : List ReadPart → List Expr
read_exprs parts = map (λ e. e.0) parts

parts_read : (parts : List ReadPart) (i : ℕ) (u : Unknowns) →
    list_all (λ p. p) (map constants_fine (read_exprs parts)) ≡ true →
    term_values i (map term_value (read_exprs parts)) (mended_unknowns u)
    ≡ option_map (map mended) (term_values i (map term_value (read_exprs parts)) u)
parts_read [] i u fine = refl
parts_read (part ∷ parts) i u fine =
    let both = both_true (constants_fine part.0)
    (list_all (λ p. p) (map constants_fine (read_exprs parts))) fine in
    let others = term_values (i + 1) (map term_value (read_exprs parts)) in
    ap (λ o. option_and_then (λ v. option_map (λ vs. v ∷ vs) (others (mended_unknowns u))) o)
    (part.1 both.0 (unknowns_within i u))
    ∙ ap (λ os. option_and_then (λ v. option_map (λ vs. v ∷ vs) os)
    (option_map mended (term_value part.0 (unknowns_within i u))))
    (parts_read parts (i + 1) u both.1)
    ∙ each_mended (term_value part.0 (unknowns_within i u)) (others u)

abbrev LayerRead : O.Expr-F Expr → Type 0
LayerRead x = constants_step (map-Expr Expr Bool constants_fine x) ≡ true → (u : Unknowns) →
    term_step (map-Expr Expr (Unknowns → Option Value) term_value x) (mended_unknowns u)
    ≡ option_map mended (term_step (map-Expr Expr (Unknowns → Option Value) term_value x) u)

read_layer : (y : O.Expr-F ReadPart) → LayerRead (map-Expr ReadPart Expr (λ e. e.0) y)
read_layer (O.Int n) fine u = ap Some (sym (int_is_fine n fine))
read_layer (O.Text s) fine u = ap Some (sym (text_is_fine s fine))
read_layer (O.Var x) fine u = refl
read_layer O.This fine u = ap Some (sym (mended-Inst u.this))
read_layer O.Step fine u = refl
read_layer (O.Tuple parts) fine u =
    ap (option_map (λ vs. Value.Tuple vs)) (parts_read parts 0 u fine)
    ∙ tupled (term_values 0 (map term_value (read_exprs parts)) u)
read_layer (O.List parts) fine u =
    ap (option_map (λ vs. Value.List vs)) (parts_read parts 0 u fine)
    ∙ as_list (term_values 0 (map term_value (read_exprs parts)) u)
read_layer (O.Cons parts tail) fine u =
    let both = both_true (list_all (λ p. p) (map constants_fine (read_exprs parts)))
    (constants_fine tail.0) fine in
    let k = length (map term_value (read_exprs parts)) in
    let each = term_values 0 (map term_value (read_exprs parts)) in
    ap (λ o. option_and_then (λ vs. option_and_then (list_onto vs)
    (term_value tail.0 (unknowns_within k (mended_unknowns u)))) o) (parts_read parts 0 u both.0)
    ∙ ap (λ t. option_and_then (λ vs. option_and_then (list_onto vs) t)
    (option_map (map mended) (each u))) (tail.1 both.1 (unknowns_within k u))
    ∙ consed (each u) (term_value tail.0 (unknowns_within k u))
read_layer (O.Neg part) fine u = refl
read_layer (O.Op kind a b) fine u = refl

-- a term over mended unknowns is the term mended
pub term_value-mended : (e : Expr) → constants_fine e ≡ true → (u : Unknowns) →
    term_value e (mended_unknowns u) ≡ option_map mended (term_value e u)
term_value-mended = ind-Expr IsReadMended (λ x y is fine u.
    let rolled = λ (w : Unknowns).
    ap (λ g. g w) (fold-roll-Expr (Unknowns → Option Value) term_step x) in
    let here : LayerRead x = subst LayerRead is (read_layer y) in
    rolled (mended_unknowns u) ∙ here (sym (fold-roll-Expr Bool constants_step x) ∙ fine) u
    ∙ ap (option_map mended) (sym (rolled u)))

-- Values that are fine, and no deeper than this.
abbrev pub IsFineUpTo : ℕ → Value → Type 0
IsFineUpTo most v = IsFine v × (value_depth v ≤ most)

-- a reading whose values are such, and in which `step()` has 64 bits
pub record IsFineEnv (most : ℕ) (env : Env) : Type 0 where
  pub step : (n : ℕ) → env.step ≡ Some n → n < 9223372036854775808
  pub values : (x : ℕ) (v : Value) → value_beside env.pairs x ≡ Some v → IsFineUpTo most v

abbrev AllFine : ℕ → ℕ → List Value → Type 0
AllFine a most vs = (map mended vs ≡ vs) × (fold max a (map value_depth vs) ≤ most)

tuple_fine : (vs : List Value) (n most : ℕ) → AllFine 0 (n + most) vs →
    IsFineUpTo (suc n + most) (Value.Tuple vs)
tuple_fine vs n most all =
    let deep = depth-Tuple vs in
    let parts = all.1 in
    (mended-Tuple vs ∙ ap (λ us. Value.Tuple us) all.0, omega (arith, deep, parts))

list_fine : (vs : List Value) (n most : ℕ) → AllFine 0 (n + most) vs →
    IsFineUpTo (suc n + most) (Value.List vs)
list_fine vs n most all =
    let deep = depth-List vs in
    let parts = all.1 in
    (mended-List vs ∙ ap (λ us. Value.List us) all.0, omega (arith, deep, parts))

joined_fine : (vs ws : List Value) → map mended vs ≡ vs → map mended ws ≡ ws →
    map mended (vs ++ ws) ≡ vs ++ ws
joined_fine [] ws e f = f
joined_fine (v ∷ vs) ws e f =
    let first : mended v ≡ v = cc in
    let others : map mended vs ≡ vs = cc in
    ap (λ u. u ∷ map mended (vs ++ ws)) first ∙ ap (λ us. v ∷ us) (joined_fine vs ws others f)

flat_int : (v : Value) (most : ℕ) → IsFineInt v → IsFineUpTo most v
flat_int v most is =
    let none : value_depth v ≡ 0 = ap value_depth is.1 ∙ depth-Int is.0 in
    (fine_of_int v is, omega (arith, none))

step_bits : (n : ℕ) → n < 9223372036854775808 → has_sixty_four_bits (pos n) ≡ true
step_bits n low = grind (arith, nat_tests)

module _ (most : ℕ) (env : Env) (fine_env : IsFineEnv most env) where
  abbrev IsWorthFine : Expr → Type 0
  IsWorthFine e = constants_fine e ≡ true → (v : Value) → worth e env ≡ Some v →
      IsFineUpTo (expr_depth e + most) v

  abbrev Part : Type 0
  Part = (e : Expr) × IsWorthFine e

  abbrev exprs : List Part → List Expr
  exprs parts = map (λ e. e.0) parts

  parts_worth : (parts : List Part) (a b : ℕ) (vs : List Value) → a ≤ b + most →
      list_all (λ p. p) (map constants_fine (exprs parts)) ≡ true →
      worths (map worth (exprs parts)) env ≡ Some vs →
      AllFine a (fold max b (map expr_depth (exprs parts)) + most) vs
  parts_worth [] a b vs h fine e =
      subst (AllFine a (b + most)) (same_Some [] vs e) (refl, h)
  parts_worth (part ∷ parts) a b vs h fine e =
      let both = both_true (constants_fine part.0)
      (list_all (λ p. p) (map constants_fine (exprs parts))) fine in
      option_and_then_some
      (λ v. option_map (λ ws. v ∷ ws) (worths (map worth (exprs parts)) env)) (worth part.0 env) vs
      e (λ v first rest.
      option_map_some (λ ws. v ∷ ws) (worths (map worth (exprs parts)) env) vs rest
      (λ ws others made.
      let one = part.1 both.0 v first in
      let low = one.1 in
      let more = parts_worth parts (max a (value_depth v)) (max b (expr_depth part.0)) ws
      (omega (arith, h, low)) both.1 others in
      subst
      (AllFine a (fold max (max b (expr_depth part.0)) (map expr_depth (exprs parts)) + most))
      (same_Some (v ∷ ws) vs made)
      (ap (λ u. u ∷ map mended ws) one.0 ∙ ap (λ us. v ∷ us) more.0, more.1)))

  cons_worth : (parts : List Part) (tail : Part) (vs others : List Value) (w : Value) →
      list_all (λ p. p) (map constants_fine (exprs parts)) && constants_fine tail.0 ≡ true →
      worths (map worth (exprs parts)) env ≡ Some vs → worth tail.0 env ≡ Some w →
      list_of w ≡ Some others →
      IsFineUpTo
      (suc (max (greatest (map expr_depth (exprs parts))) (expr_depth tail.0)) + most)
      (Value.List (vs ++ others))
  cons_worth parts tail vs others w fine each last is =
      let both = both_true (list_all (λ p. p) (map constants_fine (exprs parts)))
      (constants_fine tail.0) fine in
      let first = parts_worth parts 0 0 vs (omega arith) both.0 each in
      let rest = tail.1 both.1 w last in
      let is_list : w ≡ Value.List others = listed w others is in
      let others_fine : map mended others ≡ others =
      same_parts_of_lists (map mended others) others
      (sym (mended-List others) ∙ subst IsFine is_list rest.0) in
      let depth : value_depth w ≡ suc (greatest (map value_depth others)) =
      ap value_depth is_list ∙ depth-List others in
      let low = first.1 in
      let high = rest.1 in
      let top = max (greatest (map expr_depth (exprs parts))) (expr_depth tail.0) in
      let deep : greatest (map value_depth (vs ++ others)) ≤ top + most =
      joined_depth vs others 0 (top + most) (omega (arith, low)) (omega (arith, high, depth)) in
      list_fine (vs ++ others) top most (joined_fine vs others first.0 others_fine, deep)

  abbrev LayerWorth : O.Expr-F Expr → Type 0
  LayerWorth x = constants_step (map-Expr Expr Bool constants_fine x) ≡ true → (v : Value) →
      worth_step (map-Expr Expr (Env → Option Value) worth x) env ≡ Some v →
      IsFineUpTo (expr_depth_step (map-Expr Expr ℕ expr_depth x) + most) v

  flat_fine : (v w : Value) → v ≡ w → IsFine v → value_depth v ≡ 0 → IsFineUpTo (0 + most) w
  flat_fine v w is fine none = subst (IsFineUpTo (0 + most)) is (fine, omega (arith, none))

  worth_layer : (y : O.Expr-F Part) → LayerWorth (map-Expr Part Expr (λ e. e.0) y)
  worth_layer (O.Int n) fine v e =
      flat_fine (Value.Int n) v (same_Some (Value.Int n) v e) (int_is_fine n fine) (depth-Int n)
  worth_layer (O.Text s) fine v e =
      flat_fine (Value.Text s) v (same_Some (Value.Text s) v e) (text_is_fine s fine)
      (depth-Text s)
  worth_layer (O.Var x) fine v e =
      let value = fine_env.values x v e in
      let low = value.1 in
      (value.0, omega (arith, low))
  worth_layer O.This fine v e =
      flat_fine (Value.Inst env.this) v (same_Some (Value.Inst env.this) v e)
      (mended-Inst env.this) (depth-Inst env.this)
  worth_layer O.Step fine v e =
      option_map_some (λ n. Value.Int (pos n)) env.step v e (λ n there is.
      flat_fine (Value.Int (pos n)) v (same_Some (Value.Int (pos n)) v is)
      (int_is_fine (pos n) (step_bits n (fine_env.step n there))) (depth-Int (pos n)))
  worth_layer (O.Tuple parts) fine v e =
      option_map_some (λ vs. Value.Tuple vs) (worths (map worth (exprs parts)) env) v e
      (λ vs each is.
      subst (IsFineUpTo (suc (greatest (map expr_depth (exprs parts))) + most))
      (same_Some (Value.Tuple vs) v is)
      (tuple_fine vs (greatest (map expr_depth (exprs parts))) most
      (parts_worth parts 0 0 vs (omega arith) fine each)))
  worth_layer (O.List parts) fine v e =
      option_map_some (λ vs. Value.List vs) (worths (map worth (exprs parts)) env) v e
      (λ vs each is.
      subst (IsFineUpTo (suc (greatest (map expr_depth (exprs parts))) + most))
      (same_Some (Value.List vs) v is)
      (list_fine vs (greatest (map expr_depth (exprs parts))) most
      (parts_worth parts 0 0 vs (omega arith) fine each)))
  worth_layer (O.Cons parts tail) fine v e =
      option_and_then_some (λ vs. option_and_then (list_onto vs) (worth tail.0 env))
      (worths (map worth (exprs parts)) env) v e (λ vs each rest.
      option_and_then_some (list_onto vs) (worth tail.0 env) v rest (λ w last joined.
      option_map_some (λ others. Value.List (vs ++ others)) (list_of w) v joined (λ others is made.
      subst
      (IsFineUpTo (suc (max (greatest (map expr_depth (exprs parts))) (expr_depth tail.0)) + most))
      (same_Some (Value.List (vs ++ others)) v made)
      (cons_worth parts tail vs others w fine each last is))))
  worth_layer (O.Neg part) fine v e =
      flat_int v (expr_depth part.0 + most) (neg_is (worth part.0 env) v e)
  worth_layer (O.Op kind a b) fine v e =
      flat_int v (max (expr_depth a.0) (expr_depth b.0) + most)
      (op_is kind (worth a.0 env) (worth b.0 env) v e)

  -- what an expression is worth is fine, and no deeper than it and its values are together
  pub worth_is_fine : (e : Expr) → constants_fine e ≡ true → (v : Value) → worth e env ≡ Some v →
      IsFineUpTo (expr_depth e + most) v
  worth_is_fine = ind-Expr IsWorthFine (λ x y is fine v e.
      let here : LayerWorth x = subst LayerWorth is (worth_layer y) in
      let found = here (sym (fold-roll-Expr Bool constants_step x) ∙ fine) v
      (sym (ap (λ g. g env) (fold-roll-Expr (Env → Option Value) worth_step x)) ∙ e) in
      subst (λ n. IsFineUpTo (n + most) v) (sym (fold-roll-Expr ℕ expr_depth_step x)) found)

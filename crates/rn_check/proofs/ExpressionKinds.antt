-- An expression in which nothing is broken has each kind that comes of its pattern.
use Rattle.std.proofs.Common.{◌≡◌, ℕ, ℤ, Bool, true, List, [], ◌∷◌, ◌++◌, map, refl}
use Rattle.std.proofs.Common.{sym, ap, ◌∙◌, subst}
use Rattle.std.specs.Prelude.{Option, Some, None, is_none, unwrap_or, flat_map, not}
use Rattle.std.specs.List.{list_all}
use Rattle.rn_notation.specs.declared.token.Spot.{Spot}
use Rattle.rn_items.proofs.Bools.{both_true, true_both}
use Rattle.rn_value.specs.Kinds.{fit_all}
use Rattle.rn_value.specs.declared.value.Kind.{Kind, out-Kind, roll-Kind, roll-out-Kind}
use Rattle.rn_value.specs.declared.value.Kind.TheVariants as Kind
use Rattle.rn_value.specs.declared.value.Kind.TheOpen as K
use Rattle.rn_model.specs.declared.expr.OpKind.{OpKind}
use Rattle.rn_model.specs.declared.expr.Expr.{Expr, map-Expr, out-Expr, fold_out-Expr}
use Rattle.rn_model.specs.declared.expr.Expr.TheVariants as E
use Rattle.rn_model.specs.declared.expr.Expr.TheOpen as O
use Rattle.rn_model.specs.Kinds.{same_kind, expr_has_kind, expr_or_var_step, expr_kind_step}
use Rattle.rn_model.specs.Limits.{most_parts}
use Rattle.rn_inscript.specs.declared.exprs.PExpr.{PExpr, PExpr-F, ind-PExpr, fold-roll-PExpr}
use Rattle.rn_inscript.specs.declared.exprs.PForm.{PForm, map-PForm, roll-PForm, fold-PForm}
use Rattle.rn_inscript.specs.declared.exprs.PForm.{fold-roll-PForm}
use Rattle.rn_inscript.specs.declared.exprs.PForm.TheOpen as F
use Rattle.rn_inscript.specs.Expressions.{at_spot}
use Rattle.rn_declared.specs.declared.fault.Rule.TheVariants as Rule
use Rattle.rn_declared.specs.declared.pattern.Pattern.{Pattern}
use Rattle.rn_declared.specs.declared.pattern.Pattern.TheVariants as Pattern
use Rattle.rn_declared.specs.declared.pattern.Pattern.TheOpen as P
use Rattle.rn_declared.specs.Faults.{broken_if, past_limit}
use Rattle.rn_declared.specs.Patterns.{gives_step, gives_kind}
use Rattle.rn_rules.specs.Expressions.{Where, Seen, seen_of, seen_form, whole, tuple_of, listed}
use Rattle.rn_rules.specs.Expressions.{with_element, with_elements, operand_faults, operands_faults}
use Rattle.rn_rules.specs.Expressions.{apart}
use Rattle.rn_numbered.specs.Numbered.{expr_of, expr_of_form}
use Rattle.rn_numbered.proofs.NumberedForms.{Numbered, form_expr, expr-at, expr-roll}
use Rattle.rn_declared.proofs.PatternKinds.{gives-Int, gives-Text, gives-Tuple, gives-List, gives-Net}
use Rattle.rn_declared.proofs.PatternKinds.{both_gives}
use Rattle.rn_declared.proofs.Faultless.{both_nil}
use Rattle.rn_check.proofs.FaultlessExpressions.{not_apart, operand_fits}

-- expressions and their forms as the rules see them
abbrev pub Parts : Type 0
Parts = Where → Seen

abbrev pub Forms : Type 0
Forms = Spot → Where → Seen

abbrev pub form_seen : PForm → Forms
form_seen = fold-PForm Forms Parts seen_form (λ e. e.form e.spot)

-- what is seen of an expression is what is seen of its form at its spot
pub seen-at : (s : Spot) (f : PForm) → seen_of (at_spot s f) ≡ form_seen f s
seen-at s f =
    fold-roll-PExpr Forms Parts seen_form (λ e. e.form e.spot) (record { form = f; spot = s })

pub seen-roll : (x : F.PForm-F PForm PExpr) →
    form_seen (roll-PForm x) ≡ seen_form (map-PForm PForm PExpr Forms Parts form_seen seen_of x)
seen-roll x = fold-roll-PForm Forms Parts seen_form (λ e. e.form e.spot) x

module _ (kinds : ℕ → Kind) where
  opened : (e : Expr) (k : Kind) →
      expr_has_kind e kinds k
      ≡ expr_or_var_step (map-Expr Expr ((ℕ → Kind) → Kind → Bool) expr_has_kind (out-Expr e))
      kinds k
  opened e k =
      ap (λ f. f kinds k) (fold_out-Expr ((ℕ → Kind) → Kind → Bool) expr_or_var_step e)

  pub has-Int : (n : ℤ) (k : Kind) →
      expr_has_kind (E.Int n) kinds k ≡ expr_kind_step (O.Int n) kinds (out-Kind k)
  has-Int n k = opened (E.Int n) k ∙ rw (E.outs-Int n)

  pub has-Text : (s : List ℕ) (k : Kind) →
      expr_has_kind (E.Text s) kinds k ≡ expr_kind_step (O.Text s) kinds (out-Kind k)
  has-Text s k = opened (E.Text s) k ∙ rw (E.outs-Text s)

  pub has-Var : (x : ℕ) (k : Kind) → expr_has_kind (E.Var x) kinds k ≡ same_kind (kinds x) k
  has-Var x k = opened (E.Var x) k ∙ rw (E.outs-Var x)

  pub has-This : (k : Kind) →
      expr_has_kind E.This kinds k ≡ expr_kind_step O.This kinds (out-Kind k)
  has-This k = opened E.This k ∙ rw E.outs-This

  pub has-Step : (k : Kind) →
      expr_has_kind E.Step kinds k ≡ expr_kind_step O.Step kinds (out-Kind k)
  has-Step k = opened E.Step k ∙ rw E.outs-Step

  pub has-Tuple : (es : List Expr) (k : Kind) →
      expr_has_kind (E.Tuple es) kinds k
      ≡ expr_kind_step (O.Tuple (map expr_has_kind es)) kinds (out-Kind k)
  has-Tuple es k = opened (E.Tuple es) k ∙ rw (E.outs-Tuple es)

  pub has-List : (es : List Expr) (k : Kind) →
      expr_has_kind (E.List es) kinds k
      ≡ expr_kind_step (O.List (map expr_has_kind es)) kinds (out-Kind k)
  has-List es k = opened (E.List es) k ∙ rw (E.outs-List es)

  pub has-Cons : (es : List Expr) (e : Expr) (k : Kind) →
      expr_has_kind (E.Cons es e) kinds k
      ≡ expr_kind_step (O.Cons (map expr_has_kind es) (expr_has_kind e)) kinds (out-Kind k)
  has-Cons es e k = opened (E.Cons es e) k ∙ rw (E.outs-Cons es e)

  pub has-Neg : (e : Expr) (k : Kind) →
      expr_has_kind (E.Neg e) kinds k
      ≡ expr_kind_step (O.Neg (expr_has_kind e)) kinds (out-Kind k)
  has-Neg e k = opened (E.Neg e) k ∙ rw (E.outs-Neg e)

  pub has-Op : (op : OpKind) (a b : Expr) (k : Kind) →
      expr_has_kind (E.Op op a b) kinds k
      ≡ expr_kind_step (O.Op op (expr_has_kind a) (expr_has_kind b)) kinds (out-Kind k)
  has-Op op a b k = opened (E.Op op a b) k ∙ rw (E.outs-Op op a b)

-- Variables have the kinds that come of their patterns.
abbrev pub AreKnown : Where → (List ℕ → ℕ) → (ℕ → Kind) → Type 0
AreKnown at var kinds = (name : List ℕ) (p : Pattern) (k : Kind) →
    at.pattern_of_var name ≡ Some p → gives_kind p k ≡ true →
    same_kind (kinds (var name)) k ≡ true

module _ (at : Where) (var : List ℕ → ℕ) (kinds : ℕ → Kind) (known : AreKnown at var kinds) where
  abbrev HasItsKinds : PExpr → Type 0
  HasItsKinds e = (seen_of e at).faults ≡ [] → (k : Kind) →
      gives_kind (seen_of e at).pattern k ≡ true → expr_has_kind (expr_of e var) kinds k ≡ true

  abbrev FormHasItsKinds : PForm → Type 0
  FormHasItsKinds f = (s : Spot) → (form_seen f s at).faults ≡ [] → (k : Kind) →
      gives_kind (form_seen f s at).pattern k ≡ true →
      expr_has_kind (form_expr f var) kinds k ≡ true

  abbrev Part : Type 0
  Part = (e : PExpr) × HasItsKinds e

  abbrev FormPart : Type 0
  FormPart = (f : PForm) × FormHasItsKinds f

  abbrev heads : F.PForm-F FormPart Part → F.PForm-F PForm PExpr
  heads y = map-PForm FormPart Part PForm PExpr (λ e. e.0) (λ e. e.0) y

  abbrev seens : List Part → List Seen
  seens parts = map (λ s. s at) (map seen_of (map (λ e. e.0) parts))

  abbrev exprs : List Part → List Expr
  exprs parts = map (λ e. e var) (map expr_of (map (λ e. e.0) parts))

  int_has : (n : ℤ) (z : K.Kind-F Kind) → gives_step P.Int z ≡ true →
      expr_kind_step (O.Int n) kinds z ≡ true
  int_has n K.Int e = refl
  int_has n _ e = absurd (let no : ⊥ = cc in no)

  text_has : (s : List ℕ) (z : K.Kind-F Kind) → gives_step P.Text z ≡ true →
      expr_kind_step (O.Text s) kinds z ≡ true
  text_has s K.Text e = refl
  text_has s _ e = absurd (let no : ⊥ = cc in no)

  this_has : (z : K.Kind-F Kind) → gives_step P.Net z ≡ true →
      expr_kind_step O.This kinds z ≡ true
  this_has K.Net e = refl
  this_has _ e = absurd (let no : ⊥ = cc in no)

  step_has : (z : K.Kind-F Kind) → gives_step P.Int z ≡ true →
      expr_kind_step O.Step kinds z ≡ true
  step_has K.Int e = refl
  step_has _ e = absurd (let no : ⊥ = cc in no)

  var_has : (name : List ℕ) (o : Option Pattern) (s : Spot) (k : Kind) →
      at.pattern_of_var name ≡ o → broken_if (is_none o) Rule.Known s ≡ [] →
      gives_kind (unwrap_or o Pattern.Any) k ≡ true → same_kind (kinds (var name)) k ≡ true
  var_has name None s k is e g = absurd (let no : ⊥ = cc in no)
  var_has name (Some p) s k is e g = known name p k is g

  tuple_parts : (parts : List Part) (ks : List Kind) →
      flat_map (λ e. e.faults) (seens parts) ≡ [] →
      fit_all (map gives_kind (map (λ e. e.pattern) (seens parts))) ks ≡ true →
      fit_all (map (λ test. test kinds) (map expr_has_kind (exprs parts))) ks ≡ true
  tuple_parts [] ks e g = g
  tuple_parts (part ∷ parts) [] e g = absurd (let no : ⊥ = cc in no)
  tuple_parts (part ∷ parts) (k ∷ ks) e g =
      let none = both_nil (seen_of part.0 at).faults (flat_map (λ e. e.faults) (seens parts)) e in
      let fits = both_true (gives_kind (seen_of part.0 at).pattern k)
      (fit_all (map gives_kind (map (λ e. e.pattern) (seens parts))) ks) g in
      true_both (expr_has_kind (expr_of part.0 var) kinds k)
      (fit_all (map (λ test. test kinds) (map expr_has_kind (exprs parts))) ks)
      (part.1 none.0 k fits.0) (tuple_parts parts ks none.1 fits.1)

  tuple_has : (parts : List Part) (z : K.Kind-F Kind) →
      flat_map (λ e. e.faults) (seens parts) ≡ [] →
      gives_step (P.Tuple (map gives_kind (map (λ e. e.pattern) (seens parts)))) z ≡ true →
      expr_kind_step (O.Tuple (map expr_has_kind (exprs parts))) kinds z ≡ true
  tuple_has parts (K.Tuple ks) e g = tuple_parts parts ks e g
  tuple_has parts _ e g = absurd (let no : ⊥ = cc in no)

  abbrev have : List Part → Kind → Bool
  have parts k = list_all (λ test. test kinds k) (map expr_has_kind (exprs parts))

  -- the elements of a list have the kinds that come of what their patterns have in common
  elements_have : (parts : List Part) (before : Seen) →
      (with_elements before (seens parts)).faults ≡ [] →
      (before.faults ≡ [])
      × ((k : Kind) → gives_kind (with_elements before (seens parts)).pattern k ≡ true →
      (gives_kind before.pattern k ≡ true) × (have parts k ≡ true))
  unfolding with_elements with_element
  elements_have [] before e = (e, λ k g. (g, refl))
  elements_have (part ∷ parts) before e =
      let s = seen_of part.0 at in
      let later = elements_have parts (with_element before s) e in
      let none = both_nil before.faults (s.faults ++ apart before s s.spot) later.0 in
      let here = both_nil s.faults (apart before s s.spot) none.1 in
      let shares = not_apart before s s.spot none.0 here.0 here.1 in (
        none.0,
        λ k g.
            let others = later.1 k g in
            let both = both_gives before.pattern s.pattern shares k others.0 in (
              both.0,
              true_both (expr_has_kind (expr_of part.0 var) kinds k) (have parts k)
                  (part.1 here.0 k both.1) others.1,
            ),
      )

  list_has : (parts : List Part) (p : Pattern) (z : K.Kind-F Kind) →
      ((k : Kind) → gives_kind p k ≡ true → have parts k ≡ true) →
      gives_step (P.List (gives_kind p)) z ≡ true →
      expr_kind_step (O.List (map expr_has_kind (exprs parts))) kinds z ≡ true
  list_has parts p (K.List k) all g = all k g
  list_has parts p _ all g = absurd (let no : ⊥ = cc in no)

  cons_has : (parts : List Part) (tail : Part) (p : Pattern) (k : Kind) (z : K.Kind-F Kind) →
      out-Kind k ≡ z → ((k : Kind) → gives_kind p k ≡ true → have parts k ≡ true) →
      expr_has_kind (expr_of tail.0 var) kinds k ≡ true →
      gives_step (P.List (gives_kind p)) z ≡ true →
      expr_kind_step (O.Cons (map expr_has_kind (exprs parts)) (expr_has_kind (expr_of tail.0 var)))
      kinds z ≡ true
  cons_has parts tail p k (K.List l) is all has g =
      let same : k ≡ Kind.List l =
      sym (roll-out-Kind k) ∙ ap (λ z. roll-Kind z) is ∙ Kind.rolls-List l in
      true_both (have parts l) (expr_has_kind (expr_of tail.0 var) kinds (Kind.List l)) (all l g)
      (sym (ap (expr_has_kind (expr_of tail.0 var) kinds) same) ∙ has)
  cons_has parts tail p k K.Int is all has g = absurd (let no : ⊥ = cc in no)
  cons_has parts tail p k K.Text is all has g = absurd (let no : ⊥ = cc in no)
  cons_has parts tail p k (K.Tuple ks) is all has g = absurd (let no : ⊥ = cc in no)
  cons_has parts tail p k K.Net is all has g = absurd (let no : ⊥ = cc in no)

  neg_has : (a : Expr) (z : K.Kind-F Kind) → expr_has_kind a kinds Kind.Int ≡ true →
      gives_step P.Int z ≡ true → expr_kind_step (O.Neg (expr_has_kind a)) kinds z ≡ true
  neg_has a K.Int has g = has
  neg_has a _ has g = absurd (let no : ⊥ = cc in no)

  op_has : (op : OpKind) (a b : Expr) (z : K.Kind-F Kind) →
      expr_has_kind a kinds Kind.Int ≡ true → expr_has_kind b kinds Kind.Int ≡ true →
      gives_step P.Int z ≡ true →
      expr_kind_step (O.Op op (expr_has_kind a) (expr_has_kind b)) kinds z ≡ true
  op_has op a b K.Int left right g =
      true_both (expr_has_kind a kinds Kind.Int) (expr_has_kind b kinds Kind.Int) left right
  op_has op a b _ left right g = absurd (let no : ⊥ = cc in no)

  operand_has : (part : Part) → operand_faults (seen_of part.0 at) ≡ [] →
      expr_has_kind (expr_of part.0 var) kinds Kind.Int ≡ true
  operand_has part e =
      let fits = operand_fits (seen_of part.0 at) e in
      part.1 fits.0 Kind.Int fits.1

  open_layer : (y : F.PForm-F FormPart Part) (s : Spot) →
      (seen_form (map-PForm PForm PExpr Forms Parts form_seen seen_of (heads y)) s at).faults ≡ [] →
      (k : Kind) → gives_kind
      (seen_form (map-PForm PForm PExpr Forms Parts form_seen seen_of (heads y)) s at).pattern k
      ≡ true →
      expr_has_kind
      (expr_of_form (map-PForm PForm PExpr Numbered Numbered form_expr expr_of (heads y)) var)
      kinds k ≡ true
  unfolding with_element listed tuple_of operands_faults
  open_layer (F.Int n) s e k g = has-Int kinds n k ∙ int_has n (out-Kind k) (sym (gives-Int k) ∙ g)
  open_layer (F.Text t) s e k g =
      has-Text kinds t k ∙ text_has t (out-Kind k) (sym (gives-Text k) ∙ g)
  open_layer (F.Name name) s e k g =
      let none = both_nil (broken_if (is_none (at.pattern_of_var name)) Rule.Known s)
      (broken_if (not (at.may_stand name)) Rule.Actions s) e in
      has-Var kinds (var name) k
      ∙ var_has name (at.pattern_of_var name) s k refl none.0 g
  open_layer F.This s e k g = has-This kinds k ∙ this_has (out-Kind k) (sym (gives-Net k) ∙ g)
  open_layer F.Step s e k g = has-Step kinds k ∙ step_has (out-Kind k) (sym (gives-Int k) ∙ g)
  open_layer (F.Tuple parts) s e k g =
      let none = both_nil (flat_map (λ e. e.faults) (seens parts))
      (past_limit most_parts (map (λ e. e.spot) (seens parts))) e in
      has-Tuple kinds (exprs parts) k
      ∙ tuple_has parts (out-Kind k) none.0
      (sym (gives-Tuple (map (λ e. e.pattern) (seens parts)) k) ∙ g)
  open_layer (F.List parts) s e k g =
      let start = whole s Pattern.Any in
      let all = elements_have parts start e in
      let p = (with_elements start (seens parts)).pattern in
      has-List kinds (exprs parts) k
      ∙ list_has parts p (out-Kind k) (λ k g. (all.1 k g).1) (sym (gives-List p k) ∙ g)
  open_layer (F.Cons parts tail) s e k g =
      let start = whole s Pattern.Any in
      let elements = with_elements start (seens parts) in
      let t = seen_of tail.0 at in
      let none = both_nil elements.faults (t.faults ++ apart (listed elements) t t.spot) e in
      let here = both_nil t.faults (apart (listed elements) t t.spot) none.1 in
      let shares = not_apart (listed elements) t t.spot none.0 here.0 here.1 in
      let both = both_gives (Pattern.List elements.pattern) t.pattern shares k g in
      let all = elements_have parts start none.0 in
      has-Cons kinds (exprs parts) (expr_of tail.0 var) k
      ∙ cons_has parts tail elements.pattern k (out-Kind k) refl (λ k g. (all.1 k g).1)
      (tail.1 here.0 k both.1) (sym (gives-List elements.pattern k) ∙ both.0)
  open_layer (F.Neg a) s e k g =
      has-Neg kinds (expr_of a.0 var) k
      ∙ neg_has (expr_of a.0 var) (out-Kind k) (operand_has a e) (sym (gives-Int k) ∙ g)
  open_layer (F.Op op a b) s e k g =
      let none = both_nil (operand_faults (seen_of a.0 at)) (operand_faults (seen_of b.0 at)) e in
      has-Op kinds op (expr_of a.0 var) (expr_of b.0 var) k
      ∙ op_has op (expr_of a.0 var) (expr_of b.0 var) (out-Kind k) (operand_has a none.0)
      (operand_has b none.1) (sym (gives-Int k) ∙ g)

  form_layer : (y : F.PForm-F FormPart Part) → FormHasItsKinds (roll-PForm (heads y))
  form_layer y s e k g =
      let seen = ap (λ f. f s at) (seen-roll (heads y)) in
      ap (λ f. expr_has_kind (f var) kinds k) (expr-roll (heads y))
      ∙ open_layer y s (sym (ap (λ v. v.faults) seen) ∙ e) k
      (sym (ap (λ v. gives_kind v.pattern k) seen) ∙ g)

  expr_layer : (s : Spot) (f : PForm) → FormHasItsKinds f → HasItsKinds (at_spot s f)
  expr_layer s f fine e k g =
      let seen = ap (λ v. v at) (seen-at s f) in
      ap (λ f. expr_has_kind (f var) kinds k) (expr-at s f)
      ∙ fine s (sym (ap (λ v. v.faults) seen) ∙ e) k
      (sym (ap (λ v. gives_kind v.pattern k) seen) ∙ g)

  pub has_its_kinds : (e : PExpr) → (seen_of e at).faults ≡ [] → (k : Kind) →
      gives_kind (seen_of e at).pattern k ≡ true → expr_has_kind (expr_of e var) kinds k ≡ true
  has_its_kinds = ind-PExpr FormHasItsKinds HasItsKinds
      (λ x y is. subst (λ w. FormHasItsKinds (roll-PForm w)) is (form_layer y))
      (λ x y is. subst (λ (w : PExpr-F PForm PExpr). HasItsKinds (at_spot w.spot w.form)) is
      (expr_layer y.spot y.form.0 y.form.1))

-- The kinds that an expression has, where nothing in it is broken, come of its pattern.
use Rattle.std.proofs.Common.{◌≡◌, ℕ, ℤ, Bool, true, List, [], ◌∷◌, ◌++◌, map, refl}
use Rattle.std.proofs.Common.{sym, ap, ◌∙◌, subst}
use Rattle.std.specs.Prelude.{Option, Some, None, is_none, unwrap_or, flat_map, not}
use Rattle.std.specs.List.{list_all}
use Rattle.rn_notation.specs.declared.token.Spot.{Spot}
use Rattle.rn_items.proofs.Bools.{both_true, true_both}
use Rattle.rn_value.specs.Kinds.{fit_all}
use Rattle.rn_value.specs.declared.value.Kind.{Kind, out-Kind, roll-Kind, roll-out-Kind}
use Rattle.rn_value.specs.declared.value.Kind.TheVariants as Kind
use Rattle.rn_value.specs.declared.value.Kind.TheOpen as K
use Rattle.rn_model.specs.declared.expr.OpKind.{OpKind}
use Rattle.rn_model.specs.declared.expr.Expr.{Expr}
use Rattle.rn_model.specs.declared.expr.Expr.TheOpen as O
use Rattle.rn_model.specs.Kinds.{same_kind, expr_has_kind, expr_kind_step}
use Rattle.rn_model.specs.Limits.{most_parts}
use Rattle.rn_inscript.specs.declared.exprs.PExpr.{PExpr, PExpr-F, ind-PExpr}
use Rattle.rn_inscript.specs.declared.exprs.PForm.{PForm, map-PForm, roll-PForm}
use Rattle.rn_inscript.specs.declared.exprs.PForm.TheOpen as F
use Rattle.rn_inscript.specs.Expressions.{at_spot}
use Rattle.rn_declared.specs.declared.fault.Rule.TheVariants as Rule
use Rattle.rn_declared.specs.declared.pattern.Pattern.{Pattern}
use Rattle.rn_declared.specs.declared.pattern.Pattern.TheVariants as Pattern
use Rattle.rn_declared.specs.declared.pattern.Pattern.TheOpen as P
use Rattle.rn_declared.specs.Faults.{broken_if, past_limit}
use Rattle.rn_declared.specs.Patterns.{gives_step, gives_kind}
use Rattle.rn_rules.specs.Expressions.{Where, Seen, seen_of, seen_form, whole, tuple_of, listed}
use Rattle.rn_rules.specs.Expressions.{with_element, with_elements}
use Rattle.rn_rules.specs.Expressions.{apart}
use Rattle.rn_numbered.specs.Numbered.{expr_of, expr_of_form}
use Rattle.rn_declared.proofs.PatternKinds.{gives-Any, gives-Int, gives-Text, gives-Tuple, gives-List}
use Rattle.rn_declared.proofs.PatternKinds.{gives-Net}
use Rattle.rn_declared.proofs.BothKinds.{gives_both}
use Rattle.rn_declared.proofs.Faultless.{both_nil}
use Rattle.rn_check.proofs.ExpressionKinds.{Parts, Forms, form_seen, seen-at}
use Rattle.rn_numbered.proofs.NumberedForms.{Numbered, form_expr}
use Rattle.rn_numbered.proofs.NumberedForms.{expr-at, expr-roll}
use Rattle.rn_check.proofs.ExpressionKinds.{seen-roll, has-Int, has-Text}
use Rattle.rn_check.proofs.ExpressionKinds.{has-Var, has-This, has-Step, has-Tuple, has-List}
use Rattle.rn_check.proofs.ExpressionKinds.{has-Cons, has-Neg, has-Op}

-- The kinds of variables come of their patterns.
abbrev pub AreSeen : Where → (List ℕ → ℕ) → (ℕ → Kind) → Type 0
AreSeen at var kinds = (name : List ℕ) (p : Pattern) (k : Kind) →
    at.pattern_of_var name ≡ Some p → same_kind (kinds (var name)) k ≡ true →
    gives_kind p k ≡ true

module _ (at : Where) (var : List ℕ → ℕ) (kinds : ℕ → Kind) (known : AreSeen at var kinds) where
  abbrev KindsAreSeen : PExpr → Type 0
  KindsAreSeen e = (seen_of e at).faults ≡ [] → (k : Kind) →
      expr_has_kind (expr_of e var) kinds k ≡ true → gives_kind (seen_of e at).pattern k ≡ true

  abbrev FormKindsAreSeen : PForm → Type 0
  FormKindsAreSeen f = (s : Spot) → (form_seen f s at).faults ≡ [] → (k : Kind) →
      expr_has_kind (form_expr f var) kinds k ≡ true →
      gives_kind (form_seen f s at).pattern k ≡ true

  abbrev Part : Type 0
  Part = (e : PExpr) × KindsAreSeen e

  abbrev FormPart : Type 0
  FormPart = (f : PForm) × FormKindsAreSeen f

  abbrev heads : F.PForm-F FormPart Part → F.PForm-F PForm PExpr
  heads y = map-PForm FormPart Part PForm PExpr (λ e. e.0) (λ e. e.0) y

  abbrev seens : List Part → List Seen
  seens parts = map (λ s. s at) (map seen_of (map (λ e. e.0) parts))

  abbrev exprs : List Part → List Expr
  exprs parts = map (λ e. e var) (map expr_of (map (λ e. e.0) parts))

  int_seen : (n : ℤ) (z : K.Kind-F Kind) → expr_kind_step (O.Int n) kinds z ≡ true →
      gives_step P.Int z ≡ true
  int_seen n K.Int h = refl
  int_seen n _ h = absurd (let no : ⊥ = cc in no)

  text_seen : (s : List ℕ) (z : K.Kind-F Kind) → expr_kind_step (O.Text s) kinds z ≡ true →
      gives_step P.Text z ≡ true
  text_seen s K.Text h = refl
  text_seen s _ h = absurd (let no : ⊥ = cc in no)

  this_seen : (z : K.Kind-F Kind) → expr_kind_step O.This kinds z ≡ true →
      gives_step P.Net z ≡ true
  this_seen K.Net h = refl
  this_seen _ h = absurd (let no : ⊥ = cc in no)

  step_seen : (z : K.Kind-F Kind) → expr_kind_step O.Step kinds z ≡ true →
      gives_step P.Int z ≡ true
  step_seen K.Int h = refl
  step_seen _ h = absurd (let no : ⊥ = cc in no)

  var_seen : (name : List ℕ) (o : Option Pattern) (s : Spot) (k : Kind) →
      at.pattern_of_var name ≡ o → broken_if (is_none o) Rule.Known s ≡ [] →
      same_kind (kinds (var name)) k ≡ true → gives_kind (unwrap_or o Pattern.Any) k ≡ true
  var_seen name None s k is e h = absurd (let no : ⊥ = cc in no)
  var_seen name (Some p) s k is e h = known name p k is h

  tuple_parts : (parts : List Part) (ks : List Kind) →
      flat_map (λ e. e.faults) (seens parts) ≡ [] →
      fit_all (map (λ test. test kinds) (map expr_has_kind (exprs parts))) ks ≡ true →
      fit_all (map gives_kind (map (λ e. e.pattern) (seens parts))) ks ≡ true
  tuple_parts [] ks e h = h
  tuple_parts (part ∷ parts) [] e h = absurd (let no : ⊥ = cc in no)
  tuple_parts (part ∷ parts) (k ∷ ks) e h =
      let none = both_nil (seen_of part.0 at).faults (flat_map (λ e. e.faults) (seens parts)) e in
      let has = both_true (expr_has_kind (expr_of part.0 var) kinds k)
      (fit_all (map (λ test. test kinds) (map expr_has_kind (exprs parts))) ks) h in
      true_both (gives_kind (seen_of part.0 at).pattern k)
      (fit_all (map gives_kind (map (λ e. e.pattern) (seens parts))) ks)
      (part.1 none.0 k has.0) (tuple_parts parts ks none.1 has.1)

  tuple_seen : (parts : List Part) (z : K.Kind-F Kind) →
      flat_map (λ e. e.faults) (seens parts) ≡ [] →
      expr_kind_step (O.Tuple (map expr_has_kind (exprs parts))) kinds z ≡ true →
      gives_step (P.Tuple (map gives_kind (map (λ e. e.pattern) (seens parts)))) z ≡ true
  tuple_seen parts (K.Tuple ks) e h = tuple_parts parts ks e h
  tuple_seen parts _ e h = absurd (let no : ⊥ = cc in no)

  abbrev have : List Part → Kind → Bool
  have parts k = list_all (λ test. test kinds k) (map expr_has_kind (exprs parts))

  -- what all elements of a list have comes of what their patterns have in common
  elements_seen : (parts : List Part) (before : Seen) →
      (with_elements before (seens parts)).faults ≡ [] →
      (before.faults ≡ [])
      × ((k : Kind) → gives_kind before.pattern k ≡ true → have parts k ≡ true →
      gives_kind (with_elements before (seens parts)).pattern k ≡ true)
  unfolding with_elements with_element
  elements_seen [] before e = (e, λ k g h. g)
  elements_seen (part ∷ parts) before e =
      let s = seen_of part.0 at in
      let later = elements_seen parts (with_element before s) e in
      let none = both_nil before.faults (s.faults ++ apart before s s.spot) later.0 in
      let here = both_nil s.faults (apart before s s.spot) none.1 in (
        none.0,
        λ k g h.
            let has = both_true (expr_has_kind (expr_of part.0 var) kinds k) (have parts k) h in
            later.1 k (gives_both before.pattern s.pattern k g (part.1 here.0 k has.0)) has.1,
      )

  list_seen : (parts : List Part) (p : Pattern) (z : K.Kind-F Kind) →
      ((k : Kind) → have parts k ≡ true → gives_kind p k ≡ true) →
      expr_kind_step (O.List (map expr_has_kind (exprs parts))) kinds z ≡ true →
      gives_step (P.List (gives_kind p)) z ≡ true
  list_seen parts p (K.List k) all h = all k h
  list_seen parts p _ all h = absurd (let no : ⊥ = cc in no)

  cons_seen : (parts : List Part) (tail : Part) (p : Pattern) (k : Kind) (z : K.Kind-F Kind) →
      out-Kind k ≡ z → ((k : Kind) → have parts k ≡ true → gives_kind p k ≡ true) →
      expr_kind_step (O.Cons (map expr_has_kind (exprs parts)) (expr_has_kind (expr_of tail.0 var)))
      kinds z ≡ true →
      (gives_step (P.List (gives_kind p)) z ≡ true)
      × (expr_has_kind (expr_of tail.0 var) kinds k ≡ true)
  cons_seen parts tail p k (K.List l) is all h =
      let same : k ≡ Kind.List l =
      sym (roll-out-Kind k) ∙ ap (λ z. roll-Kind z) is ∙ Kind.rolls-List l in
      let has = both_true (have parts l)
      (expr_has_kind (expr_of tail.0 var) kinds (Kind.List l)) h in
      (all l has.0, ap (expr_has_kind (expr_of tail.0 var) kinds) same ∙ has.1)
  cons_seen parts tail p k K.Int is all h = absurd (let no : ⊥ = cc in no)
  cons_seen parts tail p k K.Text is all h = absurd (let no : ⊥ = cc in no)
  cons_seen parts tail p k (K.Tuple ks) is all h = absurd (let no : ⊥ = cc in no)
  cons_seen parts tail p k K.Net is all h = absurd (let no : ⊥ = cc in no)

  neg_seen : (a : Expr) (z : K.Kind-F Kind) →
      expr_kind_step (O.Neg (expr_has_kind a)) kinds z ≡ true → gives_step P.Int z ≡ true
  neg_seen a K.Int h = refl
  neg_seen a _ h = absurd (let no : ⊥ = cc in no)

  op_seen : (op : OpKind) (a b : Expr) (z : K.Kind-F Kind) →
      expr_kind_step (O.Op op (expr_has_kind a) (expr_has_kind b)) kinds z ≡ true →
      gives_step P.Int z ≡ true
  op_seen op a b K.Int h = refl
  op_seen op a b _ h = absurd (let no : ⊥ = cc in no)

  open_layer : (y : F.PForm-F FormPart Part) (s : Spot) →
      (seen_form (map-PForm PForm PExpr Forms Parts form_seen seen_of (heads y)) s at).faults ≡ [] →
      (k : Kind) → expr_has_kind
      (expr_of_form (map-PForm PForm PExpr Numbered Numbered form_expr expr_of (heads y)) var)
      kinds k ≡ true →
      gives_kind
      (seen_form (map-PForm PForm PExpr Forms Parts form_seen seen_of (heads y)) s at).pattern k
      ≡ true
  unfolding with_element listed tuple_of
  open_layer (F.Int n) s e k h =
      gives-Int k ∙ int_seen n (out-Kind k) (sym (has-Int kinds n k) ∙ h)
  open_layer (F.Text t) s e k h =
      gives-Text k ∙ text_seen t (out-Kind k) (sym (has-Text kinds t k) ∙ h)
  open_layer (F.Name name) s e k h =
      let none = both_nil (broken_if (is_none (at.pattern_of_var name)) Rule.Known s)
      (broken_if (not (at.may_stand name)) Rule.Actions s) e in
      var_seen name (at.pattern_of_var name) s k refl none.0
      (sym (has-Var kinds (var name) k) ∙ h)
  open_layer F.This s e k h = gives-Net k ∙ this_seen (out-Kind k) (sym (has-This kinds k) ∙ h)
  open_layer F.Step s e k h = gives-Int k ∙ step_seen (out-Kind k) (sym (has-Step kinds k) ∙ h)
  open_layer (F.Tuple parts) s e k h =
      let none = both_nil (flat_map (λ e. e.faults) (seens parts))
      (past_limit most_parts (map (λ e. e.spot) (seens parts))) e in
      gives-Tuple (map (λ e. e.pattern) (seens parts)) k
      ∙ tuple_seen parts (out-Kind k) none.0 (sym (has-Tuple kinds (exprs parts) k) ∙ h)
  open_layer (F.List parts) s e k h =
      let start = whole s Pattern.Any in
      let all = elements_seen parts start e in
      let p = (with_elements start (seens parts)).pattern in
      gives-List p k
      ∙ list_seen parts p (out-Kind k) (λ k h. all.1 k (gives-Any k) h)
      (sym (has-List kinds (exprs parts) k) ∙ h)
  open_layer (F.Cons parts tail) s e k h =
      let start = whole s Pattern.Any in
      let elements = with_elements start (seens parts) in
      let t = seen_of tail.0 at in
      let none = both_nil elements.faults (t.faults ++ apart (listed elements) t t.spot) e in
      let here = both_nil t.faults (apart (listed elements) t t.spot) none.1 in
      let all = elements_seen parts start none.0 in
      let found = cons_seen parts tail elements.pattern k (out-Kind k) refl
      (λ k h. all.1 k (gives-Any k) h)
      (sym (has-Cons kinds (exprs parts) (expr_of tail.0 var) k) ∙ h) in
      gives_both (Pattern.List elements.pattern) t.pattern k
      (gives-List elements.pattern k ∙ found.0) (tail.1 here.0 k found.1)
  open_layer (F.Neg a) s e k h =
      gives-Int k
      ∙ neg_seen (expr_of a.0 var) (out-Kind k) (sym (has-Neg kinds (expr_of a.0 var) k) ∙ h)
  open_layer (F.Op op a b) s e k h =
      gives-Int k
      ∙ op_seen op (expr_of a.0 var) (expr_of b.0 var) (out-Kind k)
      (sym (has-Op kinds op (expr_of a.0 var) (expr_of b.0 var) k) ∙ h)

  form_layer : (y : F.PForm-F FormPart Part) → FormKindsAreSeen (roll-PForm (heads y))
  form_layer y s e k h =
      let seen = ap (λ f. f s at) (seen-roll (heads y)) in
      ap (λ v. gives_kind v.pattern k) seen
      ∙ open_layer y s (sym (ap (λ v. v.faults) seen) ∙ e) k
      (sym (ap (λ f. expr_has_kind (f var) kinds k) (expr-roll (heads y))) ∙ h)

  expr_layer : (s : Spot) (f : PForm) → FormKindsAreSeen f → KindsAreSeen (at_spot s f)
  expr_layer s f fine e k h =
      let seen = ap (λ v. v at) (seen-at s f) in
      ap (λ v. gives_kind v.pattern k) seen
      ∙ fine s (sym (ap (λ v. v.faults) seen) ∙ e) k
      (sym (ap (λ f. expr_has_kind (f var) kinds k) (expr-at s f)) ∙ h)

  pub kinds_are_seen : (e : PExpr) → (seen_of e at).faults ≡ [] → (k : Kind) →
      expr_has_kind (expr_of e var) kinds k ≡ true → gives_kind (seen_of e at).pattern k ≡ true
  kinds_are_seen = ind-PExpr FormKindsAreSeen KindsAreSeen
      (λ x y is. subst (λ w. FormKindsAreSeen (roll-PForm w)) is (form_layer y))
      (λ x y is. subst (λ (w : PExpr-F PForm PExpr). KindsAreSeen (at_spot w.spot w.form)) is
      (expr_layer y.spot y.form.0 y.form.1))

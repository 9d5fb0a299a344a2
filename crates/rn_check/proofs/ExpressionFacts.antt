-- The variables of an expression in which nothing is broken are declared and may stand there,
-- `step()` stands only where it may, and its tuples don't have too many parts. Where it holds no
-- name that passes a test, none of its variables has such a name.
use Rattle.std.proofs.Common.{◌≡◌, ℕ, ℤ, Bool, true, false, ◌&&◌, not, List, [], ◌∷◌}
use Rattle.std.proofs.Common.{◌++◌, map}
use Rattle.std.proofs.Common.{refl, sym, ap, ◌∙◌, subst, length, arith}
use Rattle.std.specs.Prelude.{flat_map, is_none, nat_le}
use Rattle.std.specs.List.{AllByRecursion, list_all, list_any, concat}
use Rattle.std.proofs.lemmas.List.{length-map}
use Rattle.rn_notation.specs.declared.token.Spot.{Spot}
use Rattle.rn_items.proofs.Bools.{both_true, true_both}
use Rattle.rn_model.specs.declared.expr.OpKind.{OpKind}
use Rattle.rn_model.specs.declared.expr.Expr.{Expr, fold-Expr, fold_out-Expr}
use Rattle.rn_model.specs.declared.expr.Expr.TheVariants as E
use Rattle.rn_model.specs.declared.expr.Expr.TheOpen as O
use Rattle.rn_model.specs.Kinds.{expr_narrow, expr_narrow_step, holds_step, step_in_step}
use Rattle.rn_model.specs.Limits.{most_parts}
use Rattle.rn_model.specs.Systems.{vars_in, vars_step}
use Rattle.rn_model.proofs.EachElement.{each_append}
use Rattle.rn_inscript.specs.declared.exprs.PExpr.{PExpr, PExpr-F, ind-PExpr, fold-roll-PExpr}
use Rattle.rn_inscript.specs.declared.exprs.PForm.{PForm, map-PForm, roll-PForm, fold-PForm}
use Rattle.rn_inscript.specs.declared.exprs.PForm.{fold-roll-PForm}
use Rattle.rn_inscript.specs.declared.exprs.PForm.TheOpen as F
use Rattle.rn_inscript.specs.Expressions.{at_spot}
use Rattle.rn_declared.specs.declared.fault.Rule.TheVariants as Rule
use Rattle.rn_declared.specs.declared.fault.Fault.{Fault}
use Rattle.rn_declared.specs.declared.pattern.Pattern.TheVariants as Pattern
use Rattle.rn_declared.specs.Faults.{broken_if, past_limit}
use Rattle.rn_rules.specs.Expressions.{Where, Seen, seen_of, seen_form, whole, tuple_of, listed}
use Rattle.rn_rules.specs.Expressions.{with_element, with_elements, operand_faults, operands_faults}
use Rattle.rn_rules.specs.Expressions.{apart, misfit}
use Rattle.rn_rules.specs.Counted.{holds_form, holds_name}
use Rattle.rn_numbered.specs.Numbered.{expr_of, expr_of_form}
use Rattle.rn_spelled.specs.WellFormed.{tails_step, tails_follow}
use Rattle.rn_check.proofs.ExpressionKinds.{Parts, Forms, form_seen, seen-at}
use Rattle.rn_numbered.proofs.NumberedForms.{Numbered, form_expr}
use Rattle.rn_numbered.proofs.NumberedForms.{expr-at, expr-roll}
use Rattle.rn_check.proofs.ExpressionKinds.{seen-roll}
use Rattle.rn_declared.proofs.Faultless.{both_nil, unbroken, holds, within_limit}
use Rattle.std.proofs.lemmas.Bool.{le-leb, or_parts}

-- the equations of expressions
module _ {A : Type 0} (step : O.Expr-F A → A) where
  abbrev fold_of : Expr → A
  fold_of = fold-Expr A step

  at-Int : (n : ℤ) → fold_of (E.Int n) ≡ step (O.Int n)
  at-Int n = fold_out-Expr A step (E.Int n) ∙ rw (E.outs-Int n)

  at-Text : (s : List ℕ) → fold_of (E.Text s) ≡ step (O.Text s)
  at-Text s = fold_out-Expr A step (E.Text s) ∙ rw (E.outs-Text s)

  at-Var : (x : ℕ) → fold_of (E.Var x) ≡ step (O.Var x)
  at-Var x = fold_out-Expr A step (E.Var x) ∙ rw (E.outs-Var x)

  at-This : fold_of E.This ≡ step O.This
  at-This = fold_out-Expr A step E.This ∙ rw E.outs-This

  at-Step : fold_of E.Step ≡ step O.Step
  at-Step = fold_out-Expr A step E.Step ∙ rw E.outs-Step

  at-Tuple : (es : List Expr) → fold_of (E.Tuple es) ≡ step (O.Tuple (map fold_of es))
  at-Tuple es = fold_out-Expr A step (E.Tuple es) ∙ rw (E.outs-Tuple es)

  at-List : (es : List Expr) → fold_of (E.List es) ≡ step (O.List (map fold_of es))
  at-List es = fold_out-Expr A step (E.List es) ∙ rw (E.outs-List es)

  at-Cons : (es : List Expr) (e : Expr) →
      fold_of (E.Cons es e) ≡ step (O.Cons (map fold_of es) (fold_of e))
  at-Cons es e = fold_out-Expr A step (E.Cons es e) ∙ rw (E.outs-Cons es e)

  at-Neg : (e : Expr) → fold_of (E.Neg e) ≡ step (O.Neg (fold_of e))
  at-Neg e = fold_out-Expr A step (E.Neg e) ∙ rw (E.outs-Neg e)

  at-Op : (op : OpKind) (a b : Expr) → fold_of (E.Op op a b) ≡ step
      (O.Op op (fold_of a) (fold_of b))
  at-Op op a b = fold_out-Expr A step (E.Op op a b) ∙ rw (E.outs-Op op a b)

abbrev form_tails : PForm → Bool
form_tails = fold-PForm Bool Bool tails_step (λ e. e.form)

abbrev Held : Type 0
Held = (List ℕ → Bool) → Bool

abbrev form_holds : PForm → Held
form_holds = fold-PForm Held Held holds_form (λ e. e.form)

module _ (at : Where) (var : List ℕ → ℕ) where
  -- the number is that of a name that is declared and may stand there
  pub record Stands (x : ℕ) : Type 0 where
    pub name : List ℕ
    pub number : x ≡ var name
    pub known : is_none (at.pattern_of_var name) ≡ false
    pub may : at.may_stand name ≡ true

  -- the number is that of a name that is declared and doesn't pass a test
  pub record StandsFree (test : List ℕ → Bool) (x : ℕ) : Type 0 where
    pub name : List ℕ
    pub number : x ≡ var name
    pub known : is_none (at.pattern_of_var name) ≡ false
    pub free : test name ≡ false

  record IsSound (faults : List Fault) (tails : Bool) (held : Held) (e : Expr) : Type 0 where
    narrow : faults ≡ [] → tails ≡ true → expr_narrow e ≡ true
    vars : faults ≡ [] → AllByRecursion Stands (vars_in e)
    steps : faults ≡ [] → at.step_may ≡ false → holds_step e ≡ false
    free : (test : List ℕ → Bool) → faults ≡ [] → held test ≡ false →
        AllByRecursion (StandsFree test) (vars_in e)

  abbrev Sound : PExpr → Type 0
  Sound e = IsSound (seen_of e at).faults (tails_follow e) (holds_name e) (expr_of e var)

  abbrev FormSound : PForm → Type 0
  FormSound f = (s : Spot) →
      IsSound (form_seen f s at).faults (form_tails f) (form_holds f) (form_expr f var)

  abbrev Part : Type 0
  Part = (e : PExpr) × Sound e

  abbrev FormPart : Type 0
  FormPart = (f : PForm) × FormSound f

  abbrev heads : F.PForm-F FormPart Part → F.PForm-F PForm PExpr
  heads y = map-PForm FormPart Part PForm PExpr (λ e. e.0) (λ e. e.0) y

  abbrev bare : List Part → List PExpr
  bare parts = map (λ e. e.0) parts

  abbrev seens : List Part → List Seen
  seens parts = map (λ s. s at) (map seen_of (bare parts))

  abbrev exprs : List Part → List Expr
  exprs parts = map (λ e. e var) (map expr_of (bare parts))

  abbrev Faultless : List Part → Type 0
  Faultless parts = AllByRecursion (λ part. (seen_of part.0 at).faults ≡ []) parts

  tuple_faultless : (parts : List Part) → flat_map (λ e. e.faults) (seens parts) ≡ [] →
      Faultless parts
  tuple_faultless [] e = tt
  tuple_faultless (part ∷ parts) e =
      let both = both_nil (seen_of part.0 at).faults (flat_map (λ e. e.faults) (seens parts)) e in
      (both.0, tuple_faultless parts both.1)

  list_faultless : (parts : List Part) (before : Seen) →
      (with_elements before (seens parts)).faults ≡ [] → (before.faults ≡ []) × Faultless parts
  unfolding with_elements with_element
  list_faultless [] before e = (e, tt)
  list_faultless (part ∷ parts) before e =
      let s = seen_of part.0 at in
      let later = list_faultless parts (with_element before s) e in
      let none = both_nil before.faults (s.faults ++ apart before s s.spot) later.0 in
      let here = both_nil s.faults (apart before s s.spot) none.1 in
      (none.0, (here.0, later.1))

  all_narrow : (parts : List Part) → Faultless parts →
      list_all (λ p. p) (map tails_follow (bare parts)) ≡ true →
      list_all (λ n. n) (map expr_narrow (exprs parts)) ≡ true
  all_narrow [] none e = refl
  all_narrow (part ∷ parts) none e =
      let tails = both_true (tails_follow part.0)
      (list_all (λ p. p) (map tails_follow (bare parts))) e in
      true_both (expr_narrow (expr_of part.0 var))
      (list_all (λ n. n) (map expr_narrow (exprs parts)))
      (part.1.narrow none.0 tails.0) (all_narrow parts none.1 tails.1)

  all_vars : (parts : List Part) → Faultless parts →
      AllByRecursion Stands (concat (map vars_in (exprs parts)))
  all_vars [] none = tt
  all_vars (part ∷ parts) none =
      each_append Stands (vars_in (expr_of part.0 var)) (concat (map vars_in (exprs parts)))
      (part.1.vars none.0) (all_vars parts none.1)

  all_free : (test : List ℕ → Bool) (parts : List Part) → Faultless parts →
      list_any (λ held. held test) (map holds_name (bare parts)) ≡ false →
      AllByRecursion (StandsFree test) (concat (map vars_in (exprs parts)))
  all_free test [] none e = tt
  all_free test (part ∷ parts) none e =
      let both = or_parts (holds_name part.0 test)
      (list_any (λ held. held test) (map holds_name (bare parts))) e in
      each_append (StandsFree test) (vars_in (expr_of part.0 var))
      (concat (map vars_in (exprs parts)))
      (part.1.free test none.0 both.0) (all_free test parts none.1 both.1)

  no_steps : (parts : List Part) → Faultless parts → at.step_may ≡ false →
      list_any (λ h. h) (map holds_step (exprs parts)) ≡ false
  no_steps [] none e = refl
  no_steps (part ∷ parts) none e = rw (part.1.steps none.0 e) (no_steps parts none.1 e)

  abbrev OpenSound : F.PForm-F FormPart Part → Spot → Type 0
  OpenSound y s = IsSound
      (seen_form (map-PForm PForm PExpr Forms Parts form_seen seen_of (heads y)) s at).faults
      (tails_step (map-PForm PForm PExpr Bool Bool form_tails tails_follow (heads y)))
      (holds_form (map-PForm PForm PExpr Held Held form_holds holds_name (heads y)))
      (expr_of_form (map-PForm PForm PExpr Numbered Numbered form_expr expr_of (heads y)) var)

  operand_faultless : (a : Seen) → operand_faults a ≡ [] → a.faults ≡ []
  unfolding operand_faults
  operand_faultless a e = (both_nil a.faults (misfit a Pattern.Int) e).0

  open_sound : (y : F.PForm-F FormPart Part) (s : Spot) → OpenSound y s
  unfolding with_element listed tuple_of operands_faults
  open_sound (F.Int n) s = record {
    narrow = λ e t. at-Int expr_narrow_step n;
    vars = λ e. subst (AllByRecursion Stands) (sym (at-Int vars_step n)) tt;
    steps = λ e m. at-Int step_in_step n;
    free = λ test e h. subst (AllByRecursion (StandsFree test)) (sym (at-Int vars_step n)) tt;
  }
  open_sound (F.Text t) s = record {
    narrow = λ e f. at-Text expr_narrow_step t;
    vars = λ e. subst (AllByRecursion Stands) (sym (at-Text vars_step t)) tt;
    steps = λ e m. at-Text step_in_step t;
    free = λ test e h. subst (AllByRecursion (StandsFree test)) (sym (at-Text vars_step t)) tt;
  }
  open_sound (F.Name name) s = record {
    narrow = λ e t. at-Var expr_narrow_step (var name);
    vars = λ e.
        let known = broken_if (is_none (at.pattern_of_var name)) Rule.Known s in
        let may = broken_if (not (at.may_stand name)) Rule.Actions s in
        let none = both_nil known may e in
        subst (AllByRecursion Stands) (sym (at-Var vars_step (var name))) (
          record {
            name = name;
            number = refl;
            known = unbroken (is_none (at.pattern_of_var name)) Rule.Known s none.0;
            may = holds (at.may_stand name) Rule.Actions s none.1;
          },
          tt,
        );
    steps = λ e m. at-Var step_in_step (var name);
    free = λ test e h.
        let known = broken_if (is_none (at.pattern_of_var name)) Rule.Known s in
        let may = broken_if (not (at.may_stand name)) Rule.Actions s in
        let none = both_nil known may e in
        subst (AllByRecursion (StandsFree test)) (sym (at-Var vars_step (var name))) (
          record {
            name = name;
            number = refl;
            known = unbroken (is_none (at.pattern_of_var name)) Rule.Known s none.0;
            free = h;
          },
          tt,
        );
  }
  open_sound F.This s = record {
    narrow = λ e t. at-This expr_narrow_step;
    vars = λ e. subst (AllByRecursion Stands) (sym (at-This vars_step)) tt;
    steps = λ e m. at-This step_in_step;
    free = λ test e h. subst (AllByRecursion (StandsFree test)) (sym (at-This vars_step)) tt;
  }
  open_sound F.Step s = record {
    narrow = λ e t. at-Step expr_narrow_step;
    vars = λ e. subst (AllByRecursion Stands) (sym (at-Step vars_step)) tt;
    steps = λ e m.
        let may = holds at.step_may Rule.Actions s e in
        absurd (let no : true ≡ false = sym may ∙ m in let no : ⊥ = cc in no);
    free = λ test e h. subst (AllByRecursion (StandsFree test)) (sym (at-Step vars_step)) tt;
  }
  open_sound (F.Tuple parts) s =
      let es = exprs parts in
      let told = flat_map (λ e. e.faults) (seens parts) in
      let limit = past_limit most_parts (map (λ e. e.spot) (seens parts)) in
      record {
        narrow = λ e t.
            let none = both_nil told limit e in
            let few = within_limit most_parts (map (λ e. e.spot) (seens parts)) none.1 in
            let one = length-map (seens parts) (λ e. e.spot) in
            let two = length-map (map seen_of (bare parts)) (λ s. s at) in
            let three = length-map (bare parts) seen_of in
            let four = length-map es expr_narrow in
            let five = length-map (map expr_of (bare parts)) (λ e. e var) in
            let six = length-map (bare parts) expr_of in
            at-Tuple expr_narrow_step es
            ∙ true_both (nat_le (length (map expr_narrow es)) most_parts)
            (list_all (λ n. n) (map expr_narrow es))
            (le-leb (length (map expr_narrow es)) most_parts
            (omega (arith, few, one, two, three, four, five, six)))
            (all_narrow parts (tuple_faultless parts none.0) t);
        vars = λ e.
            let none = both_nil told limit e in
            subst (AllByRecursion Stands) (sym (at-Tuple vars_step es))
            (all_vars parts (tuple_faultless parts none.0));
        steps = λ e m.
            let none = both_nil told limit e in
            at-Tuple step_in_step es ∙ no_steps parts (tuple_faultless parts none.0) m;
        free = λ test e h.
            let none = both_nil told limit e in
            subst (AllByRecursion (StandsFree test)) (sym (at-Tuple vars_step es))
            (all_free test parts (tuple_faultless parts none.0) h);
      }
  open_sound (F.List parts) s =
      let es = exprs parts in
      let start = whole s Pattern.Any in
      record {
        narrow = λ e t.
            at-List expr_narrow_step es ∙ all_narrow parts (list_faultless parts start e).1 t;
        vars = λ e. subst (AllByRecursion Stands) (sym (at-List vars_step es))
            (all_vars parts (list_faultless parts start e).1);
        steps = λ e m. at-List step_in_step es ∙ no_steps parts (list_faultless parts start e).1 m;
        free = λ test e h. subst (AllByRecursion (StandsFree test)) (sym (at-List vars_step es))
            (all_free test parts (list_faultless parts start e).1 h);
      }
  open_sound (F.Cons parts tail) s =
      let es = exprs parts in
      let start = whole s Pattern.Any in
      let elements = with_elements start (seens parts) in
      let t = seen_of tail.0 at in
      let last = expr_of tail.0 var in
      let fits = apart (listed elements) t t.spot in
      record {
        narrow = λ e f.
            let none = both_nil elements.faults (t.faults ++ fits) e in
            let here = both_nil t.faults fits none.1 in
            let some = nat_le 1 (length (map tails_follow (bare parts))) in
            let all = list_all (λ p. p) (map tails_follow (bare parts)) in
            let tails = both_true (some && all) (tails_follow tail.0) f in
            let first = both_true some all tails.0 in
            let one = length-map (bare parts) tails_follow in
            let two = length-map es expr_narrow in
            let three = length-map (map expr_of (bare parts)) (λ e. e var) in
            let four = length-map (bare parts) expr_of in
            let count : length (map tails_follow (bare parts)) ≡ length (map expr_narrow es) =
            omega (arith, one, two, three, four) in
            at-Cons expr_narrow_step es last
            ∙ true_both
            (nat_le 1 (length (map expr_narrow es)) && list_all (λ n. n) (map expr_narrow es))
            (expr_narrow last)
            (true_both (nat_le 1 (length (map expr_narrow es)))
            (list_all (λ n. n) (map expr_narrow es)) (ap (nat_le 1) (sym count) ∙ first.0)
            (all_narrow parts (list_faultless parts start none.0).1 first.1))
            (tail.1.narrow here.0 tails.1);
        vars = λ e.
            let none = both_nil elements.faults (t.faults ++ fits) e in
            let here = both_nil t.faults fits none.1 in
            subst (AllByRecursion Stands) (sym (at-Cons vars_step es last))
            (each_append Stands (concat (map vars_in es)) (vars_in last)
            (all_vars parts (list_faultless parts start none.0).1) (tail.1.vars here.0));
        steps = λ e m.
            let none = both_nil elements.faults (t.faults ++ fits) e in
            let here = both_nil t.faults fits none.1 in
            at-Cons step_in_step es last
            ∙ rw (no_steps parts (list_faultless parts start none.0).1 m) (tail.1.steps here.0 m);
        free = λ test e h.
            let none = both_nil elements.faults (t.faults ++ fits) e in
            let here = both_nil t.faults fits none.1 in
            let held = or_parts
            (list_any (λ held. held test) (map holds_name (bare parts)))
            (holds_name tail.0 test) h in
            subst (AllByRecursion (StandsFree test)) (sym (at-Cons vars_step es last))
            (each_append (StandsFree test) (concat (map vars_in es)) (vars_in last)
            (all_free test parts (list_faultless parts start none.0).1 held.0)
            (tail.1.free test here.0 held.1));
      }
  open_sound (F.Neg a) s =
      let v = expr_of a.0 var in
      record {
        narrow = λ e t.
            at-Neg expr_narrow_step v ∙ a.1.narrow (operand_faultless (seen_of a.0 at) e) t;
        vars = λ e. subst (AllByRecursion Stands) (sym (at-Neg vars_step v))
            (a.1.vars (operand_faultless (seen_of a.0 at) e));
        steps = λ e m.
            at-Neg step_in_step v ∙ a.1.steps (operand_faultless (seen_of a.0 at) e) m;
        free = λ test e h. subst (AllByRecursion (StandsFree test)) (sym (at-Neg vars_step v))
            (a.1.free test (operand_faultless (seen_of a.0 at) e) h);
      }
  open_sound (F.Op op a b) s =
      let v = expr_of a.0 var in
      let w = expr_of b.0 var in
      let left = operand_faults (seen_of a.0 at) in
      let right = operand_faults (seen_of b.0 at) in
      record {
        narrow = λ e t.
            let none = both_nil left right e in
            let tails = both_true (tails_follow a.0) (tails_follow b.0) t in
            at-Op expr_narrow_step op v w
            ∙ true_both (expr_narrow v) (expr_narrow w)
            (a.1.narrow (operand_faultless (seen_of a.0 at) none.0) tails.0)
            (b.1.narrow (operand_faultless (seen_of b.0 at) none.1) tails.1);
        vars = λ e.
            let none = both_nil left right e in
            subst (AllByRecursion Stands) (sym (at-Op vars_step op v w))
            (each_append Stands (vars_in v) (vars_in w)
            (a.1.vars (operand_faultless (seen_of a.0 at) none.0))
            (b.1.vars (operand_faultless (seen_of b.0 at) none.1)));
        steps = λ e m.
            let none = both_nil left right e in
            at-Op step_in_step op v w
            ∙ rw (a.1.steps (operand_faultless (seen_of a.0 at) none.0) m)
            (b.1.steps (operand_faultless (seen_of b.0 at) none.1) m);
        free = λ test e h.
            let none = both_nil left right e in
            let held = or_parts (holds_name a.0 test) (holds_name b.0 test) h in
            subst (AllByRecursion (StandsFree test)) (sym (at-Op vars_step op v w))
            (each_append (StandsFree test) (vars_in v) (vars_in w)
            (a.1.free test (operand_faultless (seen_of a.0 at) none.0) held.0)
            (b.1.free test (operand_faultless (seen_of b.0 at) none.1) held.1));
      }

  moved : {fs gs : List Fault} {s t : Bool} {h k : Held} {v w : Expr} → fs ≡ gs → s ≡ t → h ≡ k →
      v ≡ w → IsSound gs t k w → IsSound fs s h v
  moved {fs} {gs} {s} {t} {h} {k} {v} {w} a b c d sound =
      subst (λ fs. IsSound fs s h v) (sym a)
      (subst (λ s. IsSound gs s h v) (sym b)
      (subst (λ h. IsSound gs t h v) (sym c) (subst (IsSound gs t k) (sym d) sound)))

  form_layer : (y : F.PForm-F FormPart Part) → FormSound (roll-PForm (heads y))
  form_layer y s =
      moved (ap (λ f. (f s at).faults) (seen-roll (heads y)))
      (fold-roll-PForm Bool Bool tails_step (λ e. e.form) (heads y))
      (fold-roll-PForm Held Held holds_form (λ e. e.form) (heads y))
      (ap (λ f. f var) (expr-roll (heads y))) (open_sound y s)

  expr_layer : (s : Spot) (f : PForm) → FormSound f → Sound (at_spot s f)
  expr_layer s f sound =
      moved (ap (λ v. (v at).faults) (seen-at s f))
      (fold-roll-PExpr Bool Bool tails_step (λ e. e.form) (record { form = f; spot = s }))
      (fold-roll-PExpr Held Held holds_form (λ e. e.form) (record { form = f; spot = s }))
      (ap (λ f. f var) (expr-at s f)) (sound s)

  sound : (e : PExpr) → Sound e
  sound = ind-PExpr FormSound Sound
      (λ x y is. subst (λ w. FormSound (roll-PForm w)) is (form_layer y))
      (λ x y is. subst (λ (w : PExpr-F PForm PExpr). Sound (at_spot w.spot w.form)) is
      (expr_layer y.spot y.form.0 y.form.1))

  pub is_narrow : (e : PExpr) → (seen_of e at).faults ≡ [] → tails_follow e ≡ true →
      expr_narrow (expr_of e var) ≡ true
  is_narrow e none tails = (sound e).narrow none tails

  pub vars_stand : (e : PExpr) → (seen_of e at).faults ≡ [] →
      AllByRecursion Stands (vars_in (expr_of e var))
  vars_stand e none = (sound e).vars none

  pub vars_stand_free : (test : List ℕ → Bool) (e : PExpr) → (seen_of e at).faults ≡ [] →
      holds_name e test ≡ false → AllByRecursion (StandsFree test) (vars_in (expr_of e var))
  vars_stand_free test e none held = (sound e).free test none held

  pub without_step : (e : PExpr) → (seen_of e at).faults ≡ [] → at.step_may ≡ false →
      holds_step (expr_of e var) ≡ false
  without_step e none may = (sound e).steps none may

-- Targets of calls: which forms they have, and to which values they are forced.
use Rattle.std.proofs.Common.{◌≡◌, ℕ, ◌⊎◌, Bool, true, false, [], refl, sym, ap, ◌∙◌, subst, inl, inr}
use Rattle.std.specs.Prelude.{Option, Some, None, ◌↔◌}
use Rattle.rn_value.specs.declared.value.InstRef.{InstRef}
use Rattle.rn_value.specs.declared.value.Kind.{Kind, out-Kind}
use Rattle.rn_value.specs.declared.value.Kind.TheVariants as Kind
use Rattle.rn_value.specs.declared.value.Kind.TheOpen as K
use Rattle.rn_value.specs.declared.value.Value.{Value}
use Rattle.rn_model.specs.declared.expr.Expr.{Expr, out-Expr, roll-Expr, map-Expr, fold_out-Expr}
use Rattle.rn_model.specs.declared.expr.Expr.{roll-out-Expr}
use Rattle.rn_model.specs.declared.expr.Expr.TheVariants as E
use Rattle.rn_model.specs.declared.expr.Expr.TheOpen as O
use Rattle.rn_model.specs.Derivation as D
use Rattle.rn_model.specs.Kinds.{expr_has_kind, expr_or_var_step, expr_kind_step, HasExprKind}
use Rattle.rn_growing.specs.declared.decision.Head.{Head}
use Rattle.rn_growing.specs.Equations.{IsForced, IsForcedTo, read_at}
use Rattle.rn_growing.specs.Grown.{Grown}
use Rattle.rn_growing.proofs.BuildingSteps.{this_is, var_is}
use Rattle.rn_looking.specs.Calling.{IsTarget}

abbrev IsSimple : Expr → Type 0
IsSimple e = (e ≡ E.This) ⊎ ((x : ℕ) × (e ≡ E.Var x))

module _ (kinds : ℕ → Kind) where
  abbrev tests_in : O.Expr-F Expr → O.Expr-F ((ℕ → Kind) → Kind → Bool)
  tests_in x = map-Expr Expr ((ℕ → Kind) → Kind → Bool) expr_has_kind x

  -- of the other forms none has the kind of instances
  other_form : (x : O.Expr-F Expr) → expr_kind_step (tests_in x) kinds K.Net ≡ false →
      expr_kind_step (tests_in x) kinds (out-Kind Kind.Net) ≡ true → ⊥
  other_form x none e =
      let f = subst (λ z. expr_kind_step (tests_in x) kinds z ≡ true) Kind.outs-Net e in
      let both : false ≡ true = sym none ∙ f in
      let no : ⊥ = cc in no

  net_layer : (x : O.Expr-F Expr) → expr_or_var_step (tests_in x) kinds Kind.Net ≡ true →
      IsSimple (roll-Expr x)
  net_layer O.This e = inl E.rolls-This
  net_layer (O.Var y) e = inr (y, E.rolls-Var y)
  net_layer (O.Int n) e = absurd (other_form (O.Int n) refl e)
  net_layer (O.Text s) e = absurd (other_form (O.Text s) refl e)
  net_layer O.Step e = absurd (other_form O.Step refl e)
  net_layer (O.Tuple parts) e = absurd (other_form (O.Tuple parts) refl e)
  net_layer (O.List parts) e = absurd (other_form (O.List parts) refl e)
  net_layer (O.Cons parts tail) e = absurd (other_form (O.Cons parts tail) refl e)
  net_layer (O.Neg part) e = absurd (other_form (O.Neg part) refl e)
  net_layer (O.Op op a b) e = absurd (other_form (O.Op op a b) refl e)

  -- what has the kind of instances is a variable, or `this`
  pub net_form : (e : Expr) → HasExprKind kinds e Kind.Net → IsSimple e
  net_form e has =
      subst IsSimple (roll-out-Expr e)
      (net_layer (out-Expr e)
      (sym (ap (λ f. f kinds Kind.Net)
      (fold_out-Expr ((ℕ → Kind) → Kind → Bool) expr_or_var_step e)) ∙ has))

-- `this` is forced to the node's instance
pub this_target : (g : Grown) (head : Head) (site : D.Site) (e : Expr) (inst : InstRef) →
    e ≡ E.This → inst ≡ head.inst → IsTarget g head site e (Some (Value.Inst inst))
this_target g head site e inst is same a solves =
    sym (this_is head site [] e is a) ∙ ap (λ i. Some (Value.Inst i)) (sym same)

-- a variable is forced to what it is said to be
pub var_target : (g : Grown) (head : Head) (site : D.Site) (e : Expr) (x : ℕ) → e ≡ E.Var x →
    (told : Option Value) → ((v : Value) → (told ≡ Some v)
    ↔ IsForcedTo g.system g.decisions (λ a. Some (a.var head.path x)) v) →
    IsTarget g head site e told
var_target g head site e x is None tells =
    λ (forced : IsForced g.system g.decisions (λ a. read_at a head site e)).
    let some = (tells forced.0).1 (λ a solves. var_is head site [] e x is a ∙ forced.1 a solves) in
    let no : ⊥ = cc in no
var_target g head site e x is (Some v) tells =
    λ a solves. sym (var_is head site [] e x is a) ∙ (tells v).0 refl a solves

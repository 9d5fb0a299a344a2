-- What a node is read under after its actions: only its action variables are new.
use Rattle.std.proofs.Common.{◌≡◌, ℕ, Bool, true, false, List, [], ◌∷◌, refl, sym, ap, ◌∙◌, subst}
use Rattle.std.proofs.Common.{inl, arith}
use Rattle.std.specs.Prelude.{Some, Contains, nat_eq, option_and_then, option_map}
use Rattle.std.specs.List.{list_any}
use Rattle.std.proofs.lemmas.Bool.{eqb-true, eq-eqb}
use Rattle.rn_value.specs.declared.value.Value.{Value}
use Rattle.rn_model.specs.declared.expr.Expr.{Expr}
use Rattle.rn_model.specs.declared.system.System.{System}
use Rattle.rn_model.specs.declared.system.Transition.{Transition}
use Rattle.rn_model.specs.declared.system.Action.TheVariants.{Set}
use Rattle.rn_model.specs.declared.binding.Node.{Node}
use Rattle.rn_model.specs.Lists.{value_beside}
use Rattle.rn_model.specs.Systems.{transition_of, vars_in, holds_action_var}
use Rattle.rn_model.specs.Kinds.{holds_step}
use Rattle.rn_model.specs.Evaluation.{Env, worth}
use Rattle.rn_model.specs.Bindings.{env_of}
use Rattle.rn_model.specs.Firing.{Acts, Effects, node_acts, effects_with, all_effects}
use Rattle.rn_model.specs.Good.{HasItsVars, set_var}
use Rattle.rn_model.proofs.AskedValues.{contained_flat}
use Rattle.rn_model.proofs.EnablingLemmas.{the_one}
use Rattle.rn_model.proofs.LiveByRounds.{contained_any}
use Rattle.rn_model.proofs.PutValues.{StaysSo, reading_stays}
use Rattle.rn_model.proofs.ValuesLookUp.{values_look_up}

-- an expression that holds no action variable has none of them
not_held : (t : Transition) (e : Expr) (x : ℕ) → holds_action_var t e ≡ false →
    Contains (vars_in e) x → ¬ Contains t.action_vars x
not_held t e x none occurs acts =
    let here = contained_any (nat_eq x) (vars_in e) x occurs (eq-eqb x x refl) in
    let held = contained_any (λ y. list_any (nat_eq y) (vars_in e)) t.action_vars x acts here in
    let both : true ≡ false = sym held ∙ none in
    absurd (let no : ⊥ = cc in no)

other_beside : (rest : List (ℕ × Value)) (x y : ℕ) (v : Value) (same : Bool) →
    nat_eq x y ≡ same → ¬ (x ≡ y) → value_beside ((x, v) ∷ rest) y ≡ value_beside rest y
other_beside rest x y v true e differ = absurd (differ (eqb-true x y e))
other_beside rest x y v false e differ = rw e refl

-- a reading of a node where only action variables are new
abbrev IsReadOf : System → Node → Env → Type 0
IsReadOf system node env =
    (env.this ≡ node.inst) × ((x : ℕ) → ¬ Contains (transition_of system node).action_vars x →
    value_beside env.pairs x ≡ value_beside (env_of system node).pairs x)

module _ (system : System) (step : ℕ) (node : Node)
    (its : HasItsVars (transition_of system node)) where
  -- what an action sets is an action variable
  is_set : (n : Node) (x : ℕ) (e : Expr) → Contains (node ∷ []) n →
      Contains (transition_of system n).actions (Set x e) →
      Contains (transition_of system n).action_vars x
  is_set n x e there has =
      let same = the_one node n there in
      let own = subst (λ n. HasItsVars (transition_of system n)) same its in
      (own.action_vars x).1 (contained_flat set_var (transition_of system n).actions (Set x e) x
      has (0, omega arith, refl))

  stays : StaysSo system step (node ∷ []) (IsReadOf system)
  stays = record {
    begins = λ n there. (refl, λ x none. refl);
    goes_on = λ n x e v env there has before value. (
      before.0,
      λ y none.
          other_beside env.pairs x y v (nat_eq x y) refl
          (λ same. none (subst (Contains (transition_of system n).action_vars) same
          (is_set n x e there has)))
          ∙ before.1 y none,
    );
  }

  abbrev no_effects : Effects
  no_effects = record { read = []; outs = [] }

  is_read : (acts : Acts) → node_acts system step node ≡ Some acts →
      IsReadOf system node acts.env
  is_read acts are =
      let alone : all_effects system step (node ∷ []) ≡ Some (effects_with node acts no_effects) =
      ap (λ o. option_and_then (λ acts. option_map (effects_with node acts) (Some no_effects)) o)
      are in
      (reading_stays system step (IsReadOf system) (node ∷ []) stays
      (effects_with node acts no_effects) alone (record { node = node; env = acts.env })
      (0, omega arith, refl)).1

  -- an expression that holds no action variable and no step is worth what it was before
  pub worth_after : (acts : Acts) → node_acts system step node ≡ Some acts → (e : Expr) →
      holds_action_var (transition_of system node) e ≡ false → holds_step e ≡ false →
      worth e acts.env ≡ worth e (env_of system node)
  worth_after acts are e unheld unstepped =
      let read = is_read acts are in
      values_look_up e acts.env (env_of system node) (record {
        this = read.0;
        vars = λ x occurs. read.1 x (not_held (transition_of system node) e x unheld occurs);
        step = inl unstepped;
      })

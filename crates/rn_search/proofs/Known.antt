-- What is known of the variables of a node is so in each binding to which decisions lead.
use Rattle.std.proofs.Common.{◌≡◌, ℕ, zero, suc, Bool, true, false, List, [], ◌∷◌, length, refl}
use Rattle.std.proofs.Common.{◌<◌, sym, ap, ◌∙◌, inr, arith}
use Rattle.std.specs.Prelude.{Option, Some, Contains, zip, nat_eq, if◌then◌else◌}
use Rattle.std.proofs.lemmas.Bool.{eq-eqb}
use Rattle.std.proofs.lemmas.List.Elements.{All-contains}
use Rattle.rn_value.specs.declared.value.Value.{Value}
use Rattle.rn_model.specs.Lists.{value_beside}
use Rattle.rn_model.specs.Systems.{transition_of, vars_in}
use Rattle.rn_model.specs.Bindings.{IsNodeOf, env_of}
use Rattle.rn_model.specs.ExpressionLaws.{ReadSame}
use Rattle.rn_model.proofs.EnablingLemmas.{not_in_nil}
use Rattle.rn_model.proofs.ValuesLookUp.{values_look_up}
use Rattle.rn_growing.proofs.Growth.{some_equal}
use Rattle.rn_search.specs.Missing.{IsKnown, KnownIsSo}
use Rattle.rn_search.specs.Ending.{ForcedAreItsValues}
use Rattle.rn_search.proofs.Following.{own_values, own_solve}
use Rattle.rn_search.specs.Sought.{Sought, Leads}
use Rattle.rn_model.specs.declared.expr.Expr.{Expr}
use Rattle.rn_model.specs.declared.binding.Binding.{Binding}
use Rattle.rn_model.specs.declared.binding.Node.{Node}
use Rattle.rn_model.specs.Evaluation.{Env}
use Rattle.rn_growing.specs.declared.decision.Decision.{Decision}
use Rattle.rn_growing.specs.Decisions.{head_of}
use Rattle.rn_growing.specs.Turns.{AreInTurn}

abbrev HasValue : List ℕ → List Value → ℕ → Type 0
HasValue xs vs x = (v : Value) × (value_beside (zip xs vs) x ≡ Some v)

here_or : (same : Bool) (w : Value) (rest : Option Value) → (v : Value) × (rest ≡ Some v) →
    (v : Value) × ((if same then Some w else rest) ≡ Some v)
here_or true w rest other = (w, refl)
here_or false w rest other = other

has_value : (xs : List ℕ) (vs : List Value) (x : ℕ) → length vs ≡ length xs → Contains xs x →
    HasValue xs vs x
has_value [] vs x many there = absurd (not_in_nil x there)
has_value (y ∷ xs) [] x many there = absurd (let no : ⊥ = omega (arith, many) in no)
has_value (y ∷ xs) (w ∷ vs) x many (zero, h, e) =
    (w, rw (eq-eqb y x e) refl)
has_value (y ∷ xs) (w ∷ vs) x many (suc k, h, e) =
    here_or (nat_eq y x) w (value_beside (zip xs vs) x)
    (has_value xs vs x (omega (arith, many)) (k, omega (arith, h), e))

-- a forced variable has its value in each binding to which the decisions lead
pub forced_are_its_values : ForcedAreItsValues
forced_are_its_values sought ds b node x v leads turns some there var forced =
    let of : IsNodeOf sought.system node =
    All-contains (IsNodeOf sought.system) b.nodes node leads.enabled.shape.nodes there in
    let own = own_values sought ds b leads in
    let w = has_value (transition_of sought.system node).vars node.values x of.values var in
    let mine : own.0.var node.path x ≡ w.0 = own.1.values node x w.0 there w.1 in
    let same : own.0.var node.path x ≡ v =
    some_equal (own.0.var node.path x) v (forced own.0 (own_solve sought ds b leads turns)) in
    w.1 ∙ ap Some (sym mine ∙ same)

pub read_same : (sought : Sought) (ds : List Decision) (b : Binding) (node : Node) (e : Expr)
    (env : Env) → Leads sought ds b → AreInTurn sought.system ds → 0 < length ds →
    Contains b.nodes node → IsKnown sought.system ds (head_of node) e env →
    ReadSame e env (env_of sought.system node)
read_same sought ds b node e env leads turns some there known = record {
  this = known.this;
  vars = λ x occurs.
      let v = known.forced x occurs in
      v.1 ∙ sym (forced_are_its_values sought ds b node x v.0 leads turns some there
      (All-contains (Contains (transition_of sought.system node).vars) (vars_in e) x known.vars
      occurs) v.2);
  step = inr known.step;
}

pub known_is_so : KnownIsSo
known_is_so sought ds b node e env leads turns some there known =
    values_look_up e env (env_of sought.system node)
    (read_same sought ds b node e env leads turns some there known)

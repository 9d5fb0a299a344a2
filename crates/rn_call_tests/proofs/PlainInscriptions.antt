-- Inscriptions without operands meet no value of a wrong kind.
use Rattle.std.proofs.Common.{◌≡◌, ℕ, List, [], ◌∷◌, ◌++◌, get_or, refl, sym, ap, ◌∙◌, subst, arith}
use Rattle.std.specs.Prelude.{All, Contains, slice_get, unwrap_or}
use Rattle.rn_model.specs.declared.expr.Expr.{Expr, roll-Expr, map-Expr, para-roll-Expr}
use Rattle.rn_model.specs.declared.expr.Expr.TheVariants as E
use Rattle.rn_model.specs.declared.expr.Expr.TheOpen as O
use Rattle.rn_model.specs.declared.system.System.{System}
use Rattle.rn_model.specs.declared.system.Net.{Net}
use Rattle.rn_model.specs.declared.system.NetArc.{NetArc}
use Rattle.rn_model.specs.declared.system.Transition.{Transition}
use Rattle.rn_model.specs.declared.binding.Node.{Node}
use Rattle.rn_model.specs.declared.binding.Binding.{Binding}
use Rattle.rn_model.specs.Bindings.{env_of}
use Rattle.rn_model.specs.Evaluation.{Env}
use Rattle.rn_model.specs.ExpressionLaws.{Operand, operands_in, operands_step, OperandsAreFit}
use Rattle.rn_model.specs.Systems.{empty_transition, transition_at, transition_of}
use Rattle.rn_arcs.specs.FitInscriptions.{InscriptionsAreFit}

abbrev beside : Expr → Expr × List Operand
beside e = (e, operands_in e)

rolled : (x : O.Expr-F Expr) →
    operands_in (roll-Expr x) ≡ operands_step (map-Expr Expr (Expr × List Operand) beside x)
rolled x = para-roll-Expr (List Operand) operands_step x

-- neither a variable nor `[]` has an operand
pub none_in_var : (x : ℕ) → operands_in (E.Var x) ≡ []
none_in_var x = ap operands_in (sym (E.rolls-Var x)) ∙ rolled (O.Var x)

pub none_in_unit : (parts : List Expr) → parts ≡ [] → operands_in (E.Tuple parts) ≡ []
none_in_unit parts is =
    ap (λ ps. operands_in (E.Tuple ps)) is
    ∙ ap operands_in (sym (E.rolls-Tuple [])) ∙ rolled (O.Tuple [])

-- nor has a list of one `[]`
pub none_in_list : (parts before inner : List Expr) → parts ≡ before ++ E.Tuple inner ∷ [] →
    before ≡ [] → inner ≡ [] → operands_in (E.List parts) ≡ []
none_in_list parts before inner is first none =
    ap (λ ps. operands_in (E.List ps)) (is ∙ ap (λ b. b ++ E.Tuple inner ∷ []) first)
    ∙ ap operands_in (sym (E.rolls-List (E.Tuple inner ∷ []))) ∙ rolled (O.List (E.Tuple inner ∷ []))
    ∙ ap (λ (os : List Operand). os ++ []) (none_in_unit inner none)

-- an arc's inscription has no operand
abbrev pub IsPlain : NetArc → Type 0
IsPlain a = operands_in a.inscription ≡ []

-- the first transition of the first net
pub first_is : (system : System) (net : Net) (t : Transition) → system.nets ≡ net ∷ [] →
    net.transitions ≡ t ∷ [] → All IsPlain t.arcs → All IsPlain (transition_at system 0 0).arcs
first_is system net t nets transitions plain =
    let at : List Net → Transition =
    λ ns. transition_at (record { nets = ns; channels = system.channels }) 0 0 in
    let of : List Transition → Transition =
    λ ts. unwrap_or (slice_get ts 0) empty_transition in
    let is : transition_at system 0 0 ≡ t = ap at nets ∙ ap of transitions in
    subst (λ (x : Transition). All IsPlain x.arcs) (sym is) plain

-- an expression without operands has only fit ones
pub none_fit : (env : Env) (e : Expr) → operands_in e ≡ [] → OperandsAreFit env e
none_fit env e none o there =
    let here : Contains [] o = subst (λ (os : List Operand). Contains os o) none there in
    let low = here.1 in
    let never : ⊥ = omega (arith, low) in absurd never

-- so has a binding of the first transition, where its arcs have none
pub plain_fit : (system : System) (b : Binding) → All IsPlain (transition_at system 0 0).arcs →
    All (λ node. (node.net ≡ 0) × (node.transition ≡ 0)) b.nodes → InscriptionsAreFit system b
plain_fit system b plain at k d h i e low =
    let node = get_or b.nodes k d in
    let own : All IsPlain (transition_of system node).arcs =
    subst (λ n. All IsPlain (transition_at system n node.transition).arcs) (sym (at k d h).0)
    (subst (λ t. All IsPlain (transition_at system 0 t).arcs) (sym (at k d h).1) plain) in
    none_fit (env_of system node) (get_or (transition_of system node).arcs i e).inscription
    (own i e low)

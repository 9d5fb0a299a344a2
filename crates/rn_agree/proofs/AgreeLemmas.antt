-- What the parts of the code see of a node, and what agrees by them.
use Rattle.std.proofs.Common.{◌≡◌, ℕ, ◌<◌, Bool, List, length, get_or, refl, sym, ap, ◌∙◌, subst}
use Rattle.std.specs.Prelude.{Some, All, IsTrue, slice_get, ◌↔◌}
use Rattle.std.specs.List.{AllZip}
use Rattle.std.proofs.lemmas.Option.{slice_get-get_or}
use Rattle.rn_value.specs.Kinds.{HasKind}
use Rattle.rn_value.specs.declared.value.Value.{Value}
use Rattle.rn_model.specs.declared.expr.Expr.{Expr}
use Rattle.rn_model.specs.declared.system.System.{System}
use Rattle.rn_model.specs.declared.system.Net.{Net}
use Rattle.rn_model.specs.declared.system.Var.{Var}
use Rattle.rn_model.specs.declared.system.Transition.{Transition}
use Rattle.rn_model.specs.declared.system.Downlink.{Downlink}
use Rattle.rn_model.specs.declared.binding.Node.{Node}
use Rattle.rn_model.specs.Lists.{HaveOneValue}
use Rattle.rn_model.specs.Systems.{net_at, transition_of, var_kind_in, uplink_args}
use Rattle.rn_model.specs.Evaluation.{Env, worth, IsTrueUnder}
use Rattle.rn_model.specs.Bindings.{env_of}
use Rattle.rn_model.specs.Agreement.{CallAgrees}
use Rattle.rn_calc.specs.OwnKinds.{HaveOwnKinds}
use Rattle.rn_agree.specs.link.Agreeing.{AreCreated, ArcHasValue, HoldUnder, IsEqual}

-- the kind of a variable of a net
pub kind_at : (net : Net) (vars : List Var) (x : ℕ) (var : Var) → vars ≡ net.vars →
    x < length net.vars → var ≡ get_or vars x var → var_kind_in net x ≡ var.kind
kind_at net vars x var same h is =
    let there : slice_get net.vars x ≡ Some var
    = slice_get-get_or net.vars x var h ∙ ap (λ l. Some (get_or l x var)) (sym same) ∙ ap
    (λ v. Some v) (sym is) in
    rw there refl

abbrev Alike : Env → Env → Expr → Expr → Type 0
Alike a b e f = HaveOneValue (worth e a) (worth f b)

-- a call agrees where its target is the child, exactly if its arguments do
pub call_by_args : (system : System) (caller : Node) (downlink : Downlink) (child : Node)
    (env other : Env) (args others : List Expr) (answer : Bool) → env ≡ env_of system caller →
    other ≡ env_of system child → args ≡ downlink.args →
    others ≡ uplink_args (transition_of system child) →
    worth downlink.target env ≡ Some (Value.Inst child.inst) →
    (IsTrue answer ↔ AllZip (λ e f. HaveOneValue (worth e env) (worth f other)) args others) →
    IsTrue answer ↔ CallAgrees system caller downlink child
call_by_args system caller downlink child env other args others answer own its are beside target
    decides = (
      λ holds. record {
        target = ap (worth downlink.target) (sym own) ∙ target;
        args =
            subst (λ l. AllZip (Alike (env_of system caller) (env_of system child)) downlink.args l)
            beside
            (subst (λ l. AllZip (Alike (env_of system caller) (env_of system child)) l others) are
            (subst (λ e. AllZip (Alike (env_of system caller) e) args others) its
            (subst (λ e. AllZip (Alike e other) args others) own (decides.0 holds))));
      },
      λ agrees. decides.1
          (subst (λ e. AllZip (Alike e other) args others) (sym own)
          (subst (λ e. AllZip (Alike (env_of system caller) e) args others) (sym its)
          (subst (λ l. AllZip (Alike (env_of system caller) (env_of system child)) l others) (sym are)
          (subst (λ l. AllZip (Alike (env_of system caller) (env_of system child)) downlink.args l)
          (sym beside) agrees.args)))),
    )

-- the kinds of a node's values, by its net and its transition
pub own_kinds : (system : System) (node : Node) (net : Net) (vars : List ℕ) (values : List Value)
    (answer : Bool) → net ≡ net_at system node.net → vars ≡ (transition_of system node).vars →
    values ≡ node.values →
    (IsTrue answer ↔ AllZip (λ x v. HasKind v (var_kind_in net x)) vars values) →
    IsTrue answer ↔ HaveOwnKinds system node
own_kinds system node net vars values answer of are its decides =
    subst (λ n. IsTrue answer ↔ AllZip (λ x v. HasKind v (var_kind_in n x))
    (transition_of system node).vars node.values) of
    (subst (λ l. IsTrue answer ↔ AllZip (λ x v. HasKind v (var_kind_in net x)) l node.values) are
    (subst (λ l. IsTrue answer ↔ AllZip (λ x v. HasKind v (var_kind_in net x)) vars l) its decides))

-- all inscriptions hold where the others do, exactly if those of the arcs do
pub hold_by_arcs : (t : Transition) (path : List ℕ) (env : Env) (answer : Bool) →
    AreCreated path env t.creations → All (IsEqual env) t.equalities →
    All (IsTrueUnder env) t.guards → (IsTrue answer ↔ All (ArcHasValue t env) t.arcs) →
    IsTrue answer ↔ HoldUnder t path env
hold_by_arcs t path env answer created equal hold decides = (
  λ holds. record {
    equalities = equal;
    creations = created;
    guards = hold;
    arcs = decides.0 holds;
  },
  λ under. decides.1 under.arcs,
)

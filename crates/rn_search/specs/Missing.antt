-- Laws that a search rests on: a choice misses nothing, and no binding is met twice. Each is the
-- contract of a function that does nothing.
use Rattle.std.specs.Prelude.{ℕ, ℤ, ◌≡◌, ◌<◌, ◌≤◌, ◌-◌, true, List, [], ◌∷◌, ◌++◌, Some}
use Rattle.std.specs.Prelude.{None}
use Rattle.std.specs.Prelude.{slice_get, length, Contains, All}
use Rattle.rn_value.specs.declared.value.InstRef.TheVariants.{Old}
use Rattle.rn_value.specs.declared.value.Value.{Value}
use Rattle.rn_model.specs.declared.expr.Expr.{Expr}
use Rattle.rn_model.specs.declared.system.System.{System}
use Rattle.rn_model.specs.declared.system.NetArc.{NetArc}
use Rattle.rn_model.specs.declared.system.ArcKind.TheVariants.{Clear, Inhibit}
use Rattle.rn_model.specs.declared.system.Downlink.{Downlink}
use Rattle.rn_model.specs.declared.binding.Node.{Node}
use Rattle.rn_model.specs.declared.binding.Binding.{Binding}
use Rattle.rn_model.specs.Systems.{net_at, vars_in}
use Rattle.rn_model.specs.Lists.{value_beside}
use Rattle.rn_model.specs.Evaluation.{Env, worth, IsTrueUnder}
use Rattle.rn_model.specs.Bindings.{env_of}
use Rattle.rn_model.specs.Markings.{Marking, net_of}
use Rattle.rn_model.specs.Enabling.{Enabled}
use Rattle.rn_model.specs.Derivation.{Hole, finds_token, target}
use Rattle.rn_model.specs.Derivation as D
use Rattle.rn_model.specs.declared.expr.Cond.{Cond}
use Rattle.rn_model.specs.Good.{Good, guard_exprs}
use Rattle.rn_channel.specs.Answering.{answering}
use Rattle.rn_channel.specs.Heights.{suffices}
use Rattle.rn_growing.specs.declared.decision.Head.{Head}
use Rattle.rn_growing.specs.declared.decision.Decision.{Decision}
use Rattle.rn_growing.specs.Decisions.{transition_in, head_of}
use Rattle.rn_growing.specs.Equations.{IsForcedTo, IsSolvable, read_at}
use Rattle.rn_growing.specs.Turns.{IsEntered, AreInTurn}
use Rattle.rn_search.specs.declared.point.Point.{Point}
use Rattle.rn_search.specs.declared.point.Point.TheVariants as P
use Rattle.rn_search.specs.declared.point.Called.{Called}
use Rattle.rn_search.specs.Sought.{Sought, StartsAt, Leads}
use Rattle.rn_search.specs.Points.{node_of, tokens_of, holes_of, instance_of, net_called}
use Rattle.rn_search.specs.Points.{offered, offers}

-- the decisions lead to a binding with an alternative more
abbrev pub LeadsBy : Sought → List Decision → Point → ℕ → Binding → Type 0
LeadsBy sought ds point a b = Leads sought (ds ++ offers sought ds point a ∷ []) b

-- Whatever is looked for starts at the start.
abbrev pub StartIsOffered : Type 0
StartIsOffered = (sought : Sought) (b : Binding) → Leads sought [] b →
    LeadsBy sought [] P.Start 0 b

-- A node may start a firing: it is of an instance of the marking with that net, and its transition
-- has no uplink.
pub record MayStart (system : System) (m : Marking) (start : Head) : Type 0 where
  pub path : start.path ≡ []
  pub number : ℕ
  pub inst : start.inst ≡ Old number
  pub net : net_of m number ≡ Some start.net
  pub there : start.transition < length (net_at system start.net).transitions
  pub uplink : (transition_in system start).uplink ≡ None

-- Each binding that is enabled starts at such a node.
abbrev pub StartsAreKept : Type 0
StartsAreKept = (system : System) (m : Marking) (b : Binding) (depth : ℕ) →
    Enabled system m b depth → (start : Head) × MayStart system m start × StartsAt b start

-- An arc of a decision's node finds one of the tokens of its place.
abbrev pub TokensAreOffered : Type 0
TokensAreOffered = (sought : Sought) (ds : List Decision) (b : Binding) (node k : ℕ)
    (x : NetArc) → Leads sought ds b →
    slice_get (transition_in sought.system (node_of sought ds node)).arcs k ≡ Some x →
    finds_token x.kind ≡ true →
    (a : ℕ) × (a < length (tokens_of sought (node_of sought ds node) k))
    × LeadsBy sought ds (P.Token node k 0) a b

-- A clear arc of such a node finds the list of all of them.
abbrev pub ListsAreOffered : Type 0
ListsAreOffered = (sought : Sought) (ds : List Decision) (b : Binding) (node k : ℕ)
    (x : NetArc) → Leads sought ds b →
    slice_get (transition_in sought.system (node_of sought ds node)).arcs k ≡ Some x →
    x.kind ≡ Clear → LeadsBy sought ds (P.List node k) 0 b

-- What is known of the variables of an expression: an environment has a forced value for each.
pub record IsKnown (system : System) (ds : List Decision) (head : Head) (e : Expr) (env : Env)
    : Type 0 where
  pub this : env.this ≡ head.inst
  pub step : env.step ≡ None
  pub vars : All (Contains (transition_in system head).vars) (vars_in e)
  pub forced : (x : ℕ) → Contains (vars_in e) x → (v : Value) ×
      (value_beside env.pairs x ≡ Some v) × IsForcedTo system ds (λ a. Some (a.var head.path x)) v

-- Where the variables of an expression of a node are known, it has the value that it has in each
-- binding to which the decisions lead. So a guard that is known to be false leads to none.
abbrev pub KnownIsSo : Type 0
KnownIsSo = (sought : Sought) (ds : List Decision) (b : Binding) (node : Node) (e : Expr)
    (env : Env) → Leads sought ds b → AreInTurn sought.system ds → 0 < length ds →
    Contains b.nodes node → IsKnown sought.system ds (head_of node) e env →
    worth e env ≡ worth e (env_of sought.system node)

-- An operator application whose variables are known has a value, a whole number, and that is it.
abbrev pub ResultsAreOffered : Type 0
ResultsAreOffered = (sought : Sought) (ds : List Decision) (b : Binding) (node k : ℕ)
    (hole : D.Site × Hole) (env : Env) → Leads sought ds b → AreInTurn sought.system ds →
    0 < length ds →
    slice_get (holes_of (transition_in sought.system (node_of sought ds node))) k ≡ Some hole →
    IsKnown sought.system ds (node_of sought ds node) hole.1.form env →
    (n : ℤ) × (worth hole.1.form env ≡ Some (Value.Int n))
    × LeadsBy sought ds (P.Result node k n) 0 b

-- Where the target of a downlink is forced to an instance, one of the transitions of its net that
-- answer is the child's.
abbrev pub CallsAreOffered : Type 0
CallsAreOffered = (sought : Sought) (ds : List Decision) (b : Binding) (node i : ℕ)
    (downlink : Downlink) (called : Called) → Leads sought ds b → AreInTurn sought.system ds →
    0 < length ds →
    slice_get (transition_in sought.system (node_of sought ds node)).downlinks i
    ≡ Some downlink →
    IsForcedTo sought.system ds
    (λ a. read_at a (node_of sought ds node) (target i) downlink.target)
    (Value.Inst (instance_of sought ds called)) →
    (net a : ℕ) × (net_called sought ds called ≡ Some net)
    × (a < length (answering sought.system net downlink.channel))
    × LeadsBy sought ds (P.Call node i called) a b

-- A guard of a node that was entered is true, where it is known.
abbrev pub KnownGuardsHold : Type 0
KnownGuardsHold = (sought : Sought) (ds : List Decision) (b : Binding) (head : Head)
    (guard : Cond) (env : Env) → Leads sought ds b → AreInTurn sought.system ds →
    0 < length ds → IsEntered ds head →
    Contains (transition_in sought.system head).guards guard →
    ((e : Expr) → Contains (guard_exprs guard) e → IsKnown sought.system ds head e env) →
    IsTrueUnder env guard

-- A place of an inhibitor arc of such a node doesn't hold the token that the inscription is known
-- to be.
abbrev pub KnownInhibitorsHold : Type 0
KnownInhibitorsHold = (sought : Sought) (ds : List Decision) (b : Binding) (head : Head)
    (k : ℕ) (x : NetArc) (v : Value) (env : Env) → Leads sought ds b →
    AreInTurn sought.system ds → 0 < length ds → IsEntered ds head →
    slice_get (transition_in sought.system head).arcs k ≡ Some x → x.kind ≡ Inhibit →
    IsKnown sought.system ds head x.inscription env → worth x.inscription env ≡ Some v →
    ¬ Contains (tokens_of sought head k) v

-- What leads to something can be satisfied. So a decision that can't be leads to nothing.
abbrev pub LeadingIsSolvable : Type 0
LeadingIsSolvable = (sought : Sought) (ds : List Decision) (b : Binding) → Leads sought ds b →
    AreInTurn sought.system ds → IsSolvable sought.system ds

-- A node that was entered isn't too deep, and the levels that are left suffice for the calls below
-- it.
abbrev pub NodesHaveRoom : Type 0
NodesHaveRoom = (sought : Sought) (ds : List Decision) (b : Binding) (head : Head) →
    Good sought.system → Leads sought ds b → IsEntered ds head →
    (length head.path ≤ sought.depth)
    × (suffices sought.system (sought.depth - length head.path)
    (transition_in sought.system head) ≡ true)

-- What decisions lead to, fewer of them lead to.
abbrev pub FewerLead : Type 0
FewerLead = (sought : Sought) (ds more : List Decision) (b : Binding) →
    Leads sought (ds ++ more) b → Leads sought ds b

-- An alternative that isn't a decision leads to nothing.
abbrev pub NoneLeadsNowhere : Type 0
NoneLeadsNowhere = (sought : Sought) (ds : List Decision) (point : Point) (a : ℕ) (b : Binding) →
    offered sought ds point a ≡ None → ¬ LeadsBy sought ds point a b

-- Different alternatives of a point lead to different bindings.
abbrev pub OneWay : Type 0
OneWay = (sought : Sought) (ds : List Decision) (point : Point) (a c : ℕ) (b : Binding) →
    LeadsBy sought ds point a b → LeadsBy sought ds point c b → a ≡ c

-- No binding starts at two nodes.
abbrev pub OneStart : Type 0
OneStart = (b : Binding) (start other : Head) → StartsAt b start → StartsAt b other →
    start ≡ other

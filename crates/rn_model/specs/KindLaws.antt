-- Laws over the kinds of what is forced, before anything agrees. Each is the contract of a function
-- that does nothing.
use Rattle.std.specs.Prelude.{ℕ, ◌≡◌, List, Option, Some, All, Contains}
use Rattle.rn_value.specs.Kinds.{HasKind}
use Rattle.rn_value.specs.declared.value.InstRef.{InstRef}
use Rattle.rn_value.specs.declared.value.InstRef.TheVariants.{Old}
use Rattle.rn_value.specs.declared.value.Kind.{Kind}
use Rattle.rn_value.specs.declared.value.Value.{Value}
use Rattle.rn_value.specs.declared.value.Value.TheVariants as Value
use Rattle.rn_model.specs.declared.expr.Cond.{Cond}
use Rattle.rn_model.specs.declared.expr.Expr.{Expr}
use Rattle.rn_model.specs.declared.system.System.{System}
use Rattle.rn_model.specs.declared.system.ArcKind.{ArcKind}
use Rattle.rn_model.specs.declared.system.ArcKind.TheVariants.{Clear}
use Rattle.rn_model.specs.declared.system.NetArc.{NetArc}
use Rattle.rn_model.specs.declared.binding.Node.{Node}
use Rattle.rn_model.specs.declared.binding.Binding.{Binding}
use Rattle.rn_model.specs.Lists.{HaveOneValue, value_beside}
use Rattle.rn_model.specs.Systems.{transition_of, var_kind, place_kind}
use Rattle.rn_model.specs.Kinds.{HasExprKind}
use Rattle.rn_model.specs.Markings.{Marking, net_of, tokens, tokens_at}
use Rattle.rn_model.specs.Evaluation.{Env, worth}
use Rattle.rn_model.specs.Bindings.{Shape, env_of}
use Rattle.rn_model.specs.Derivation.{Assignment, Site, term_value, term_value_at, found, Satisfies}
use Rattle.rn_model.specs.Derivation.{Forced, IsVarForced, Hole, holes_in, sites_of}
use Rattle.rn_model.specs.Enabling.{Enabled}
use Rattle.rn_model.specs.RoundLaws.{ItemSet, after, IsIn, AreItems}
use Rattle.rn_model.specs.Good.{Good, Comparison, CanCompare, comparisons_in, all_exprs}
use Rattle.rn_model.specs.ExpressionLaws.{HaveKinds, OperandsAreFit}
use Rattle.rn_model.specs.AgreementLaws.{MayCompare}

-- where an expression stands: at a site of a node, which is of this instance and on this path
pub record Standing : Type 0 where
  pub inst : InstRef
  pub path : List ℕ
  pub site : Site

-- the value of an expression that stands there, as a term over the unknowns
abbrev pub standing_value : Assignment → Standing → Expr → Option Value
standing_value a s e =
    term_value e (record { this = s.inst; var = a.var s.path; hole = a.hole s.path s.site })

-- An equation over the unknowns, as a search brings it in.
pub data Equation : Type 0 where
  -- two expressions have one value
  alike : Standing → Expr → Standing → Expr → Equation
  -- an expression has this value
  gives : Standing → Expr → Value → Equation
  -- this variable of the node on this path is this value
  var_is : List ℕ → ℕ → Value → Equation
  -- so is the operator application of the node on this path, by its site and the way to it
  hole_is : List ℕ → Site → List ℕ → Value → Equation

-- an assignment satisfies an equation
abbrev pub Meets : Assignment → Equation → Type 0
Meets a (alike s e r f) = HaveOneValue (standing_value a s e) (standing_value a r f)
Meets a (gives s e v) = standing_value a s e ≡ Some v
Meets a (var_is path x v) = a.var path x ≡ v
Meets a (hole_is path site way v) = a.hole path site way ≡ v

-- An equation whose two sides share a kind, where the variables of the node on each path have these
-- kinds. Operator applications are whole numbers.
abbrev pub IsKinded : (List ℕ → ℕ → Kind) → Equation → Type 0
IsKinded kinds (alike s e r f) =
    (kind : Kind) × HasExprKind (kinds s.path) e kind × HasExprKind (kinds r.path) f kind
IsKinded kinds (gives s e v) =
    (kind : Kind) × HasExprKind (kinds s.path) e kind × HasKind v kind
IsKinded kinds (var_is path x v) = HasKind v (kinds path x)
IsKinded kinds (hole_is path site way v) = HasKind v Kind.Int

-- An assignment that gives each variable a value of its kind, each operator application a whole
-- number, and so each expression a value of each kind that it has, if any.
pub record HasKindsOf (kinds : List ℕ → ℕ → Kind) (a : Assignment) : Type 0 where
  pub vars : (path : List ℕ) (x : ℕ) → HasKind (a.var path x) (kinds path x)
  pub holes : (path : List ℕ) (site : Site) (way : List ℕ) →
      HasKind (a.hole path site way) Kind.Int
  pub terms : (s : Standing) (e : Expr) (kind : Kind) (v : Value) →
      HasExprKind (kinds s.path) e kind → standing_value a s e ≡ Some v → HasKind v kind

-- Whatever assignment there is, one of the kinds satisfies each kinded equation that it satisfies.
-- So where some assignment satisfies kinded equations, what they force has its kind.
abbrev pub SolutionsHaveKinds : Type 0
SolutionsHaveKinds = (kinds : List ℕ → ℕ → Kind) (a : Assignment) →
    (mended : Assignment) × HasKindsOf kinds mended
    × ((q : Equation) → IsKinded kinds q → Meets a q → Meets mended q)

-- What an arc may find among the tokens of its place: one of them, or all as the list of a clear
-- arc.
abbrev pub FindsAmong : ArcKind → List Value → Value → Type 0
FindsAmong Clear vs v = v ≡ Value.List vs
FindsAmong _ vs v = Contains vs v

-- each token of each instance has its place's kind, as sound tokens have
abbrev pub HasKindedTokens : System → Marking → Type 0
HasKindedTokens system m = (n net place : ℕ) (v : Value) → net_of m n ≡ Some net →
    Contains (tokens_at m n place) v → HasKind v (place_kind system net place)

-- Nodes stand on instances of their nets, and what their arcs find by these items is there.
pub record AreFoundAt (system : System) (m : Marking) (b : Binding) (set : ItemSet) : Type 0 where
  pub there : All (λ node. (n : ℕ) → node.inst ≡ Old n → net_of m n ≡ Some node.net) b.nodes
  pub finds : (node : Node) (k : ℕ) (x : NetArc) (v : Value) →
      IsIn system b set (found node k x) → worth x.inscription (env_of system node) ≡ Some v →
      FindsAmong x.kind (tokens m node.inst x.place) v

-- a reading in which each value is the one that the node's variable is forced to
abbrev pub AreForcedValues : System → Binding → ItemSet → Node → Env → Type 0
AreForcedValues system b set node env = (x : ℕ) (v : Value) → value_beside env.pairs x ≡ Some v →
    (forced : IsVarForced system b (IsIn system b set) node x) × (forced.0 ≡ v)

-- What these items force at a node has its kind: variables, and expressions wherever they stand.
-- And what is computed from forced values meets no value of a wrong kind: operands are fit, of
-- whole expressions and of the operator applications at the node's sites, and guards compare what
-- they may.
pub record ForceKinds (system : System) (b : Binding) (set : ItemSet) (node : Node) : Type 0 where
  pub vars : (x : ℕ) (forced : IsVarForced system b (IsIn system b set) node x) →
      HasKind forced.0 (var_kind system node.net x)
  pub terms : (site : Site) (e : Expr) (kind : Kind) →
      HasExprKind (var_kind system node.net) e kind →
      (forced : Forced system b (IsIn system b set) (λ a. term_value_at a node site e)) →
      HasKind forced.0 kind
  pub readings : (env : Env) → AreForcedValues system b set node env →
      HaveKinds (var_kind system node.net) env
  pub operands : (env : Env) (e : Expr) → AreForcedValues system b set node env →
      Contains (all_exprs (transition_of system node)) e → OperandsAreFit env e
  pub computed : (env : Env) (site : Site) (e : Expr) (hole : Hole) →
      AreForcedValues system b set node env →
      Contains (sites_of (transition_of system node)) (site, e) → Contains (holes_in e) hole →
      OperandsAreFit env hole.form
  pub guards : (env : Env) (guard : Cond) (c : Comparison) →
      AreForcedValues system b set node env →
      Contains (transition_of system node).guards guard → Contains (comparisons_in guard) c →
      (v w : Value) → worth c.left env ≡ Some v → worth c.right env ≡ Some w →
      MayCompare c.kind v w

-- In a good system, at a marking whose tokens have their kinds, where some assignment satisfies the
-- equations of these items, they force each node to values of its kinds.
abbrev pub ForcedHaveKinds : Type 0
ForcedHaveKinds = (system : System) (m : Marking) (b : Binding) (depth : ℕ) (set : ItemSet)
    (a : Assignment) → Good system → HasKindedTokens system m → Shape system b depth →
    AreItems system b set → AreFoundAt system m b set →
    Satisfies system b (IsIn system b set) a →
    (node : Node) → Contains b.nodes node → ForceKinds system b set node

-- what an enabled binding's arcs find is there
abbrev pub EnabledAreFoundAt : Type 0
EnabledAreFoundAt = (system : System) (m : Marking) (b : Binding) (depth : ℕ) (set : ItemSet) →
    Enabled system m b depth → AreItems system b set → AreFoundAt system m b set

-- in an expression with a kind each operator application has one
abbrev pub HolesHaveKinds : Type 0
HolesHaveKinds = (kinds : ℕ → Kind) (e : Expr) (kind : Kind) (hole : Hole) →
    HasExprKind kinds e kind → Contains (holes_in e) hole →
    (own : Kind) × HasExprKind kinds hole.form own

-- where variables have values of their kinds, each comparison of a condition compares what it may
abbrev pub KindsFitComparisons : Type 0
KindsFitComparisons = (kinds : ℕ → Kind) (env : Env) (cond : Cond) → HaveKinds kinds env →
    All (λ c. CanCompare kinds c c.kind) (comparisons_in cond) →
    (c : Comparison) → Contains (comparisons_in cond) c →
    (v w : Value) → worth c.left env ≡ Some v → worth c.right env ≡ Some w →
    MayCompare c.kind v w

-- what is in after some rounds is one of the binding's items
abbrev pub RoundsAreItems : Type 0
RoundsAreItems = (system : System) (b : Binding) (n : ℕ) → AreItems system b (after n)

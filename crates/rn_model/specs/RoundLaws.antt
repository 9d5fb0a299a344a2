-- Laws over items that come in one at a time, and over the rounds. Each is the contract of a
-- function that does nothing.
use Rattle.std.specs.Prelude.{ℕ, ◌≡◌, ◌<◌, ◌≤◌, ◌↔◌, Bool, List, [], Option, Some, take, slice_get}
use Rattle.std.specs.Prelude.{All, Contains, IsTrue}
use Rattle.rn_value.specs.declared.value.Value.{Value}
use Rattle.rn_model.specs.declared.expr.Expr.{Expr}
use Rattle.rn_model.specs.declared.system.System.{System}
use Rattle.rn_model.specs.declared.system.Downlink.{Downlink}
use Rattle.rn_model.specs.declared.binding.Node.{Node}
use Rattle.rn_model.specs.declared.binding.Binding.{Binding}
use Rattle.rn_model.specs.Systems.{transition_of}
use Rattle.rn_model.specs.Evaluation.{worth}
use Rattle.rn_model.specs.Bindings.{Shape, Calls, env_of}
use Rattle.rn_model.specs.Agreement.{Agrees}
use Rattle.rn_model.specs.Derivation.{Item, entry, target, items_of, Assignment, Forced, MayEnter}
use Rattle.rn_model.specs.Derivation.{InBy, Derived, IsVarForced, Site, sites_of, term_value_at}
use Rattle.rn_model.specs.DerivationLaws.{AreOwnValues}

-- The first is the entry of the start, each later one may come in by those before it, and none
-- comes in twice.
pub record ComeIn (system : System) (b : Binding) (items : List Item) : Type 0 where
  pub start : (node : Node) × Contains b.nodes node × (node.path ≡ [])
      × (slice_get items 0 ≡ Some (entry node))
  pub each : (k : ℕ) (item : Item) → slice_get items k ≡ Some item →
      Contains (items_of system b) item
  pub enter : (k : ℕ) (item : Item) → 0 < k → slice_get items k ≡ Some item →
      MayEnter system b (Contains (take k items)) item
  pub once : (j k : ℕ) (item : Item) → slice_get items j ≡ Some item →
      slice_get items k ≡ Some item → j ≡ k

-- no further item may come in by these
abbrev pub IsClosed : System → Binding → List Item → Type 0
IsClosed system b items = (item : Item) → Contains (items_of system b) item →
    MayEnter system b (Contains items) item → Contains items item

-- all items of the binding are among these
abbrev pub AreAll : System → Binding → List Item → Type 0
AreAll system b items = All (Contains items) (items_of system b)

-- each variable of each node is forced by these
abbrev pub ForceAll : System → Binding → List Item → Type 0
ForceAll system b items = All
    (λ node. All (IsVarForced system b (Contains items) node) (transition_of system node).vars)
    b.nodes

-- of items that come in one at a time the k-th is in after k rounds
abbrev pub RoundsHoldThem : Type 0
RoundsHoldThem = (system : System) (b : Binding) (items : List Item) → ComeIn system b items →
    (k : ℕ) (item : Item) → slice_get items k ≡ Some item → InBy system b k item

-- where no further item may come in, they are exactly those that are in after some round
abbrev pub ClosedAreRounds : Type 0
ClosedAreRounds = (system : System) (b : Binding) (depth : ℕ) (items : List Item) →
    Shape system b depth → ComeIn system b items → IsClosed system b items →
    (item : Item) → Contains items item ↔ ((n : ℕ) × InBy system b n item)

-- and so the binding is derived exactly where they are all of its items and force its variables
abbrev pub ClosedDecide : Type 0
ClosedDecide = (system : System) (b : Binding) (depth : ℕ) (items : List Item) →
    Shape system b depth → ComeIn system b items → IsClosed system b items →
    Derived system b ↔ (AreAll system b items × ForceAll system b items)

-- A set of items, given by a list of them, as those that are in after so many rounds, or by a test.
pub data ItemSet : Type 0 where
  listed : List Item → ItemSet
  after : ℕ → ItemSet
  tested : (Item → Bool) → ItemSet

-- an item is in a set
abbrev pub IsIn : System → Binding → ItemSet → Item → Type 0
IsIn system b (listed items) item = Contains items item
IsIn system b (after n) item = InBy system b n item
IsIn system b (tested test) item = IsTrue (test item)

-- each item of one set is in another
abbrev pub IsPartOf : System → Binding → ItemSet → ItemSet → Type 0
IsPartOf system b set others = (item : Item) → IsIn system b set item → IsIn system b others item

-- what is in after some rounds is in after more
abbrev pub StaysIn : Type 0
StaysIn = (system : System) (b : Binding) (item : Item) (j n : ℕ) → j ≤ n →
    InBy system b j item → InBy system b n item

-- what may come in by some items may come in by more
abbrev pub MayEnterByMore : Type 0
MayEnterByMore = (system : System) (b : Binding) (set others : ItemSet) (item : Item) →
    IsPartOf system b set others →
    MayEnter system b (IsIn system b set) item → MayEnter system b (IsIn system b others) item

-- what some items force, more of them force, to the same value
abbrev pub ForcedByMore : Type 0
ForcedByMore = (system : System) (b : Binding) (set others : ItemSet)
    (term : Assignment → Option Value) → IsPartOf system b set others →
    (forced : Forced system b (IsIn system b set) term) →
    (more : Forced system b (IsIn system b others) term) × (more.0 ≡ forced.0)

-- each item of a set is one of the binding's
abbrev pub AreItems : System → Binding → ItemSet → Type 0
AreItems system b set = (item : Item) → IsIn system b set item → Contains (items_of system b) item

-- Whatever is forced has no other value than under the binding's own values.
abbrev pub ForcedTermsAreOwn : Type 0
ForcedTermsAreOwn = (system : System) (b : Binding) (own : Assignment) (set : ItemSet)
    (term : Assignment → Option Value) → AreOwnValues system b own → AreItems system b set →
    (forced : Forced system b (IsIn system b set) term) → term own ≡ Some forced.0

-- an expression that is forced at its site has no other value than its own under the node
abbrev pub ForcedExpressionsAreOwn : Type 0
ForcedExpressionsAreOwn = (system : System) (b : Binding) (depth : ℕ) (set : ItemSet) →
    Shape system b depth → Agrees system b → AreItems system b set →
    (node : Node) (site : Site) (e : Expr) (v : Value) → Contains b.nodes node →
    Contains (sites_of (transition_of system node)) (site, e) →
    worth e (env_of system node) ≡ Some v →
    (forced : Forced system b (IsIn system b set) (λ a. term_value_at a node site e)) →
    forced.0 ≡ v

-- the target of a downlink is forced to no other value than the child's instance
abbrev pub TargetsAreChildren : Type 0
TargetsAreChildren = (system : System) (b : Binding) (depth : ℕ) (set : ItemSet) →
    Shape system b depth → Agrees system b → AreItems system b set →
    (caller : Node) (i : ℕ) (downlink : Downlink) (node : Node) →
    Calls system b caller i downlink node →
    (forced : Forced system b (IsIn system b set)
    (λ a. term_value_at a caller (target i) downlink.target)) →
    forced.0 ≡ Value.Inst node.inst

-- Laws over derivation. Each is the contract of a function that does nothing.
use Rattle.std.specs.Prelude.{ℕ, suc, ◌≡◌, Option, Some, Contains}
use Rattle.rn_value.specs.declared.value.Value.{Value}
use Rattle.rn_model.specs.declared.system.System.{System}
use Rattle.rn_model.specs.declared.system.Downlink.{Downlink}
use Rattle.rn_model.specs.declared.binding.Node.{Node}
use Rattle.rn_model.specs.declared.binding.Binding.{Binding}
use Rattle.rn_model.specs.Lists.{value_beside}
use Rattle.rn_model.specs.Bindings.{Shape, env_of, Calls}
use Rattle.rn_model.specs.Agreement.{Agrees}
use Rattle.rn_model.specs.Derivation.{Assignment, Satisfies, Forced, IsVarForced, InBy, items_of}
use Rattle.rn_model.specs.Derivation.{target, term_value_at}

-- an assignment gives each variable of each node the node's own value
abbrev pub GivesItsValues : System → Binding → Assignment → Type 0
GivesItsValues system b a = (node : Node) (x : ℕ) (v : Value) → Contains b.nodes node →
    value_beside (env_of system node).pairs x ≡ Some v → a.var node.path x ≡ v

-- An assignment that gives a binding's own values satisfies the equations of all its items, and so
-- of those that are in after any number of rounds.
pub record AreOwnValues (system : System) (b : Binding) (a : Assignment) : Type 0 where
  pub values : GivesItsValues system b a
  pub items : Satisfies system b (Contains (items_of system b)) a
  pub rounds : (n : ℕ) → Satisfies system b (InBy system b n) a
  pub targets : (caller : Node) (i : ℕ) (downlink : Downlink) (node : Node) →
      Calls system b caller i downlink node →
      term_value_at a caller (target i) downlink.target ≡ Some (Value.Inst node.inst)

-- where a binding of the shape agrees, its own values satisfy the equations of its items
abbrev pub OwnValuesSatisfy : Type 0
OwnValuesSatisfy = (system : System) (b : Binding) (depth : ℕ) → Shape system b depth →
    Agrees system b → (a : Assignment) × AreOwnValues system b a

-- and so a variable that is forced has no other value than its own
abbrev pub ForcedIsOwn : Type 0
ForcedIsOwn = (system : System) (b : Binding) (depth : ℕ) → Shape system b depth →
    Agrees system b → (n : ℕ) (node : Node) (x : ℕ) (v : Value) → Contains b.nodes node →
    value_beside (env_of system node).pairs x ≡ Some v →
    (forced : IsVarForced system b (InBy system b n) node x) → forced.0 ≡ v

-- what is forced after some rounds is forced after one more
abbrev pub ForcedStays : Type 0
ForcedStays = (system : System) (b : Binding) (n : ℕ) (term : Assignment → Option Value) →
    Forced system b (InBy system b n) term → Forced system b (InBy system b (suc n)) term

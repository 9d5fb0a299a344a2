-- The nodes that are made of what was decided.
use Rattle.std.specs.Prelude.{ℕ, ◌≡◌, List, [], ◌∷◌, All, flat_map}
use Rattle.std.specs.List.{AllZip}
use Rattle.rn_value.specs.declared.value.Value.{Value}
use Rattle.rn_model.specs.declared.binding.Node.{Node}
use Rattle.rn_growing.specs.declared.decision.Head.{Head}
use Rattle.rn_growing.specs.declared.decision.Decision.{Decision}
use Rattle.rn_growing.specs.declared.decision.Decision.TheVariants.{Entered}
use Rattle.rn_growing.specs.Decisions.{head_of, transition_in}
use Rattle.rn_growing.specs.Turns.{IsEntered}
use Rattle.rn_growing.specs.Grown.{Grown}
use Rattle.rn_looking.specs.Forced.{IsVarForcedTo, IsVarForcedIn}

-- the values to which variables are forced, each at its variable's index
abbrev pub AreValues : Grown → List ℕ → List ℕ → List Value → Type 0
AreValues g path vars values = AllZip (λ x v. IsVarForcedTo g path x v) vars values

-- all variables of a node, or of all nodes that were entered, are forced
abbrev pub IsForcedAt : Grown → Head → Type 0
IsForcedAt g head = All (IsVarForcedIn g head.path) (transition_in g.system head).vars

abbrev pub AreAllForced : Grown → Type 0
AreAllForced g = (head : Head) → IsEntered g.decisions head → IsForcedAt g head

-- a node has the values to which its variables are forced
abbrev pub IsMadeNode : Grown → Head → Node → Type 0
IsMadeNode g head node = (head_of node ≡ head)
    × AreValues g head.path (transition_in g.system head).vars node.values

-- the nodes that decisions enter, in order
abbrev pub entered_by : Decision → List Head
entered_by (Entered head caller) = head ∷ []
entered_by _ = []

-- nodes are just those that decisions enter, in order
abbrev pub AreMadeNodes : Grown → List Decision → List Node → Type 0
AreMadeNodes g ds nodes = AllZip (IsMadeNode g) (flat_map entered_by ds) nodes

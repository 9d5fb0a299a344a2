-- What the actions of a firing give.
use Rattle.std.specs.Prelude.{ℕ, ◌≡◌, List, All, Contains}
use Rattle.rn_value.specs.declared.value.InstRef.TheVariants.{Old}
use Rattle.rn_model.specs.declared.system.System.{System}
use Rattle.rn_model.specs.declared.system.NetArc.{NetArc}
use Rattle.rn_model.specs.declared.binding.Node.{Node}
use Rattle.rn_model.specs.Demands.{asked_at, puts}
use Rattle.rn_model.specs.Firing.{Effects}
use Rattle.rn_model.specs.Systems.{transition_of}
use Rattle.rn_table.specs.Changes.{values_at}
use Rattle.rn_table.specs.declared.change.Row.{Row}

-- The rows have at each place of each instance what all arcs put there after the actions, in the
-- order of nodes and arcs.
abbrev pub ArePut : System → Effects → List Row → Type 0
ArePut system effects rows =
    (n place : ℕ) →
    values_at rows n place ≡ asked_at puts system effects.read (Old n) place

-- the row stands at a place that an arc of a node on its instance names
pub record IsOfArc (system : System) (nodes : List Node) (row : Row) : Type 0 where
  pub node : Node
  pub there : Contains nodes node
  pub stands : node.inst ≡ Old row.inst
  pub arc : NetArc
  pub arc_there : Contains (transition_of system node).arcs arc
  pub place : arc.place ≡ row.place

-- each row does
abbrev pub AreOfArcs : System → List Node → List Row → Type 0
AreOfArcs system nodes rows = All (IsOfArc system nodes) rows

-- Laws over the numbers of new instances. Each is the contract of a function that does nothing.
use Rattle.std.specs.Prelude.{ℕ, ◌≡◌, ◌+◌, ◌≤◌, All, length, map, flat_map}
use Rattle.rn_model.specs.declared.system.System.{System}
use Rattle.rn_model.specs.declared.binding.Binding.{Binding}
use Rattle.rn_value.specs.declared.value.InstRef.TheVariants.{Old}
use Rattle.rn_model.specs.Bindings.{IsNodeOf}
use Rattle.rn_model.specs.Demands.{taken_at, cleared_at}
use Rattle.rn_model.specs.Enabling.{Enabled}
use Rattle.rn_model.specs.Firing.{creations_of, named}
use Rattle.rn_model.specs.Good.{Good}
use Rattle.rn_model.specs.Limits.{greatest_instance}
use Rattle.rn_model.specs.Liveness.{Stands}
use Rattle.rn_model.specs.Markings.{Marking, IsMarking}
use Rattle.rn_model.specs.SoundTokens.{HasSoundTokens}
use Rattle.rn_calc.specs.OwnKinds.{HaveOwnKinds}
use Rattle.rn_table.specs.Changes.{MayCome, values_at}
use Rattle.rn_table.specs.Laws.{LeavesNew}
use Rattle.rn_table.specs.declared.change.Change.{Change}
use Rattle.rn_acts.specs.Acted.{AreOfArcs}

-- with these numbers a binding makes the same instances
abbrev pub NumberingKeepsCreations : Type 0
NumberingKeepsCreations = (system : System) (b : Binding) (next : ℕ) →
    creations_of system (named system b next) ≡ creations_of system b

-- with these numbers its nodes are still those of the system
abbrev pub NumberingKeepsNodes : Type 0
NumberingKeepsNodes = (system : System) (b : Binding) (next : ℕ) →
    All (IsNodeOf system) b.nodes → All (IsNodeOf system) (named system b next).nodes

-- and each value in them still has its variable's kind
abbrev pub NumberingKeepsKinds : Type 0
NumberingKeepsKinds = (system : System) (b : Binding) (next : ℕ) →
    All (HaveOwnKinds system) b.nodes → All (HaveOwnKinds system) (named system b next).nodes

-- A change of a binding's firing: under the numbers from next, it takes and clears what the binding
-- does, its rows stand at places that the binding's arcs name, and it makes the same instances.
pub record IsOfFiring (system : System) (b : Binding) (next : ℕ) (change : Change) : Type 0 where
  pub taken : (n place : ℕ) →
      values_at change.taken n place ≡ taken_at system (named system b next) (Old n) place
  pub cleared : (n place : ℕ) → values_at change.cleared n place
      ≡ flat_map (λ vs. vs) (cleared_at system (named system b next) (Old n) place)
  pub taken_arcs : AreOfArcs system (named system b next).nodes change.taken
  pub cleared_arcs : AreOfArcs system (named system b next).nodes change.cleared
  pub put_arcs : AreOfArcs system (named system b next).nodes change.put
  pub made : change.made ≡ map (λ c. c.net) (creations_of system b)

-- Where a binding is enabled at a marking, the change of its firing may come to a table that stands
-- for the marking, as far as numbers go; and it takes and clears nothing of the instances that it
-- makes.
abbrev pub FiringsMayCome : Type 0
FiringsMayCome = (system : System) (table m : Marking) (b : Binding) (depth : ℕ)
    (change : Change) → Good system → IsMarking system m → HasSoundTokens system m →
    Stands system table m → Enabled system m b depth → IsOfFiring system b table.next change →
    table.next + length (creations_of system b) ≤ greatest_instance + 1 →
    MayCome system change table × LeavesNew change table.next

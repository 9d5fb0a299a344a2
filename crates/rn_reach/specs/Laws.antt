-- Laws over the instances that one reaches. Each is the contract of a function that does nothing.
use Rattle.std.specs.Prelude.{ℕ, ◌≡◌, ◌↔◌, List, ◌++◌, Contains}
use Rattle.rn_value.specs.declared.value.InstRef.TheVariants.{Old}
use Rattle.rn_model.specs.declared.system.System.{System}
use Rattle.rn_model.specs.declared.binding.Node.{Node}
use Rattle.rn_model.specs.declared.binding.Binding.{Binding}
use Rattle.rn_model.specs.Good.{Good}
use Rattle.rn_model.specs.Markings.{Marking, instance_at}
use Rattle.rn_model.specs.Enabling.{Enabled}
use Rattle.rn_model.specs.Runs.{Firing, Run, end_of}
use Rattle.rn_reach.specs.Changes.{MayChange}
use Rattle.rn_reach.specs.Reach.{Reach, StartsIn, IsSameInReach, ReachesOne}
use Rattle.rn_reach.specs.Reach.{DifferAtMostIn}

-- an enabled binding that starts in an instance stands only on existing instances that it reaches
abbrev pub BindingsStayInReach : Type 0
BindingsStayInReach = (system : System) (m : Marking) (b : Binding) (depth n : ℕ) →
    Enabled system m b depth → StartsIn b n →
    (node : Node) (k : ℕ) → Contains b.nodes node → node.inst ≡ Old k → Reach m n k

-- where two markings have the same at all that an instance reaches in one, it reaches the same in
-- both
abbrev pub ReachIsTheSame : Type 0
ReachIsTheSame = (m other : Marking) (n : ℕ) → IsSameInReach m other n →
    (k : ℕ) → Reach m n k ↔ Reach other n k

-- and the same bindings that start in it are enabled at both
abbrev pub ReachDecides : Type 0
ReachDecides = (system : System) (m other : Marking) (b : Binding) (depth n : ℕ) →
    IsSameInReach m other n → StartsIn b n →
    Enabled system m b depth ↔ Enabled system other b depth

-- an instance that reaches a changed one before a change reaches one after it, and no other does
abbrev pub ChangesAreReachedInBoth : Type 0
ChangesAreReachedInBoth = (m other : Marking) (changed : List ℕ) → DifferAtMostIn changed m other →
    (n : ℕ) → ReachesOne m changed n ↔ ReachesOne other changed n

-- where an instance reaches none, the same bindings that start in it are enabled before and after
abbrev pub OthersStay : Type 0
OthersStay = (system : System) (m other : Marking) (changed : List ℕ) (b : Binding) (depth n : ℕ) →
    DifferAtMostIn changed m other → ¬ ReachesOne m changed n → StartsIn b n →
    Enabled system m b depth ↔ Enabled system other b depth

-- the later firings of a run change no other instances than those on which their nodes stand and
-- those that they make
abbrev pub FiringsChangeNoOther : Type 0
FiringsChangeNoOther = (system : System) (depth : ℕ) (fs gs : List Firing) (n : ℕ) →
    Good system → Run system depth (fs ++ gs) →
    ¬ MayChange gs (end_of system fs).next (end_of system (fs ++ gs)).next n →
    instance_at (end_of system (fs ++ gs)) n ≡ instance_at (end_of system fs) n

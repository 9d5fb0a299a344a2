-- What is left to be decided, as a list.
use Rattle.std.specs.Prelude.{◌≡◌, ◌<◌, ◌⊎◌, length, List, [], ◌++◌, map, filter, flat_map}
use Rattle.std.specs.Prelude.{Contains}
use Rattle.std.specs.List.{enumerate_from}
use Rattle.rn_value.specs.declared.value.InstRef.TheVariants.{Old}
use Rattle.rn_value.specs.declared.value.Value.TheVariants as Value
use Rattle.rn_model.specs.declared.system.System.{System}
use Rattle.rn_model.specs.Derivation.{arcs_that, finds_values}
use Rattle.rn_growing.specs.declared.decision.Head.{Head}
use Rattle.rn_growing.specs.declared.decision.Decision.{Decision}
use Rattle.rn_growing.specs.declared.decision.Decision.TheVariants.{Entered, Found, Computed}
use Rattle.rn_growing.specs.Decisions.{transition_in}
use Rattle.rn_growing.specs.Turns.{MayCome, AreClosed, SameThing}
use Rattle.rn_growing.proofs.SameUnknowns.{as_site}
use Rattle.rn_search.specs.Points.{holes_of, child}
use Rattle.rn_search.specs.Ending.{IsAsked, IsDecided, AreDone}
use Rattle.rn_search.specs.Room.{is_undecided}
use Rattle.rn_growing.specs.Grown.{IsNew}

-- One decision on each item of a node but its entry, and on the entry of each of its children. The
-- values, and the children's instances and transitions, don't matter.
abbrev pub things_of : System → Head → List Decision
things_of system head =
    map (λ e. Found head e.0 (Value.Tuple []))
    (arcs_that finds_values (transition_in system head))
    ++ map (λ hole. Computed head (as_site hole.0) hole.1.way (Value.Tuple []))
    (holes_of (transition_in system head))
    ++ map (λ e. child head e.0 (Old 0) 0 0)
    (enumerate_from 0 (transition_in system head).downlinks)

-- what the entry of a node asks
abbrev pub asked_by : System → Decision → List Decision
asked_by system (Entered head caller) = things_of system head
asked_by system _ = []

-- what is asked by the nodes that were entered, and not decided
abbrev pub what_is_left : System → List Decision → List Decision
what_is_left system ds = filter (is_undecided ds) (flat_map (asked_by system) ds)

-- It is asked, and not decided;
abbrev pub LeftIsAsked : Type 0
LeftIsAsked = (system : System) (ds : List Decision) (d : Decision) →
    Contains (what_is_left system ds) d → IsAsked system ds d × ¬ IsDecided ds d

-- whatever is asked is decided, or one on that thing is left;
abbrev pub AskedIsLeft : Type 0
AskedIsLeft = (system : System) (ds : List Decision) (d : Decision) → IsAsked system ds d →
    IsDecided ds d ⊎ ((t : Decision) × Contains (what_is_left system ds) t × SameThing d t)

-- and where nothing is left, all is decided.
abbrev pub NoneLeftIsDone : Type 0
NoneLeftIsDone = (system : System) (ds : List Decision) → what_is_left system ds ≡ [] →
    AreDone system ds

-- Where nothing that is left may come in, nothing may.
abbrev pub LeftOutIsClosed : Type 0
LeftOutIsClosed = (system : System) (ds : List Decision) → 0 < length ds →
    ((t d : Decision) → Contains (what_is_left system ds) t → SameThing d t →
    ¬ MayCome system ds d) → AreClosed system ds

-- A decision on a thing that is left is new.
abbrev pub LeftIsNew : Type 0
LeftIsNew = (system : System) (ds : List Decision) (t d : Decision) →
    Contains (what_is_left system ds) t → SameThing d t → IsNew ds d

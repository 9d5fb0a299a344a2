-- How a branch goes on, and where it is at its end.
use Rattle.std.specs.Prelude.{ℕ, ◌≡◌, ◌<◌, List, Option, Some, length, slice_get}
use Rattle.rn_choices.specs.declared.next.Next.{Next}
use Rattle.rn_choices.specs.declared.next.Next.TheVariants as N
use Rattle.rn_growing.specs.declared.decision.Head.{Head}
use Rattle.rn_growing.specs.declared.decision.Caller.{Caller}
use Rattle.rn_growing.specs.declared.decision.Decision.{Decision}
use Rattle.rn_growing.specs.declared.decision.Decision.TheVariants.{Entered}
use Rattle.rn_growing.specs.Grown.{Grown}
use Rattle.rn_search.specs.declared.point.Point.{Point}
use Rattle.rn_search.specs.Ending.{AreDone}
use Rattle.rn_search.specs.Points.{node_of}
use Rattle.rn_search.specs.Sought.{Sought}
use Rattle.rn_search.specs.Standing.{IsHead}
use Rattle.rn_looking.specs.declared.look.Look.{Look}
use Rattle.rn_looking.specs.declared.look.Look.TheVariants.{Done, Waits, Goes}

-- how a search goes on by a look at all that is asked
abbrev pub IsNextOf : Look → Next Point → Type 0
IsNextOf Done next = next ≡ N.Done
IsNextOf Waits next = next ≡ N.Stuck
IsNextOf (Goes goes count) next = next ≡ goes

-- it goes on so, and a choice may begin with another alternative
abbrev pub IsSameButFirst : Next Point → Next Point → Type 0
IsSameButFirst N.Done next = next ≡ N.Done
IsSameButFirst N.Stuck next = next ≡ N.Stuck
IsSameButFirst (N.Forced site) next = next ≡ N.Forced site
IsSameButFirst (N.Choose site of first) next = (begin : ℕ) × (next ≡ N.Choose site of begin)

-- a decision at an index enters a node
abbrev pub IsEntryAt : List Decision → ℕ → Type 0
IsEntryAt ds k = (head : Head) × ((caller : Option Caller) ×
    (slice_get ds k ≡ Some (Entered head caller)))

-- the node of a decision, or the start, is of a transition of the system
abbrev pub IsHeadIn : Sought → List Decision → ℕ → Type 0
IsHeadIn sought ds node = IsHead sought.system sought.depth (node_of sought ds node)

abbrev pub AreHeadsIn : Sought → List Decision → Type 0
AreHeadsIn sought ds = (node : ℕ) → IsHeadIn sought ds node

-- no decision is left to be made
abbrev pub IsAtEnd : Sought → Grown → Type 0
IsAtEnd sought g = (0 < length g.decisions) × AreDone sought.system g.decisions

-- Which decisions are on a thing of a node.
use Rattle.std.specs.Prelude.{ℕ, ◌≡◌, ◌<◌, true, false, List, [], ◌∷◌, ◌++◌, Option, Some, None}
use Rattle.std.specs.Prelude.{slice_get}
use Rattle.std.specs.List.{list_any}
use Rattle.rn_model.specs.declared.system.Downlink.{Downlink}
use Rattle.rn_model.specs.declared.system.NetArc.{NetArc}
use Rattle.rn_model.specs.declared.system.Transition.{Transition}
use Rattle.rn_model.specs.Derivation.{Hole, finds_token}
use Rattle.rn_model.specs.Derivation as D
use Rattle.rn_growing.specs.declared.decision.Head.{Head}
use Rattle.rn_growing.specs.declared.decision.Caller.{Caller}
use Rattle.rn_growing.specs.declared.decision.Decision.{Decision}
use Rattle.rn_growing.specs.declared.decision.Decision.TheVariants.{Entered, Found, Computed}
use Rattle.rn_growing.specs.Decided.{enters, finds}
use Rattle.rn_growing.specs.Decisions.{site_of}
use Rattle.rn_search.specs.Points.{holes_of}

-- on what an arc of a node finds, by the arc's index, or on those of the first arcs
abbrev pub IsOnArc : Head → ℕ → Decision → Type 0
IsOnArc head k (Found other j v) = (other ≡ head) × (j ≡ k)
IsOnArc head k _ = ⊥

abbrev pub IsOnArcs : Head → ℕ → Decision → Type 0
IsOnArcs head n (Found other j v) = (other ≡ head) × (j < n)
IsOnArcs head n _ = ⊥

-- on an operator application of a node, by its index, or on those of the first ones
abbrev pub IsOnHole : Transition → Head → ℕ → Decision → Type 0
IsOnHole t head k (Computed other site way v) =
    (other ≡ head) × ((hole : D.Site × Hole) × (slice_get (holes_of t) k ≡ Some hole)
    × (site_of site ≡ hole.0) × (way ≡ hole.1.way))
IsOnHole t head k _ = ⊥

abbrev pub IsOnHoles : Transition → Head → ℕ → Decision → Type 0
IsOnHoles t head n d = (k : ℕ) × (k < n) × IsOnHole t head k d

-- on the entry of a child of a node, by the index of its downlink, or on those of the first ones
abbrev pub IsOnCall : Head → ℕ → Decision → Type 0
IsOnCall head i (Entered child (Some from)) = (from.head ≡ head) × (from.downlink ≡ i)
IsOnCall head i _ = ⊥

abbrev pub IsOnCalls : Head → ℕ → Decision → Type 0
IsOnCalls head n (Entered child (Some from)) = (from.head ≡ head) × (from.downlink < n)
IsOnCalls head n _ = ⊥

-- on one of these, of whatever index
abbrev pub IsOfNode : Head → Decision → Type 0
IsOfNode head (Entered child None) = ⊥
IsOfNode head (Entered child (Some from)) = from.head ≡ head
IsOfNode head (Found other j v) = other ≡ head
IsOfNode head (Computed other site way v) = other ≡ head

-- on what is asked by the node that the decision at an index enters, or one of the first decisions
abbrev pub IsOfEntry : List Decision → ℕ → Decision → Type 0
IsOfEntry ds k d = (head : Head) × ((caller : Option Caller) ×
    (slice_get ds k ≡ Some (Entered head caller)) × IsOfNode head d)

abbrev pub IsOfEntries : List Decision → ℕ → Decision → Type 0
IsOfEntries ds n d = (k : ℕ) × (k < n) × IsOfEntry ds k d

-- an arc of a node of which nothing was found, and that finds a token
pub record FindsToken (ds : List Decision) (head : Head) (t : Transition) (k : ℕ) : Type 0 where
  pub arc : NetArc
  pub there : slice_get t.arcs k ≡ Some arc
  pub token : finds_token arc.kind ≡ true
  pub none : list_any (finds head.path k) ds ≡ false

-- a downlink of a node that wasn't answered
pub record IsToBeCalled (ds : List Decision) (head : Head) (t : Transition) (i : ℕ)
    : Type 0 where
  pub downlink : Downlink
  pub there : slice_get t.downlinks i ≡ Some downlink
  pub none : list_any (enters (head.path ++ i ∷ [])) ds ≡ false

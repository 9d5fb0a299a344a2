-- When the alternatives of a point may be tried: each of them that is a decision may be made.
use Rattle.std.specs.Prelude.{ℕ, ℤ, ◌≡◌, ◌<◌, true, false, List, [], Some, slice_get, length}
use Rattle.std.specs.Prelude.{Contains}
use Rattle.rn_value.specs.declared.value.Value.{Value}
use Rattle.rn_model.specs.declared.system.NetArc.{NetArc}
use Rattle.rn_model.specs.declared.system.Downlink.{Downlink}
use Rattle.rn_model.specs.Evaluation.{Env, worth}
use Rattle.rn_model.specs.SoundTokens.{holds_new}
use Rattle.rn_model.specs.Derivation.{Hole, finds_values, finds_token, target}
use Rattle.rn_model.specs.Derivation as D
use Rattle.rn_growing.specs.declared.decision.Decision.{Decision}
use Rattle.rn_growing.specs.declared.decision.Decision.TheVariants.{Found, Computed}
use Rattle.rn_growing.specs.Decisions.{transition_in}
use Rattle.rn_growing.specs.Equations.{IsForcedTo, read_at}
use Rattle.rn_growing.specs.Grown.{IsNew}
use Rattle.rn_growing.specs.Turns.{IsEntered}
use Rattle.rn_growing.proofs.SameUnknowns.{as_site}
use Rattle.rn_search.specs.declared.point.Point.{Point}
use Rattle.rn_search.specs.declared.point.Point.TheVariants as P
use Rattle.rn_search.specs.declared.point.Called.{Called}
use Rattle.rn_search.specs.Sought.{Sought}
use Rattle.rn_search.specs.Points.{node_of, tokens_of, holes_of, instance_of, child, offered}
use Rattle.rn_search.specs.Missing.{MayStart, IsKnown}
use Rattle.rn_search.specs.Making.{is_made}
use Rattle.rn_search.specs.Problems.{HasFitTokens}
use Rattle.rn_search.specs.Standing.{AreSound, MayBeMade}

-- an alternative may be tried after decisions
abbrev pub Allows : Sought → List Decision → Point → ℕ → Type 0
Allows sought ds point a = (d : Decision) → offered sought ds point a ≡ Some d →
    MayBeMade sought.system sought.marking sought.depth ds d

abbrev pub StartIsAllowed : Type 0
StartIsAllowed = (sought : Sought) (a : ℕ) →
    MayStart sought.system sought.marking sought.start → Allows sought [] P.Start a

-- An arc of a node that was entered, of which nothing is decided yet, and whose place holds no new
-- instance. Each token of the marking has its place's kind.
pub record IsOpen (sought : Sought) (ds : List Decision) (node k : ℕ) : Type 0 where
  pub sound : AreSound sought.system sought.marking sought.depth ds
  pub entered : IsEntered ds (node_of sought ds node)
  pub arc : NetArc
  pub there : slice_get (transition_in sought.system (node_of sought ds node)).arcs k ≡ Some arc
  pub finds : finds_values arc.kind ≡ true
  pub fresh : (v : Value) → IsNew ds (Found (node_of sought ds node) k v)
  pub tokens : HasFitTokens sought.system sought.marking
  pub old : (v : Value) → Contains (tokens_of sought (node_of sought ds node) k) v →
      holds_new v ≡ false

abbrev pub TokensAreAllowed : Type 0
TokensAreAllowed = (sought : Sought) (ds : List Decision) (node k from a : ℕ) →
    (opened : IsOpen sought ds node k) → finds_token opened.arc.kind ≡ true →
    Allows sought ds (P.Token node k from) a

abbrev pub ListsAreAllowed : Type 0
ListsAreAllowed = (sought : Sought) (ds : List Decision) (node k a : ℕ) →
    (opened : IsOpen sought ds node k) → finds_token opened.arc.kind ≡ false →
    Allows sought ds (P.List node k) a

-- The value of an operator application of such a node, by what is known of its variables.
abbrev pub ResultsAreAllowed : Type 0
ResultsAreAllowed = (sought : Sought) (ds : List Decision) (node k a : ℕ) (n : ℤ)
    (hole : D.Site × Hole) (env : Env) → AreSound sought.system sought.marking sought.depth ds →
    IsEntered ds (node_of sought ds node) →
    slice_get (holes_of (transition_in sought.system (node_of sought ds node))) k ≡ Some hole →
    IsKnown sought.system ds (node_of sought ds node) hole.1.form env →
    worth hole.1.form env ≡ Some (Value.Int n) →
    ((v : Value) →
    IsNew ds (Computed (node_of sought ds node) (as_site hole.0) hole.1.way v)) →
    Allows sought ds (P.Result node k n) a

-- The child of such a node at a downlink whose target is forced, where that isn't too deep.
abbrev pub CallsAreAllowed : Type 0
CallsAreAllowed = (sought : Sought) (ds : List Decision) (node i a : ℕ) (downlink : Downlink)
    (called : Called) → AreSound sought.system sought.marking sought.depth ds →
    IsEntered ds (node_of sought ds node) →
    slice_get (transition_in sought.system (node_of sought ds node)).downlinks i
    ≡ Some downlink →
    IsForcedTo sought.system ds
    (λ a. read_at a (node_of sought ds node) (target i) downlink.target)
    (Value.Inst (instance_of sought ds called)) →
    is_made sought.system ds (instance_of sought ds called) ≡ true →
    length (node_of sought ds node).path < sought.depth →
    ((net t : ℕ) →
    IsNew ds (child (node_of sought ds node) i (instance_of sought ds called) net t)) →
    Allows sought ds (P.Call node i called) a

-- What the store of a growing binding keeps, and what it answers.
use Rattle.std.specs.Prelude.{ℕ, ◌≡◌, ◌≤◌, ◌↔◌, List, Bool, true, false, Some}
use Rattle.std.specs.Prelude.{length, take, slice_get}
use Rattle.rn_term.specs.Assignments.{Keeps}
use Rattle.rn_term.specs.Undoing.{Rolled, IsNotLater}
use Rattle.rn_model.specs.declared.system.System.{System}
use Rattle.rn_model.specs.Derivation.{Assignment}
use Rattle.rn_growing.specs.declared.decision.Decision.{Decision}
use Rattle.rn_growing.specs.declared.slot.Frame.{Frame}
use Rattle.rn_growing.specs.Equations.{Solves}
use Rattle.rn_growing.specs.Turns.{AreInTurn}
use Rattle.rn_growing.specs.link.Laid.{LaidState, GivesAssignment, Adds}
use Rattle.rn_growing.specs.link.Layouts.{id_of, IsLaidIn}
use Rattle.rn_growing.specs.Grown.{HasFewCreations}

-- The store says what the decisions bring: the assignments that satisfy that are just those that
-- it gives.
pub record Says (system : System) (laid : LaidState) (decisions : List Decision) : Type 0 where
  pub keeps : Keeps laid.store
  pub laid_in : IsLaidIn (id_of laid.slots) laid.store
  pub exact : (a : Assignment) → Solves system decisions a ↔ GivesAssignment laid a

-- what was laid at a frame
abbrev pub laid_at : LaidState → Frame → LaidState
laid_at laid frame =
    record { store = Rolled laid.store frame.mark; slots = take frame.slots laid.slots }

-- a frame isn't later than what is laid
abbrev pub IsEarlier : Frame → LaidState → Type 0
IsEarlier frame laid = IsNotLater frame.mark laid.store × (frame.slots ≤ length laid.slots)

-- what a growing binding keeps: the store says what the decisions bring, and so it did before each
-- of them
pub record KeepsGrowing (system : System) (laid : LaidState) (decisions : List Decision)
    (frames : List Frame) : Type 0 where
  pub few : HasFewCreations system
  pub turns : AreInTurn system decisions
  pub says : Says system laid decisions
  pub each : length frames ≡ length decisions
  pub earlier : (k : ℕ) (frame : Frame) → slice_get frames k ≡ Some frame → IsEarlier frame laid
  pub rising : (j k : ℕ) (one other : Frame) → j ≤ k → slice_get frames j ≡ Some one →
      slice_get frames k ≡ Some other → IsEarlier one (laid_at laid other)
  pub before : (k : ℕ) (frame : Frame) → slice_get frames k ≡ Some frame →
      Says system (laid_at laid frame) (take k decisions)

-- The answer to what a decision brings: the store got it, or no assignment given satisfies it.
abbrev pub BringsIn : LaidState → (Assignment → Type 0) → LaidState → Bool → Type 0
BringsIn old equation new true = Adds old equation new
BringsIn old equation new false = (a : Assignment) → GivesAssignment old a → ¬ equation a

-- The same, where all is as before unless the store got it.
abbrev pub TriesIn : LaidState → (Assignment → Type 0) → LaidState → Bool → Type 0
TriesIn old equation new true = Adds old equation new
TriesIn old equation new false = (new ≡ old) × ((a : Assignment) → GivesAssignment old a → ¬ equation a)

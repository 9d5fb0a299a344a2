-- How a log ends other than by an undefined firing.
use Rattle.std.specs.Prelude.{ℕ, ◌≡◌, ◌≢◌, ◌<◌, ◌≤◌, Bool, true, false, Some, None, length, take}
use Rattle.rn_model.specs.declared.log.Reason.{Reason}
use Rattle.rn_model.specs.declared.log.Reason.TheVariants as End
use Rattle.rn_model.specs.Enabling.{DeadAt}
use Rattle.rn_model.specs.Runs.{IsTrueEnd, end_of}
use Rattle.rn_fire.specs.States.{State}
use Rattle.rn_fire.specs.declared.ending.NoneCommit.{NoneCommit}
use Rattle.rn_fire.specs.declared.ending.NoneCommit.TheVariants.{Dead, Ended}

-- a log that hasn't ended is below the step limit
abbrev pub MayGoOn : State → Type 0
MayGoOn s = s.ended ≡ None → length s.fired < s.setup.options.steps

-- the log has this end
abbrev pub with_end : Reason → State → State
with_end reason s = record s { ended = Some reason }

-- this end is true of the log
abbrev pub MayEndBy : State → Reason → Type 0
MayEndBy s reason = IsTrueEnd s.setup.system s.setup.options s.fired reason

-- No binding was enabled after the first so many entries, which are firings.
pub record WasDead (s : State) (seen : ℕ) : Type 0 where
  pub firings : seen ≤ length s.fired
  pub dead : DeadAt s.setup.system (end_of s.setup.system (take seen s.fired))
      s.setup.options.depth

-- The answer where nothing was enabled: a log that hasn't ended ends so, and else all stays.
abbrev pub EndsDead : State → NoneCommit → State → Type 0
EndsDead old Dead new = (old.ended ≡ None) × (new ≡ with_end End.Dead old)
EndsDead old Ended new = (old.ended ≢ None) × (new ≡ old)

-- The answer at the step limit: a log that hasn't ended and has so many firings ends so, and else
-- all stays.
abbrev pub EndsAtLimit : State → Bool → State → Type 0
EndsAtLimit old true new =
    (old.ended ≡ None) × (length old.fired ≡ old.setup.options.steps)
    × (new ≡ with_end End.Steps old)
EndsAtLimit old false new =
    ((old.ended ≡ None) → length old.fired ≢ old.setup.options.steps) × (new ≡ old)

-- How many bindings are enabled after each firing of a run.
use Rattle.std.specs.Prelude.{ℕ, suc, ◌≡◌, ◌≢◌, List, Some, None, length, take, slice_get}
use Rattle.rn_model.specs.declared.system.System.{System}
use Rattle.rn_model.specs.declared.log.Options.{Options}
use Rattle.rn_model.specs.declared.log.Reason.TheVariants.{Memory}
use Rattle.rn_model.specs.Runs.{Firing, end_of}
use Rattle.rn_least.specs.LeastRuns.{LeastLog}
use Rattle.rn_fire.specs.States.{State}
use Rattle.rn_incr.specs.Lists.{IsCount}

-- There is a number for no firing and for each, and each is how many bindings are enabled after the
-- firings up to it.
pub record AreCounts (system : System) (depth : ℕ) (fs : List Firing) (counts : List ℕ) : Type 0 where
  pub all : length counts ≡ suc (length fs)
  pub each : (i n : ℕ) → slice_get counts i ≡ Some n →
      IsCount system (end_of system (take i fs)) depth n

-- A least run of a system to its end, which isn't want of memory, with the numbers of bindings.
pub record IsCounted (system : System) (options : Options) (s : State) (numbers : List ℕ)
    : Type 0 where
  pub setup : s.setup ≡ record { system = system; options = options }
  pub log : LeastLog system options s.fired s.ended
  pub ended : s.ended ≢ None
  pub reason : s.ended ≢ Some Memory
  pub counts : AreCounts system options.depth s.fired numbers

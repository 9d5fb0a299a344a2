-- What a commit of the least binding answers, and the state after it.
use Rattle.std.specs.Prelude.{ℕ, ◌≡◌, ◌≢◌, ◌<◌, ◌≤◌, Some, None, Ok, length, take}
use Rattle.rn_model.specs.declared.binding.Binding.{Binding}
use Rattle.rn_model.specs.Runs.{end_of}
use Rattle.rn_least.specs.LeastRuns.{IsLeast}
use Rattle.rn_fire.specs.Commits.{FiresOrFaults}
use Rattle.rn_fire.specs.States.{State}
use Rattle.rn_least_state.specs.declared.committing.CommitAt.{CommitAt}
use Rattle.rn_least_state.specs.declared.committing.CommitAt.TheVariants.{Fired, Late, Faulted, Ended}
use Rattle.rn_least_state.specs.declared.committing.CommitAt.TheVariants.{NoMemory}

-- The first so many entries are firings, and the binding was the least after them.
pub record WasLeast (s : State) (b : Binding) (seen : ℕ) : Type 0 where
  pub firings : seen ≤ length s.fired
  pub least : IsLeast s.setup.system (end_of s.setup.system (take seen s.fired))
      s.setup.options.depth b

-- The answer to the least binding after so many entries. Each has a condition of its own, except want
-- of memory, and leaves what is said of it.
abbrev pub CommitsAt : State → ℕ → Binding → ℕ → CommitAt → State → Type 0
CommitsAt old worker b seen (Fired step) new =
    (old.ended ≡ None) × (length old.fired ≡ seen)
    × FiresOrFaults old worker b (Ok (Some step)) new
CommitsAt old worker b seen (Late at now) new =
    (old.ended ≡ None) × (seen < length old.fired) × (at ≡ seen) × (now ≡ length old.fired)
    × (new ≡ old)
CommitsAt old worker b seen Faulted new =
    (old.ended ≡ None) × (length old.fired ≡ seen) × FiresOrFaults old worker b (Ok None) new
CommitsAt old worker b seen Ended new = (old.ended ≢ None) × (new ≡ old)
CommitsAt old worker b seen (NoMemory _) new =
    (old.ended ≡ None) × (length old.fired ≡ seen) × (new ≡ old)

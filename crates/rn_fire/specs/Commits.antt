-- What a commit answers, and the state after it.
use Rattle.std.specs.Prelude.{ℕ, suc, ◌≡◌, ◌≢◌, ◌<◌, ◌≤◌, List, [], ◌∷◌, ◌++◌, Some, None, length, take}
use Rattle.std.specs.Prelude.{Option, Result, Ok, Err}
use Rattle.rn_items.specs.declared.memory.NoMemory.{NoMemory as Refused}
use Rattle.rn_value.specs.declared.value.Value.{Value}
use Rattle.rn_model.specs.declared.binding.Binding.{Binding}
use Rattle.rn_model.specs.declared.log.FaultKind.{FaultKind}
use Rattle.rn_model.specs.declared.log.Reason.TheVariants.{Fault}
use Rattle.rn_model.specs.Enabling.{Enabled}
use Rattle.rn_model.specs.Firing.{fire}
use Rattle.rn_model.specs.Firing as firing
use Rattle.rn_model.specs.Runs.{Firing, after_firing, end_of}
use Rattle.rn_fire.specs.States.{State, end_marking}
use Rattle.rn_fire.specs.Ends.{with_end}
use Rattle.rn_fire.specs.declared.committing.Commit.{Commit}
use Rattle.rn_fire.specs.declared.committing.Commit.TheVariants.{Fired, Conflict, Faulted, Ended}
use Rattle.rn_fire.specs.declared.committing.Commit.TheVariants.{NoMemory}

-- The first so many entries are firings, and the binding was enabled after them.
pub record WasEnabled (s : State) (b : Binding) (seen : ℕ) : Type 0 where
  pub firings : seen ≤ length s.fired
  pub enabled : Enabled s.setup.system (end_of s.setup.system (take seen s.fired)) b
      s.setup.options.depth

-- the binding is enabled at the end of the log
abbrev pub IsEnabledNow : State → Binding → Type 0
IsEnabledNow s b = Enabled s.setup.system (end_marking s) b s.setup.options.depth

-- what its firing gives there, as the log's next one
abbrev pub next_firing : State → Binding → Result firing.Fired FaultKind
next_firing s b = fire s.setup.system (end_marking s) b (suc (length s.fired))

-- The log has the firing at its end, and the table did it: so it keeps just what it kept and the
-- instances that were made.
pub record HasFired (old : State) (f : Firing) (new : State) : Type 0 where
  pub defined : (fired : firing.Fired) × (next_firing old f.binding ≡ Ok fired)
      × (f.outs ≡ fired.outs)
  pub state : new ≡ record old { fired = old.fired ++ f ∷ []; table = new.table }
  pub table : new.table.marking
      ≡ after_firing old.setup.system (suc (length old.fired)) old.table.marking f

-- The answer of a firing that is tried, and the state after it: the step, or none for a fault.
abbrev pub FiresOrFaults : State → ℕ → Binding → Result (Option ℕ) Refused → State → Type 0
FiresOrFaults old worker b (Ok (Some step)) new =
    (step ≡ suc (length old.fired))
    × ((outs : List Value)
    × HasFired old (record { worker = worker; binding = b; outs = outs }) new)
FiresOrFaults old worker b (Ok None) new =
    (cause : FaultKind) × (next_firing old b ≡ Err cause) × (new ≡ with_end (Fault cause b) old)
FiresOrFaults old worker b (Err refused) new = new ≡ old

-- The answer to a candidate. Each has a condition of its own, except want of memory, and leaves what
-- is said of it.
abbrev pub Commits : State → ℕ → Binding → ℕ → Commit → State → Type 0
Commits old worker b seen (Fired step) new =
    (old.ended ≡ None) × IsEnabledNow old b × FiresOrFaults old worker b (Ok (Some step)) new
Commits old worker b seen (Conflict at now) new =
    (old.ended ≡ None) × ¬ IsEnabledNow old b × (at ≡ seen) × (now ≡ length old.fired)
    × (seen < now) × (new ≡ old)
Commits old worker b seen Faulted new =
    (old.ended ≡ None) × IsEnabledNow old b × FiresOrFaults old worker b (Ok None) new
Commits old worker b seen Ended new = (old.ended ≢ None) × (new ≡ old)
Commits old worker b seen (NoMemory _) new = (old.ended ≡ None) × (new ≡ old)

-- What a replay answers before the search, by what the calls answer.
use Rattle.std.proofs.Common.{◌≡◌, ℕ, ◌<◌, length, sym, ap, ◌∙◌, subst}
use Rattle.std.specs.Prelude.{None, Some, Result, Ok, Err}
use Rattle.rn_model.specs.declared.log.Options.{Options}
use Rattle.rn_model.specs.declared.log.Reason.{Reason}
use Rattle.rn_model.specs.declared.log.Reason.TheVariants.{Dead}
use Rattle.rn_model.specs.declared.log.Told.{Told}
use Rattle.rn_model.specs.declared.system.System.{System}
use Rattle.rn_model.specs.Runs.{entries_of}
use Rattle.rn_fire.specs.declared.setup.Setup.{Setup}
use Rattle.rn_fire.specs.States.{State}
use Rattle.rn_replay.specs.link.Parts.{HasMarks, IsDoneWith, RedoesAll, TriesEnd}
use Rattle.rn_replay.specs.Replays.{Begins, IsUnsearched, Refuses, Replays, firing}
use Rattle.rn_replay.specs.declared.begun.BegunReplay.{BegunReplay}
use Rattle.rn_replay.specs.declared.begun.BegunReplay.TheVariants as Begin
use Rattle.rn_replay.specs.declared.ending.EndTried.TheVariants.{Unsearched}
use Rattle.rn_replay.specs.declared.fault.ReplayFault.{ReplayFault}
use Rattle.rn_replay.specs.declared.fault.ReplayFault.TheVariants as R

-- a firing that is refused
pub begins_refused : (system : System) (options : Options) (told : Told) (fault : ReplayFault) →
    RedoesAll system options told.entries (Err fault) → Refuses system options told fault
begins_refused system options told (R.NoMemory _) refused = tt
begins_refused system options told (R.V1 n) refused = firing refused.3 refused.2
begins_refused system options told (R.V2 n) refused = firing refused.3 refused.2
begins_refused system options told (R.V3 n) refused = firing refused.3 refused.2
begins_refused system options told (R.V4 n) refused = firing refused.3 refused.2
begins_refused system options told (R.V5 n) refused = firing refused.3 refused.2

-- an end that is true, and the marks
pub begins_done : (system : System) (options : Options) (told : Told) (t : State) (number : ℕ)
    (r : Result BegunReplay ReplayFault) →
    ((q : Result State ReplayFault) → HasMarks t number told q → Replays system options told q) →
    IsDoneWith t number told r → Begins system options told r
begins_done system options told t number (Ok (Begin.Done u)) marked has = marked (Ok u) has
begins_done system options told t number (Ok (Begin.Dead u)) marked has = absurd has
begins_done system options told t number (Err fault) marked has = marked (Err fault) has

-- an end as dead, below the step limit
pub unsearched : (setup : Setup) (told : Told) (s t : State) (reason : Reason) → s.setup ≡ setup →
    s.ended ≡ None → told.entries ≡ entries_of s.fired (Some reason) →
    TriesEnd s reason (Ok Unsearched) t → (t.setup ≡ setup) × IsUnsearched told t
unsearched setup told s t reason of going are tried = (
  ap (λ x. x.setup) tried.2 ∙ of,
  record {
    going = ap (λ x. x.ended) tried.2 ∙ going;
    entries = are ∙ ap (λ r. entries_of s.fired (Some r)) tried.0
        ∙ ap (λ x. entries_of x.fired (Some Dead)) (sym tried.2);
    below = subst (λ x. length x.fired < x.setup.options.steps) (sym tried.2) tried.1;
  },
)

-- Least logs with one entry more.
use Rattle.std.proofs.Common.{◌≡◌, ℕ, ◌≤◌, List, [], ◌∷◌, ◌++◌, length, take, sym, ap, ◌∙◌, subst, arith}
use Rattle.std.specs.Prelude.{Option, Some, None, Ok}
use Rattle.std.proofs.lemmas.List.{take_all}
use Rattle.rn_model.specs.declared.binding.Binding.{Binding}
use Rattle.rn_model.specs.declared.log.FaultKind.{FaultKind}
use Rattle.rn_model.specs.declared.log.Options.{Options}
use Rattle.rn_model.specs.declared.log.Reason.{Reason}
use Rattle.rn_model.specs.declared.log.Reason.TheVariants.{Fault}
use Rattle.rn_model.specs.declared.system.System.{System}
use Rattle.rn_model.specs.Runs.{Firing, Log, end_of}
use Rattle.rn_model.proofs.RunLemmas.{runs_grow}
use Rattle.rn_least.specs.LeastRuns.{IsLeast, LeastLog}
use Rattle.rn_least.proofs.LeastRuns.{least_runs_grow}
use Rattle.rn_fire.specs.Commits.{Commits, FiresOrFaults, WasEnabled}
use Rattle.rn_fire.specs.declared.committing.Commit.{Commit}
use Rattle.rn_fire.specs.declared.committing.Commit.TheVariants as Was
use Rattle.rn_fire.specs.Ends.{with_end}
use Rattle.rn_fire.specs.States.{State, IsState, end_marking, logged}
use Rattle.rn_fire.proofs.EntryLemmas.{count_going}
use Rattle.rn_model.specs.Runs.{entries_of}
use Rattle.rn_least_state.specs.CommitsAt.{CommitsAt, WasLeast}
use Rattle.rn_least_state.specs.link.CommitsAt.{answer_at}
use Rattle.rn_least_state.specs.LeastStates.{HasLeastLog}

no_end : {A : Type 0} (a : A) → None ≡ Some a → ⊥
no_end a e = let no : ⊥ = cc in no

-- the log of no entries
pub starts_least : (system : System) (options : Options) → LeastLog system options [] None
starts_least system options = record {
  log = record { run = tt; steps = omega arith; ends = tt };
  run = record { run = tt; least = tt };
  fault = λ cause b e. absurd (no_end (Fault cause b) e);
}

-- with the firing of the least binding
pub least_more : (system : System) (options : Options) (fs : List Firing) (f : Firing) →
    LeastLog system options fs None → Log system options (fs ++ f ∷ []) None →
    IsLeast system (end_of system fs) options.depth f.binding →
    LeastLog system options (fs ++ f ∷ []) None
least_more system options fs f old log least = record {
  log = log;
  run = (least_runs_grow system options.depth fs f).1
      (old.run, ((runs_grow system options.depth fs f).0 log.run).1, least);
  fault = λ cause b e. absurd (no_end (Fault cause b) e);
}

-- with an end that is true, and where it is a fault is that of the least binding
pub least_ended : (system : System) (options : Options) (fs : List Firing) (ended : Option Reason)
    (reason : Reason) → LeastLog system options fs ended → Log system options fs (Some reason) →
    ((cause : FaultKind) (b : Binding) → reason ≡ Fault cause b →
    IsLeast system (end_of system fs) options.depth b) →
    LeastLog system options fs (Some reason)
least_ended system options fs ended reason old log faults = record {
  log = log;
  run = old.run;
  fault = λ cause b e. let same : reason ≡ Fault cause b = cc in faults cause b same;
}

-- The same of states.
module _ (old new : State) (least : HasLeastLog old) (is : IsState new) where
  pub fired_least : (worker step : ℕ) (b : Binding) → old.ended ≡ None →
      IsLeast old.setup.system (end_marking old) old.setup.options.depth b →
      FiresOrFaults old worker b (Ok (Some step)) new → HasLeastLog new
  fired_least worker step b going first (at, (outs, fires)) =
      let f : Firing = record { worker = worker; binding = b; outs = outs } in
      let setup : new.setup ≡ old.setup = ap (λ s. s.setup) fires.state in
      let fired : new.fired ≡ old.fired ++ f ∷ [] = ap (λ s. s.fired) fires.state in
      let ended : new.ended ≡ None = ap (λ s. s.ended) fires.state ∙ going in
      let was = subst (λ e. LeastLog old.setup.system old.setup.options old.fired e) going least in
      let log =
      subst (λ x. Log x.system x.options (old.fired ++ f ∷ []) None) setup
      (subst (λ fs. Log new.setup.system new.setup.options fs None) fired
      (subst (λ e. Log new.setup.system new.setup.options new.fired e) ended is.log)) in
      let here = least_more old.setup.system old.setup.options old.fired f was log first in
      subst (λ x. LeastLog x.system x.options new.fired new.ended) (sym setup)
      (subst (λ fs. LeastLog old.setup.system old.setup.options fs new.ended) (sym fired)
      (subst (λ e. LeastLog old.setup.system old.setup.options (old.fired ++ f ∷ []) e) (sym ended)
      here))

  pub ended_least : (reason : Reason) → new ≡ with_end reason old →
      ((cause : FaultKind) (b : Binding) → reason ≡ Fault cause b →
      IsLeast old.setup.system (end_marking old) old.setup.options.depth b) → HasLeastLog new
  ended_least reason same faults =
      let true_log = subst (λ s. Log s.setup.system s.setup.options s.fired s.ended) same is.log in
      subst HasLeastLog (sym same)
      (least_ended old.setup.system old.setup.options old.fired old.ended reason least true_log faults)

  pub faulted_least : (worker : ℕ) (b : Binding) →
      IsLeast old.setup.system (end_marking old) old.setup.options.depth b →
      FiresOrFaults old worker b (Ok None) new → HasLeastLog new
  faulted_least worker b first (cause, undefined, same) =
      ended_least (Fault cause b) same
      (λ other c e. let one : b ≡ c = cc in
      subst (λ x. IsLeast old.setup.system (end_marking old) old.setup.options.depth x) one first)

-- What was the least after so many entries is so at the end of a log that is just so long.
module _ (s : State) (b : Binding) (seen : ℕ) (was : WasLeast s b seen) where
  pub was_enabled : WasEnabled s b seen
  was_enabled = record { firings = was.firings; enabled = was.least.enabled }

  pub least_now : length s.fired ≡ seen →
      IsLeast s.setup.system (end_marking s) s.setup.options.depth b
  least_now count =
      let all : take seen s.fired ≡ s.fired =
      take_all seen s.fired (omega (arith, count)) in
      subst (λ fs. IsLeast s.setup.system (end_of s.setup.system fs) s.setup.options.depth b) all
      was.least

-- a log that hasn't ended and isn't longer is just so long
pub just_seen : (s : State) (seen now : ℕ) → s.ended ≡ None → seen ≤ length s.fired →
    now ≡ length (logged s) → now ≤ seen → length s.fired ≡ seen
just_seen s seen now going firings is no_more =
    let count = is ∙ ap (λ e. length (entries_of s.fired e)) going ∙ count_going s.fired in
    omega (arith, count, firings, no_more)

-- The state after a commit of what was the least after so many entries, where there are no others.
module _ (old new : State) (worker : ℕ) (b : Binding) (seen : ℕ) (count : length old.fired ≡ seen)
    (was : WasLeast old b seen) where
  pub committed_least : HasLeastLog old → IsState new → (answer : Commit) →
      Commits old worker b seen answer new → HasLeastLog new
  committed_least least is (Was.Fired step) (going, now, fires) =
      fired_least old new least is worker step b going (least_now old b seen was count) fires
  committed_least least is (Was.Conflict at now) commits = subst HasLeastLog (sym commits.5) least
  committed_least least is Was.Faulted (going, now, fires) =
      faulted_least old new least is worker b (least_now old b seen was count) fires
  committed_least least is Was.Ended commits = subst HasLeastLog (sym commits.1) least
  committed_least least is (Was.NoMemory _) commits = subst HasLeastLog (sym commits.1) least

  -- and the answer
  pub committed_at : (answer : Commit) → Commits old worker b seen answer new →
      CommitsAt old worker b seen (answer_at answer) new
  committed_at (Was.Fired step) (going, now, fires) = (going, count, fires)
  committed_at (Was.Conflict at now) commits =
      let more = commits.4 in
      let is = commits.3 in
      absurd (let no : ⊥ = omega (arith, count, more, is) in no)
  committed_at Was.Faulted (going, now, fires) = (going, count, fires)
  committed_at Was.Ended commits = commits
  committed_at (Was.NoMemory _) commits = (commits.0, count, commits.1)

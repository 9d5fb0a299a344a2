-- Prefixes of runs, and what follows their ends.
use Rattle.std.proofs.Common.{◌≡◌, ℕ, suc, ◌+◌, ◌≤◌, List, [], ◌∷◌, ◌++◌, length, length-append, sym, ◌∙◌, subst, ap, arith}
use Rattle.rn_model.specs.declared.system.System.{System}
use Rattle.rn_model.specs.Markings.{Marking, initial_marking}
use Rattle.rn_model.specs.Runs.{Firing, Fires, RunFrom, after_firing, end_from, end_of}
use Rattle.rn_model.specs.Laws.{PrefixesAreRuns, PrefixesAreLogs, RunsGrow, EndsFollow, DeadRunsStop, LogsEndOnce}

prefix_from : (system : System) (depth step : ℕ) (m : Marking) (fs gs : List Firing) → RunFrom system depth step m (fs ++ gs) → RunFrom system depth step m fs
prefix_from system depth step m [] gs run = tt
prefix_from system depth step m (f ∷ fs) gs (fires, rest) = (fires, prefix_from system depth (suc step) (after_firing system step m f) fs gs rest)

-- a prefix of a run is a run
pub prefixes_are_runs : PrefixesAreRuns
prefixes_are_runs system depth fs gs run = prefix_from system depth 1 (initial_marking system) fs gs run

-- and a prefix of a log is a log that hasn't ended
pub prefixes_are_logs : PrefixesAreLogs
prefixes_are_logs system options fs gs ended log =
    let both : length (fs ++ gs) ≡ length fs + length gs = length-append fs gs in
    let few : length fs ≤ options.steps = omega (arith, both, log.steps) in
    record { run = prefixes_are_runs system options.depth fs gs log.run; steps = few; ends = tt }

-- the firings after a prefix are a run from its end
pub rest_from : (system : System) (depth step : ℕ) (m : Marking) (fs gs : List Firing) → RunFrom system depth step m (fs ++ gs) → RunFrom system depth (step + length fs) (end_from system step m fs) gs
rest_from system depth step m [] gs run =
    let here : step ≡ step + length {A = Firing} [] = omega arith in
    subst (λ k. RunFrom system depth k m gs) here run
rest_from system depth step m (f ∷ fs) gs (fires, rest) =
    let same : suc step + length fs ≡ step + length (f ∷ fs) = omega arith in
    subst (λ k. RunFrom system depth k (end_from system step m (f ∷ fs)) gs) same (rest_from system depth (suc step) (after_firing system step m f) fs gs rest)

-- and so joined they are a run
joined_from : (system : System) (depth step : ℕ) (m : Marking) (fs gs : List Firing) → RunFrom system depth step m fs → RunFrom system depth (step + length fs) (end_from system step m fs) gs → RunFrom system depth step m (fs ++ gs)
joined_from system depth step m [] gs run rest =
    let here : step + length {A = Firing} [] ≡ step = omega arith in
    subst (λ k. RunFrom system depth k m gs) here rest
joined_from system depth step m (f ∷ fs) gs (fires, run) rest =
    let same : step + length (f ∷ fs) ≡ suc step + length fs = omega arith in
    (fires, joined_from system depth (suc step) (after_firing system step m f) fs gs run (subst (λ k. RunFrom system depth k (end_from system step m (f ∷ fs)) gs) same rest))

-- firings with one more are a run just where they are one and the last one fires at their end
pub runs_grow : RunsGrow
runs_grow system depth fs f =
    let m = initial_marking system in
    let place : 1 + length fs ≡ suc (length fs) = omega arith in (
      λ run. (prefixes_are_runs system depth fs (f ∷ []) run, subst (λ k. Fires system depth k (end_of system fs) f) place (rest_from system depth 1 m fs (f ∷ []) run).0),
      λ both. joined_from system depth 1 m fs (f ∷ []) both.0 (subst (λ k. Fires system depth k (end_of system fs) f) (sym place) both.1, tt),
    )

end_after : (system : System) (step : ℕ) (m : Marking) (fs : List Firing) (f : Firing) → end_from system step m (fs ++ f ∷ []) ≡ after_firing system (step + length fs) (end_from system step m fs) f
end_after system step m [] f =
    let here : step ≡ step + length {A = Firing} [] = omega arith in
    ap (λ k. after_firing system k m f) here
end_after system step m (g ∷ fs) f =
    let same : suc step + length fs ≡ step + length (g ∷ fs) = omega arith in
    subst (λ k. end_from system step m (g ∷ fs ++ f ∷ []) ≡ after_firing system k (end_from system step m (g ∷ fs)) f) same (end_after system (suc step) (after_firing system step m g) fs f)

-- their end is the end of the others after the last one
pub ends_follow : EndsFollow
ends_follow system fs f =
    let place : 1 + length fs ≡ suc (length fs) = omega arith in
    end_after system 1 (initial_marking system) fs f ∙ ap (λ k. after_firing system k (end_of system fs) f) place

-- where no binding is enabled at the end of firings, no run goes on from there
pub dead_runs_stop : DeadRunsStop
dead_runs_stop system depth fs gs f dead run = dead f.binding (rest_from system depth 1 (initial_marking system) fs (f ∷ gs) run).0.enabled

pub logs_end_once : LogsEndOnce
logs_end_once system options fs = record {
  dead_steps = λ dead steps. let no : ⊥ = omega (arith, dead.1, steps) in no;
  dead_fault = λ cause b dead fault. dead.0 b fault.0;
  steps_fault = λ cause b steps fault. let no : ⊥ = omega (arith, steps, fault.2) in no;
}

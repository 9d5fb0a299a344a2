-- The tokens of runs are sound, and what isn't live stays so over runs.
use Rattle.std.proofs.Common.{◌≡◌, ℕ, suc, ◌+◌, List, [], ◌∷◌, ◌++◌, length, ap, ◌∙◌, subst, arith}
use Rattle.std.specs.Prelude.{Ok}
use Rattle.rn_model.specs.declared.system.System.{System}
use Rattle.rn_model.specs.declared.binding.Binding.{Binding}
use Rattle.rn_model.specs.Good.{Good}
use Rattle.rn_model.specs.Markings.{Marking, IsMarking, IsThere, initial_marking}
use Rattle.rn_model.specs.Liveness.{IsLive}
use Rattle.rn_model.specs.SoundTokens.{HasSoundTokens}
use Rattle.rn_model.specs.Firing.{Fired, fire, creations_of, named, instance_after}
use Rattle.rn_model.specs.Runs.{Firing, RunFrom, after_firing, end_from, end_of}
use Rattle.rn_model.specs.LivenessLaws.{RunsEndSound, DeadStayDeadInRuns}
use Rattle.rn_model.proofs.InitialTokens.{initial_tokens_are_sound}
use Rattle.rn_model.proofs.MarkingsOfRuns.{firings_keep_markings, initial_is_marking}
use Rattle.rn_model.proofs.RunLemmas.{prefixes_are_runs, rest_from}
use Rattle.rn_model.proofs.MarkingsOfRuns.{runs_end_in_markings}
use Rattle.rn_model.proofs.DeadInstances.{dead_stay_dead, fired_as}
use Rattle.rn_model.proofs.AfterFiring.{was_there}
use Rattle.rn_model.proofs.SoundAfter.{firings_keep_tokens_sound}

keep_from : (system : System) (depth step : ℕ) (m : Marking) (fs : List Firing) → Good system → IsMarking system m → HasSoundTokens system m → RunFrom system depth step m fs → HasSoundTokens system (end_from system step m fs)
keep_from system depth step m [] good is sound run = sound
keep_from system depth step m (f ∷ fs) good is sound (fires, run) =
    let next = after_firing system step m f in
    let given : Fired = record { marking = next; outs = f.outs } in
    keep_from system depth (suc step) next fs good (firings_keep_markings system m f.binding depth step given good is fires.enabled fires.fired)
    (firings_keep_tokens_sound system m f.binding depth step given good is sound fires.enabled fires.fired) run

-- the tokens at the end of each run of a good system are sound
pub runs_end_sound : RunsEndSound
runs_end_sound system depth fs good run = keep_from system depth 1 (initial_marking system) fs good (initial_is_marking system good) (initial_tokens_are_sound system good) run

-- An instance that isn't live isn't live at any later end.
dead_from : (system : System) (depth step : ℕ) (m : Marking) (fs : List Firing) → Good system → IsMarking system m → HasSoundTokens system m → RunFrom system depth step m fs → (n : ℕ) → IsThere m n → ¬ IsLive system m n → ¬ IsLive system (end_from system step m fs) n
dead_from system depth step m [] good is sound run n there dead = dead
dead_from system depth step m (f ∷ fs) good is sound (fires, run) n there dead =
    let next = after_firing system step m f in
    let given : Fired = record { marking = next; outs = f.outs } in
    dead_from system depth (suc step) next fs good (firings_keep_markings system m f.binding depth step given good is fires.enabled fires.fired)
    (firings_keep_tokens_sound system m f.binding depth step given good is sound fires.enabled fires.fired) run n
    (stays_there system m f.binding step given fires.fired n there) (dead_stay_dead system m f.binding depth step given good is sound fires.enabled fires.fired n there dead)
  where
    stays_there : (system : System) (m : Marking) (b : Binding) (step : ℕ) (f : Fired) → fire system m b step ≡ Ok f → (n : ℕ) → IsThere m n → IsThere f.marking n
    stays_there system m b step f fires n (i, e) =
        let as_fired = fired_as system m b step f fires in
        subst (λ x. IsThere x n) as_fired.marking (instance_after system (named system b m.next) as_fired.acts i, was_there system m (creations_of system b) (named system b m.next) as_fired.acts n i e)

-- the end of joined firings is the end of the others from that of the first
pub end_joined : (system : System) (step : ℕ) (m : Marking) (fs gs : List Firing) → end_from system step m (fs ++ gs) ≡ end_from system (step + length fs) (end_from system step m fs) gs
end_joined system step m [] gs = let here : step ≡ step + length {A = Firing} [] = omega arith in ap (λ k. end_from system k m gs) here
end_joined system step m (f ∷ fs) gs =
    let same : suc step + length fs ≡ step + length (f ∷ fs) = omega arith in
    end_joined system (suc step) (after_firing system step m f) fs gs ∙ ap (λ k. end_from system k (end_from system step m (f ∷ fs)) gs) same

-- an instance that is there and isn't live at an end of a run isn't live at any later one
pub dead_stay_dead_in_runs : DeadStayDeadInRuns
dead_stay_dead_in_runs system depth fs gs good run n there dead live =
    let prefix = prefixes_are_runs system depth fs gs run in
    dead_from system depth (1 + length fs) (end_of system fs) gs good (runs_end_in_markings system depth fs good prefix) (runs_end_sound system depth fs good prefix) (rest_from system depth 1 (initial_marking system) fs gs run) n there dead
    (subst (λ x. IsLive system x n) (end_joined system 1 (initial_marking system) fs gs) live)

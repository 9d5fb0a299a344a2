-- What is to be dropped is listed where that is due. A turn drops what was listed, and then it commits.
use Rattle.std.proofs.Common.{◌≡◌, ℕ, ◌≤◌, List, [], ◌∷◌, ◌++◌, length, take, inl, inr, refl, sym, ap, ◌∙◌, subst}
use Rattle.std.specs.Prelude.{Bool, true, false, MatchBool, Option, Some, None, Result, Ok, Err, IfOk}
use Rattle.rn_choices.specs.declared.flag.Halt.{Halt}
use Rattle.rn_model.specs.declared.binding.Binding.{Binding}
use Rattle.rn_model.specs.Enabling.{DeadAt, Enabled}
use Rattle.rn_model.specs.Runs.{Firing, end_of}
use Rattle.rn_binding.specs.Soundness.{IsSound}
use Rattle.rn_fire.specs.declared.setup.Setup.{Setup}
use Rattle.rn_fire.specs.States.{State}
use Rattle.rn_worker.specs.declared.considering.Plan.{Plan}
use Rattle.rn_worker.specs.declared.pacing.Pace.{Pace}
use Rattle.rn_worker.specs.Pacing.{IsDue}
use Rattle.rn_worker.specs.link.Plans.{AddsOwn, FitsIn, HasNoneLive, WasFound}
use Rattle.rn_worker.specs.link.Seen.{KeepsLog}

-- where it is due, the test says so
pub due_holds : (every next number : ℕ) (pace : Pace) (due : Bool) → number ≡ next →
    MatchBool due (IsDue every number pace) (¬ IsDue every number pace) → IsDue every next pace →
    due ≡ true
due_holds every next number pace true same exact is = refl
due_holds every next number pace false same exact is =
    absurd (exact (subst (λ k. IsDue every k pace) (sym same) is))

-- what a plan lists isn't live
pub none_listed : (plan : Result Plan Halt) (s : State) (seen : ℕ) → IfOk plan (FitsIn s seen) →
    IfOk plan (λ p. HasNoneLive s p.dead.items)
none_listed (Ok p) s seen fits = fits.1
none_listed (Err halt) s seen fits = tt

-- what was found stays so, where the log stays
found_then : (found : Option Binding) (old new : State) (seen : ℕ) → KeepsLog old new →
    WasFound old seen found → WasFound new seen found
found_then (Some b) old new seen keeps was = (
  subst (λ (x : Setup). IsSound x.system x.options.depth b) (sym keeps.0) was.0,
  record {
    firings = subst (λ (fs : List Firing). seen ≤ length fs) (sym keeps.1) was.1.firings;
    enabled =
        subst (λ (x : Setup). Enabled x.system (end_of x.system (take seen new.fired)) b x.options.depth)
        (sym keeps.0)
        (subst (λ (fs : List Firing).
        Enabled old.setup.system (end_of old.setup.system (take seen fs)) b old.setup.options.depth)
        (sym keeps.1) was.1.enabled);
  },
)
found_then None old new seen keeps was = record {
  firings = subst (λ (fs : List Firing). seen ≤ length fs) (sym keeps.1) was.firings;
  dead =
      subst (λ (x : Setup). DeadAt x.system (end_of x.system (take seen new.fired)) x.options.depth)
      (sym keeps.0)
      (subst (λ (fs : List Firing).
      DeadAt old.setup.system (end_of old.setup.system (take seen fs)) old.setup.options.depth)
      (sym keeps.1) was.dead);
}

-- what a plan found may be committed after what it lists was dropped
pub found_still : (plan : Result Plan Halt) (old new : State) (seen : ℕ) → KeepsLog old new →
    IfOk plan (FitsIn old seen) → IfOk plan (λ p. WasFound new seen p.found)
found_still (Ok p) old new seen keeps fits = found_then p.found old new seen keeps fits.0
found_still (Err halt) old new seen keeps fits = tt

-- what is added after that is added to the log before
pub added_still : (worker : ℕ) (fired : Bool) (old swept new : State) → KeepsLog old swept →
    AddsOwn worker fired swept new → AddsOwn worker fired old new
added_still worker true old swept new keeps (setup, ended, going, (f, own, fired)) = (
  setup ∙ keeps.0,
  ended ∙ keeps.2,
  sym keeps.2 ∙ going,
  (f, own, fired ∙ ap (λ fs. fs ++ f ∷ []) keeps.1),
)
added_still worker false old swept new keeps (setup, fired, inl ended) =
    (setup ∙ keeps.0, fired ∙ keeps.1, inl (ended ∙ keeps.2))
added_still worker false old swept new keeps (setup, fired, inr (going, some)) =
    (setup ∙ keeps.0, fired ∙ keeps.1, inr (sym keeps.2 ∙ going, some))

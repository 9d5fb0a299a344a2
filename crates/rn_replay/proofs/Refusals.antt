-- Why a firing is refused, by what the calls answer.
use Rattle.std.proofs.Common.{◌≡◌, ℕ, suc, ◌<◌, ◌≤◌, [], ◌∷◌, ◌++◌, length, sym, ap, ◌∙◌, subst, arith}
use Rattle.std.specs.Prelude.{◌↔◌, Bool, true, Some, None, Result, Ok, Err, IsTrue, take}
use Rattle.std.proofs.Math.Seq.{take-length}
use Rattle.rn_model.specs.declared.system.System.{System}
use Rattle.rn_model.specs.declared.binding.Binding.{Binding}
use Rattle.rn_model.specs.Enabling.{Enabled, Fits}
use Rattle.rn_model.specs.Runs.{Firing, Log, end_of, entries_of}
use Rattle.rn_table.specs.Tables.{Kept}
use Rattle.rn_binding.specs.Soundness.{Certifies}
use Rattle.rn_binding.specs.declared.candidate.NotSound.{NotSound}
use Rattle.rn_binding.specs.declared.candidate.NotSound.TheVariants as Lacks
use Rattle.rn_fire.specs.Commits.{IsEnabledNow, WasEnabled}
use Rattle.rn_fire.specs.States.{State, IsState, logged}
use Rattle.rn_fire.proofs.OutcomeLemmas.{fits_decides}
use Rattle.rn_replay.specs.link.Parts.{Candidates, Certified, FiresNow, Redoes}
use Rattle.rn_replay.specs.link.Parts.{fault_of, last_of, outs_of, unfit_of}
use Rattle.rn_replay.specs.Replays.{FiringRefused, FiresAsSaid}
use Rattle.rn_replay.specs.declared.fault.ReplayFault.{ReplayFault}
use Rattle.rn_replay.specs.declared.fault.ReplayFault.TheVariants as R
use Rattle.rn_replay.specs.declared.firing.Unfit.{Unfit}
use Rattle.rn_replay.specs.declared.firing.Unfit.TheVariants.{Unsound, Unmet, NoMemory}
use Rattle.rn_replay.proofs.LastEntries.{last_outs}

-- what isn't certified isn't sound
pub not_certified : (system : System) (depth : ℕ) (b : Binding) (lack : NotSound) →
    Certifies system depth b (Err lack) → Certified system depth b (Err (unfit_of lack))
not_certified system depth b Lacks.B1 lacks = λ sound. lacks sound.shape
not_certified system depth b Lacks.B2 lacks = λ sound. lacks.1 sound.agrees
not_certified system depth b Lacks.B3 lacks = λ sound. lacks.2 sound.derived
not_certified system depth b (Lacks.NoMemory _) lacks = tt

-- of a state
module _ (s : State) (b : Binding) where
  abbrev Here : Result Binding Unfit → Type 0
  Here r = Certified s.setup.system s.setup.options.depth b r

  -- what is certified at its system and depth
  pub certified_here : (system : System) (depth : ℕ) (copied : Binding) (r : Result Binding Unfit) →
      system ≡ s.setup.system → depth ≡ s.setup.options.depth → copied ≡ b →
      Certified system depth copied r → Here r
  certified_here system depth copied r is deep same cert =
      subst (λ x. Certified x s.setup.options.depth b r) is
      (subst (λ d. Certified system d b r) deep (subst (λ c. Certified system depth c r) same cert))

  -- the table decides
  pub table_decides : IsState s → (c : Binding) → Here (Ok c) →
      Fits s.setup.system s.table.marking c ↔ IsEnabledNow s b
  table_decides is c cert =
      subst (λ x. Fits s.setup.system s.table.marking x ↔ IsEnabledNow s b) (sym cert.0)
      (fits_decides s b is cert.1)

  -- what is asked of its table
  pub asked_here : (system : System) (table : Kept) (c x : Binding) (met : Bool) →
      system ≡ s.setup.system → table ≡ s.table → x ≡ c →
      IsTrue met ↔ Fits system table.marking x → IsTrue met ↔ Fits s.setup.system s.table.marking c
  asked_here system table c x met is at same exact =
      subst (λ y. IsTrue met ↔ Fits y s.table.marking c) is
      (subst (λ t. IsTrue met ↔ Fits system t.marking c) at
      (subst (λ y. IsTrue met ↔ Fits system table.marking y) same exact))

  pub not_met : IsState s → (c : Binding) → Here (Ok c) →
      ¬ Fits s.setup.system s.table.marking c → Candidates s b (Err Unmet)
  not_met is c cert unmet = (
    cert.1,
    λ fits. unmet ((table_decides is c cert).1 (record {
      shape = cert.1.shape;
      agrees = cert.1.agrees;
      derived = cert.1.derived;
      fits = fits;
    })),
  )

  -- what is enabled at the end of a log that hasn't ended
  pub was_enabled : (seen : ℕ) → seen ≡ length s.fired → IsEnabledNow s b → WasEnabled s b seen
  was_enabled seen all enabled = record {
    firings = omega (arith, all);
    enabled =
        subst (λ fs. Enabled s.setup.system (end_of s.setup.system fs) b s.setup.options.depth)
        (sym (ap (λ k. take k s.fired) all ∙ take-length s.fired)) enabled;
  }

-- a log that hasn't ended is one without its end
pub log_going : (s : State) → IsState s → s.ended ≡ None →
    Log s.setup.system s.setup.options s.fired None
log_going s is going = subst (Log s.setup.system s.setup.options s.fired) going is.log

-- The next firing of a state, which has this number.
module _ (s : State) (is : IsState s) (going : s.ended ≡ None) (number : ℕ)
    (counts : number ≡ suc (length s.fired)) (f : Firing) where
  abbrev Refuses : ReplayFault → Type 0
  Refuses fault =
      FiringRefused s.setup.system s.setup.options s.fired f fault
      × Log s.setup.system s.setup.options s.fired None

  refused_unfit : length s.fired < s.setup.options.steps → (unfit : Unfit) →
      Candidates s f.binding (Err unfit) → Refuses (fault_of unfit number)
  refused_unfit below Unsound lacks = ((counts, below, lacks), log_going s is going)
  refused_unfit below Unmet lacks =
      ((counts, below, lacks.0, lacks.1), log_going s is going)
  refused_unfit below (NoMemory _) lacks = (tt, log_going s is going)

  pub refused_by : number ≤ s.setup.options.steps → (unfit : Unfit) →
      Candidates s f.binding (Err unfit) → Refuses (fault_of unfit number)
  refused_by within unfit lacks = refused_unfit (omega (arith, counts, within)) unfit lacks

  module _ (within : number ≤ s.setup.options.steps) (c : Binding)
      (cert : Candidates s f.binding (Ok c)) (t : State) where
    below : length s.fired < s.setup.options.steps
    below = omega (arith, counts, within)

    -- what it printed, at the end of the log
    printed : (fired : FiresNow s f.worker c (Ok true) t) →
        outs_of (last_of (logged t)) ≡ Some fired.0
    printed fired =
        let g : Firing = record { worker = f.worker; binding = c; outs = fired.0 } in
        ap (λ x. outs_of (last_of (logged x))) fired.1.state
        ∙ ap (λ e. outs_of (last_of (entries_of (s.fired ++ g ∷ []) e))) going
        ∙ last_outs s.fired g

    pub refused_prints : FiresNow s f.worker c (Ok true) t →
        ¬ (outs_of (last_of (logged t)) ≡ Some f.outs) → Refuses (R.V3 number)
    refused_prints fired other = (
      (
        counts,
        below,
        cert.1,
        λ gives.
            let at = subst (λ x. FiresAsSaid s.setup.system s.fired
            (record { worker = f.worker; binding = x; outs = fired.0 })) cert.0 fired.1.defined in
            let one = at.1 in
            let two = gives.1 in
            let same : at.0 ≡ gives.0 = cc in
            other (printed fired ∙ ap Some (at.2 ∙ ap (λ x. x.outs) same ∙ sym gives.2)),
      ),
      log_going s is going,
    )

    pub redone : FiresNow s f.worker c (Ok true) t →
        outs_of (last_of (logged t)) ≡ Some f.outs → (u : Unit {0}) → Redoes s f (Ok u) t
    redone fired same u =
        let outs : fired.0 ≡ f.outs = let e = sym (printed fired) ∙ same in cc in (
          ap (λ x. x.setup) fired.1.state,
          ap (λ x. x.ended) fired.1.state ∙ going,
          ap (λ x. x.fired) fired.1.state
              ∙ ap (λ b. let g : Firing = record { worker = f.worker; binding = b; outs = fired.0 } in s.fired ++ g ∷ []) cert.0
              ∙ ap (λ o. let g : Firing = record { worker = f.worker; binding = f.binding; outs = o } in s.fired ++ g ∷ []) outs,
        )

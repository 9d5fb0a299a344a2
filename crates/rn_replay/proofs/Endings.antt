-- Which ends are true, by what the calls answer.
use Rattle.std.proofs.Common.{◌≡◌, ℕ, suc, ◌<◌, [], length, sym, ap, ◌∙◌, subst, arith}
use Rattle.std.specs.Prelude.{◌↔◌, true, false, Some, None, Result, Ok, Err, take}
use Rattle.std.proofs.Math.Seq.{take-length}
use Rattle.rn_model.specs.declared.binding.Binding.{Binding}
use Rattle.rn_model.specs.declared.log.FaultKind.{FaultKind}
use Rattle.rn_model.specs.declared.log.Reason.{Reason}
use Rattle.rn_model.specs.declared.log.Reason.TheVariants.{Dead, Fault}
use Rattle.rn_model.specs.declared.log.Entry.TheVariants.{End}
use Rattle.rn_model.specs.declared.log.Told.{Told}
use Rattle.rn_model.specs.Enabling.{DeadAt}
use Rattle.rn_model.specs.Firing.{Fired}
use Rattle.rn_model.specs.Liveness.{LivePart}
use Rattle.rn_model.specs.Runs.{IsTrueEnd, Log, end_of, entries_of}
use Rattle.rn_model.proofs.SoundRuns.{runs_end_sound}
use Rattle.rn_model.proofs.StandingTables.{tables_enable_the_same}
use Rattle.rn_fire.specs.Commits.{next_firing}
use Rattle.rn_fire.specs.Ends.{EndsDead, WasDead, with_end}
use Rattle.rn_fire.specs.declared.ending.NoneCommit.{NoneCommit}
use Rattle.rn_fire.specs.declared.ending.NoneCommit.TheVariants as Nothing
use Rattle.rn_fire.specs.States.{State, IsState, end_marking, logged}
use Rattle.rn_fire.specs.declared.setup.Setup.{Setup}
use Rattle.rn_fire.proofs.EntryLemmas.{ended_more}
use Rattle.rn_replay.specs.link.Parts.{Candidates, FiresNow, HasMarks}
use Rattle.rn_replay.specs.link.Parts.{cause_of, last_of}
use Rattle.rn_replay.specs.Replays.{Reaches, Refused, Replays, ending}
use Rattle.rn_replay.specs.declared.ending.EndTried.TheVariants.{Ended}
use Rattle.rn_replay.specs.declared.fault.ReplayFault.{ReplayFault}
use Rattle.rn_replay.specs.declared.fault.ReplayFault.TheVariants as R
use Rattle.rn_replay.specs.declared.firing.Unfit.TheVariants.{NoMemory}
use Rattle.rn_replay.proofs.LastEntries.{last_cause}
use Rattle.rn_replay.proofs.Refusals.{log_going}

-- An end of a state, by a fault of this binding.
module _ (s : State) (cause : FaultKind) (b : Binding) where
  abbrev IsTrue : Type 0
  IsTrue = IsTrueEnd s.setup.system s.setup.options s.fired (Fault cause b)

  module _ (c : Binding) (cert : Candidates s b (Ok c)) (worker : ℕ) (t : State) where
    -- one that fires
    pub tries_firing : FiresNow s worker c (Ok true) t → ¬ IsTrue
    tries_firing fired = λ ends.
        let at = subst (λ x. (f : Fired) × (next_firing s x ≡ Ok f)) cert.0
        (fired.1.defined.0, fired.1.defined.1) in
        let one = at.1 in let other = ends.1 in absurd (let never : ⊥ = cc in never)

    faults : FiresNow s worker c (Ok false) t →
        (found : FaultKind) × (next_firing s b ≡ Err found) × (t ≡ with_end (Fault found b) s)
    faults fired = subst (λ x. FiresNow s worker x (Ok false) t) cert.0 fired

    cause_is : (found : FaultKind) → t ≡ with_end (Fault found b) s →
        cause_of (last_of (logged t)) ≡ Some found
    cause_is found ended =
        ap (λ x. cause_of (last_of (logged x))) ended ∙ last_cause s.fired (Fault found b)

    -- one whose firing is undefined, by another cause or by this one
    pub tries_other : FiresNow s worker c (Ok false) t →
        ¬ (cause_of (last_of (logged t)) ≡ Some cause) → ¬ IsTrue
    tries_other fired other = λ ends.
        let why = faults fired in
        let one = why.1 in let two = ends.1 in
        let same : why.0 ≡ cause = cc in
        other (cause_is why.0 why.2 ∙ ap Some same)

    pub tries_fault : FiresNow s worker c (Ok false) t →
        cause_of (last_of (logged t)) ≡ Some cause → length s.fired < s.setup.options.steps →
        IsTrue × (t ≡ with_end (Fault cause b) s)
    tries_fault fired is below =
        let why = faults fired in
        let known = sym (cause_is why.0 why.2) ∙ is in
        let same : why.0 ≡ cause = cc in (
          (cert.1, why.1 ∙ ap (λ k. let r : Result Fired FaultKind = Err k in r) same, below),
          why.2 ∙ ap (λ k. with_end (Fault k b) s) same,
        )

-- a table that stands for the end of a log is dead where the end is
pub dead_at_table : (s : State) → IsState s →
    DeadAt s.setup.system s.table.marking s.setup.options.depth
    ↔ DeadAt s.setup.system (end_marking s) s.setup.options.depth
dead_at_table s is =
    let depth = s.setup.options.depth in
    let tokens = runs_end_sound s.setup.system depth s.fired is.good is.log.run in
    let same = λ (b : Binding). tables_enable_the_same s.setup.system s.table.marking (end_marking s) b depth tokens is.stands in
    (λ dead b enabled. dead b ((same b).1 enabled), λ dead b enabled. dead b ((same b).0 enabled))

-- nothing was enabled, where nothing is at the table
pub was_dead : (s : State) (seen : ℕ) → IsState s → seen ≡ length s.fired →
    DeadAt s.setup.system s.table.marking s.setup.options.depth → WasDead s seen
was_dead s seen is all dead = record {
  firings = omega (arith, all);
  dead =
      subst (λ fs. DeadAt s.setup.system (end_of s.setup.system fs) s.setup.options.depth)
      (sym (ap (λ k. take k s.fired) all ∙ take-length s.fired)) ((dead_at_table s is).0 dead);
}

-- and a log that hadn't ended is dead then
pub ended_dead : (s t : State) (r : NoneCommit) → s.ended ≡ None → EndsDead s r t →
    t ≡ with_end Dead s
ended_dead s t Nothing.Dead going ended = ended.1
ended_dead s t Nothing.Ended going ended = absurd (ended.0 going)

-- The end that is told, in a state whose log hasn't ended and has the firings before it.
module _ (setup : Setup) (told : Told) (s : State) (is : IsState s) (of : s.setup ≡ setup)
    (going : s.ended ≡ None) (reason : Reason)
    (are : told.entries ≡ entries_of s.fired (Some reason)) (number : ℕ)
    (counts : number ≡ suc (length s.fired)) where
  reaches : Reaches setup.system setup.options told.entries s.fired (End reason)
  reaches = record {
    after = [];
    are = are ∙ sym (ended_more s.fired reason);
    log = subst (λ x. Log x.system x.options s.fired None) of (log_going s is going);
  }

  -- it isn't true
  pub refused_end : ¬ IsTrueEnd s.setup.system s.setup.options s.fired reason →
      Refused setup.system setup.options told (R.V4 number)
  refused_end untrue =
      ending reaches
      (counts, subst (λ x. ¬ IsTrueEnd x.system x.options s.fired reason) of untrue)

  -- it is, and the marks are looked at
  pub marked_end : (t : State) → t ≡ with_end reason s →
      IsTrueEnd s.setup.system s.setup.options s.fired reason → (r : Result State ReplayFault) →
      HasMarks t number told r → Replays setup.system setup.options told r
  marked_end t ended ends (Ok u) has =
      let whole : u ≡ with_end reason s = has.0 ∙ ended in record {
        setup = ap (λ x. x.setup) whole ∙ of;
        entries = ap logged whole ∙ sym are;
        marks = subst (λ x. LivePart x.system (end_marking u) told.marks) (ap (λ x. x.setup) ended ∙ of)
            (subst (λ x. LivePart t.setup.system (end_marking x) told.marks) (sym has.0) has.1);
      }
  marked_end t ended ends (Err (R.V5 n)) has =
      let there : end_marking t ≡ end_of setup.system s.fired =
      ap end_marking ended ∙ ap (λ x. end_of x.system s.fired) of in
      ending reaches (
        has.0 ∙ counts,
        subst (λ x. IsTrueEnd x.system x.options s.fired reason) of ends,
        λ marks. has.1 (subst (λ x. LivePart x.system (end_marking t) told.marks)
            (sym (ap (λ x. x.setup) ended ∙ of))
            (subst (λ m. LivePart setup.system m told.marks) (sym there) marks)),
      )
  marked_end t ended ends (Err (R.NoMemory _)) has = tt
  marked_end t ended ends (Err (R.V1 n)) has = absurd has
  marked_end t ended ends (Err (R.V2 n)) has = absurd has
  marked_end t ended ends (Err (R.V3 n)) has = absurd has
  marked_end t ended ends (Err (R.V4 n)) has = absurd has

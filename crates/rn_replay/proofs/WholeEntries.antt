-- Entries that are firings and then one end, at each of their indices.
use Rattle.std.proofs.Common.{◌≡◌, ℕ, zero, suc, ◌+◌, ◌<◌, ◌≤◌, List, [], ◌∷◌, ◌++◌, length, get_or, take, drop, refl, sym, ap, ◌∙◌, subst, arith}
use Rattle.std.specs.Prelude.{Some, None, Ok, Err}
use Rattle.std.specs.List.{AllByRecursion}
use Rattle.std.proofs.lemmas.List.Elements.{recursion_from_All}
use Rattle.rn_model.specs.declared.log.Entry.{Entry}
use Rattle.rn_model.specs.declared.log.Entry.TheVariants.{Fire, End}
use Rattle.rn_model.specs.declared.log.Reason.{Reason}
use Rattle.rn_model.specs.Runs.{Firing, Log, entries_of}
use Rattle.rn_fire.specs.States.{State}
use Rattle.rn_fire.specs.link.States.{firings_in}
use Rattle.rn_fire.specs.declared.setup.Setup.{Setup}
use Rattle.rn_fire.proofs.EntryLemmas.{firings_of}
use Rattle.rn_replay.specs.link.Parts.{HasItsWorker, RedoesAll, RedoesEntry}
use Rattle.rn_replay.specs.Replays.{FiringRefused, HasWorker, IsWhole, Reaches}
use Rattle.rn_replay.specs.declared.fault.ReplayFault.{ReplayFault}
use Rattle.rn_replay.specs.declared.fault.ReplayFault.TheVariants as R

-- a firing as an entry
abbrev pub fire_of : Firing → Entry
fire_of f = Fire f.worker f.binding f.outs

-- one firing more, where an entry is one
take_fired : (fs : List Firing) (reason : Reason) (i : ℕ) (f : Firing) (d : Entry) →
    i < length (entries_of fs (Some reason)) →
    get_or (entries_of fs (Some reason)) i d ≡ fire_of f → take (suc i) fs ≡ take i fs ++ f ∷ []
take_fired [] reason zero f d within at = absurd (let never : ⊥ = cc in never)
take_fired [] reason (suc i) f d within at =
    absurd (let never : ⊥ = omega (arith, within) in never)
take_fired (g ∷ fs) reason zero f d within at = ap (λ e. firings_in (e ∷ [])) at
take_fired (g ∷ fs) reason (suc i) f d within at =
    ap (λ gs. g ∷ gs) (take_fired fs reason i f d (omega (arith, within)) at)

-- and none more, where it is the end
take_ended : (fs : List Firing) (reason : Reason) (i : ℕ) (other : Reason) (d : Entry) →
    i < length (entries_of fs (Some reason)) →
    get_or (entries_of fs (Some reason)) i d ≡ End other → take (suc i) fs ≡ take i fs
take_ended [] reason zero other d within at = refl
take_ended [] reason (suc i) other d within at = refl
take_ended (g ∷ fs) reason zero other d within at = absurd (let never : ⊥ = cc in never)
take_ended (g ∷ fs) reason (suc i) other d within at =
    ap (λ gs. g ∷ gs) (take_ended fs reason i other d (omega (arith, within)) at)

-- the entries before and after a firing
parts_at : (fs : List Firing) (reason : Reason) (i : ℕ) (f : Firing) (d : Entry) →
    i < length (entries_of fs (Some reason)) →
    get_or (entries_of fs (Some reason)) i d ≡ fire_of f →
    entries_of fs (Some reason)
    ≡ entries_of (take i fs) None ++ fire_of f ∷ drop (suc i) (entries_of fs (Some reason))
parts_at [] reason zero f d within at = absurd (let never : ⊥ = cc in never)
parts_at [] reason (suc i) f d within at =
    absurd (let never : ⊥ = omega (arith, within) in never)
parts_at (g ∷ fs) reason zero f d within at = ap (λ e. e ∷ entries_of fs (Some reason)) at
parts_at (g ∷ fs) reason (suc i) f d within at =
    ap (λ es. fire_of g ∷ es) (parts_at fs reason i f d (omega (arith, within)) at)

-- the worker of each firing
worker_of : (fs : List Firing) (reason : Reason) (i : ℕ) (e : Entry) → AllByRecursion HasWorker fs →
    i < length (entries_of fs (Some reason)) → get_or (entries_of fs (Some reason)) i e ≡ e →
    HasItsWorker e
worker_of [] reason zero e all within at = subst HasItsWorker at tt
worker_of [] reason (suc i) e all within at =
    absurd (let never : ⊥ = omega (arith, within) in never)
worker_of (g ∷ fs) reason zero e all within at = subst HasItsWorker at all.0
worker_of (g ∷ fs) reason (suc i) e all within at =
    worker_of fs reason i e all.1 (omega (arith, within)) at

pub few_firings : (es : List Entry) → length (firings_in es) ≤ length es
few_firings [] = omega arith
few_firings (Fire w b o ∷ es) = let few = few_firings es in omega (arith, few)
few_firings (End reason ∷ es) = let few = few_firings es in omega (arith, few)

module _ (es : List Entry) (whole : IsWhole es) where
  abbrev all_entries : List Entry
  all_entries = entries_of whole.fired (Some whole.reason)

  pub firings_are : firings_in es ≡ whole.fired
  firings_are = ap firings_in whole.are ∙ firings_of whole.fired (Some whole.reason)

  here : (i : ℕ) → i < length es → i < length all_entries
  here i within = subst (λ xs. i < length xs) whole.are within

  -- what is told ends with the end of a log
  pub end_told : es ≡ entries_of (firings_in es) (Some whole.reason)
  end_told = whole.are ∙ ap (λ fs. entries_of fs (Some whole.reason)) (sym firings_are)

  pub has_worker : (i : ℕ) (e : Entry) → i < length es → get_or es i e ≡ e → HasItsWorker e
  has_worker i e within at =
      worker_of whole.fired whole.reason i e (recursion_from_All HasWorker whole.fired whole.workers)
      (here i within) (ap (λ xs. get_or xs i e) (sym whole.are) ∙ at)

  next_fired : (i : ℕ) (f : Firing) → i < length es → get_or es i (fire_of f) ≡ fire_of f →
      take (i + 1) (firings_in es) ≡ take i (firings_in es) ++ f ∷ []
  next_fired i f within at =
      let next : i + 1 ≡ suc i = omega arith in
      ap (λ k. take k (firings_in es)) next ∙ ap (take (suc i)) firings_are
      ∙ take_fired whole.fired whole.reason i f (fire_of f) (here i within)
      (ap (λ xs. get_or xs i (fire_of f)) (sym whole.are) ∙ at)
      ∙ ap (λ fs. take i fs ++ f ∷ []) (sym firings_are)

  next_ended : (i : ℕ) (reason : Reason) → i < length es → get_or es i (End reason) ≡ End reason →
      take (i + 1) (firings_in es) ≡ take i (firings_in es)
  next_ended i reason within at =
      let next : i + 1 ≡ suc i = omega arith in
      ap (λ k. take k (firings_in es)) next ∙ ap (take (suc i)) firings_are
      ∙ take_ended whole.fired whole.reason i reason (End reason) (here i within)
      (ap (λ xs. get_or xs i (End reason)) (sym whole.are) ∙ at)
      ∙ ap (take i) (sym firings_are)

  parts : (i : ℕ) (f : Firing) → i < length es → get_or es i (fire_of f) ≡ fire_of f →
      es ≡ entries_of (take i (firings_in es)) None ++ fire_of f ∷ drop (suc i) all_entries
  parts i f within at =
      whole.are
      ∙ parts_at whole.fired whole.reason i f (fire_of f) (here i within)
      (ap (λ xs. get_or xs i (fire_of f)) (sym whole.are) ∙ at)
      ∙ ap (λ fs. entries_of (take i fs) None ++ fire_of f ∷ drop (suc i) all_entries)
      (sym firings_are)

  -- all firings before this index are done, and the log hasn't ended
  abbrev pub HasDone : Setup → ℕ → State → Type 0
  HasDone setup i s =
      (s.setup ≡ setup) × (s.ended ≡ None) × (s.fired ≡ take i (firings_in es))

  pub goes_on : (setup : Setup) (i : ℕ) (s t : State) (e : Entry) (u : Unit {0}) → i < length es →
      get_or es i e ≡ e → HasDone setup i s → RedoesEntry s e (Ok u) t → HasDone setup (i + 1) t
  goes_on setup i s t (Fire worker b outs) u within at done did =
      let f : Firing = record { worker = worker; binding = b; outs = outs } in (
        did.0 ∙ done.0,
        did.1,
        did.2 ∙ ap (λ fs. fs ++ f ∷ []) done.2 ∙ sym (next_fired i f within at),
      )
  goes_on setup i s t (End reason) u within at done did = (
    ap (λ x. x.setup) did ∙ done.0,
    ap (λ x. x.ended) did ∙ done.1,
    ap (λ x. x.fired) did ∙ done.2 ∙ sym (next_ended i reason within at),
  )

  -- the firing at an index is refused after those before it
  abbrev Found : Setup → ReplayFault → Type 0
  Found setup fault =
      (before : List Firing) × (f : Firing)
      × FiringRefused setup.system setup.options before f fault
      × Reaches setup.system setup.options es before (fire_of f)

  found : (setup : Setup) (i : ℕ) (s : State) (f : Firing) (fault : ReplayFault) → i < length es →
      get_or es i (fire_of f) ≡ fire_of f → HasDone setup i s →
      FiringRefused s.setup.system s.setup.options s.fired f fault →
      Log s.setup.system s.setup.options s.fired None → Found setup fault
  found setup i s f fault within at done refused log = (
    take i (firings_in es),
    f,
    subst (λ x. FiringRefused x.system x.options (take i (firings_in es)) f fault) done.0
        (subst (λ fs. FiringRefused s.setup.system s.setup.options fs f fault) done.2 refused),
    record {
      after = drop (suc i) all_entries;
      are = parts i f within at;
      log = subst (λ x. Log x.system x.options (take i (firings_in es)) None) done.0
          (subst (λ fs. Log s.setup.system s.setup.options fs None) done.2 log);
    },
  )

  pub refuses : (setup : Setup) (i : ℕ) (s t : State) (e : Entry) (fault : ReplayFault) →
      i < length es → get_or es i e ≡ e → HasDone setup i s → RedoesEntry s e (Err fault) t →
      RedoesAll setup.system setup.options es (Err fault)
  refuses setup i s t (End reason) fault within at done did = absurd did
  refuses setup i s t (Fire w b o) (R.NoMemory _) within at done did = tt
  refuses setup i s t (Fire w b o) (R.V1 n) within at done did =
      found setup i s (record { worker = w; binding = b; outs = o }) (R.V1 n) within at done did.0 did.1
  refuses setup i s t (Fire w b o) (R.V2 n) within at done did =
      found setup i s (record { worker = w; binding = b; outs = o }) (R.V2 n) within at done did.0 did.1
  refuses setup i s t (Fire w b o) (R.V3 n) within at done did =
      found setup i s (record { worker = w; binding = b; outs = o }) (R.V3 n) within at done did.0 did.1
  refuses setup i s t (Fire w b o) (R.V4 n) within at done did =
      found setup i s (record { worker = w; binding = b; outs = o }) (R.V4 n) within at done did.0 did.1
  refuses setup i s t (Fire w b o) (R.V5 n) within at done did =
      found setup i s (record { worker = w; binding = b; outs = o }) (R.V5 n) within at done did.0 did.1

-- A run whose lists are kept: what is known before and after a firing, and the counts so far.
use Rattle.std.proofs.Common.{◌≡◌, ◌≢◌, ℕ, zero, suc, ◌+◌, ◌<◌, ◌≤◌, List, [], ◌∷◌, ◌++◌, length, length-append, refl, sym, ap, ◌∙◌, subst, inl, inr, arith}
use Rattle.std.specs.Prelude.{Bool, true, false, Some, None, ◌⊎◌, take, slice_get}
use Rattle.std.proofs.lemmas.List.{take-append-le, take_all}
use Rattle.rn_model.specs.declared.binding.Binding.{Binding}
use Rattle.rn_model.specs.declared.log.Options.{Options}
use Rattle.rn_model.specs.declared.log.Reason.{Reason}
use Rattle.rn_model.specs.declared.log.Reason.TheVariants.{Memory}
use Rattle.rn_model.specs.declared.system.System.{System}
use Rattle.rn_model.specs.Enabling.{Enabled}
use Rattle.rn_model.specs.Markings.{Marking, initial_marking}
use Rattle.rn_model.specs.Runs.{Firing, after_firing, end_of, entries_of}
use Rattle.rn_model.proofs.RunLemmas.{ends_follow}
use Rattle.rn_model.proofs.SoundRuns.{runs_end_sound}
use Rattle.rn_search.specs.Problems.{HasFitTokens}
use Rattle.rn_binding.specs.Soundness.{IsSound}
use Rattle.rn_least.specs.LeastRuns.{IsLeast, LeastLog}
use Rattle.rn_finder.proofs.FitTokens.{standing_tokens_fit}
use Rattle.rn_fire.specs.Commits.{HasFired}
use Rattle.rn_fire.specs.declared.setup.Setup.{Setup}
use Rattle.rn_fire.specs.Ends.{EndsAtLimit, with_end}
use Rattle.rn_fire.specs.States.{State, IsState, end_marking, logged}
use Rattle.rn_fire.proofs.EntryLemmas.{count_going}
use Rattle.rn_least_state.specs.CommitsAt.{WasLeast}
use Rattle.rn_least_state.specs.LeastStates.{HasLeastLog}
use Rattle.rn_incr.specs.Counts.{AreCounts, IsCounted}
use Rattle.rn_incr.specs.link.Following.{IsFollowed}
use Rattle.rn_incr.specs.Lists.{AreListsOf, IsCount, Listed}

-- what is enabled is sound
pub is_sound : (system : System) (m : Marking) (b : Binding) (depth : ℕ) →
    Enabled system m b depth → IsSound system depth b
is_sound system m b depth enabled =
    record { shape = enabled.shape; agrees = enabled.agrees; derived = enabled.derived }

-- the tokens at the table of a state may be searched
pub fit_tokens : (s : State) → IsState s → HasFitTokens s.setup.system s.table.marking
fit_tokens s is =
    standing_tokens_fit s.setup.system s.table.marking (end_marking s)
    (runs_end_sound s.setup.system s.setup.options.depth s.fired is.good is.log.run) is.stands

-- an end is none, or one by its reason
pub no_reason : (reason : Reason) → ¬ (Some reason ≡ None)
no_reason reason e = let no : ⊥ = cc in no

pub same_reason : (reason other : Reason) → Some reason ≡ Some other → reason ≡ other
same_reason reason other e = cc

-- What lists say that are kept for a state.
module _ (s : State) (l : Listed) (followed : IsFollowed s l) where
  at_end : (P : Marking → ℕ → Type 0) → P l.marking l.depth →
      P (end_marking s) s.setup.options.depth
  at_end P here =
      subst (λ d. P (end_marking s) d) followed.depth (subst (λ m. P m l.depth) followed.at here)

  -- the least binding at their marking is the least at the end of the state's firings
  pub least_now : (b : Binding) → IsLeast s.setup.system l.marking l.depth b →
      IsLeast s.setup.system (end_marking s) s.setup.options.depth b
  least_now b = at_end (λ m d. IsLeast s.setup.system m d b)

  pub count_now : (n : ℕ) → IsCount s.setup.system l.marking l.depth n →
      IsCount s.setup.system (end_marking s) s.setup.options.depth n
  count_now n = at_end (λ m d. IsCount s.setup.system m d n)

-- Where a log hasn't ended, all its entries are firings.
module _ (s : State) (seen : ℕ) (going : s.ended ≡ None) (count : seen ≡ length (logged s)) where
  -- then as many were seen as there are firings
  pub all_seen : seen ≡ length s.fired
  all_seen = count ∙ ap (λ e. length (entries_of s.fired e)) going ∙ count_going s.fired

  firings : seen ≤ length s.fired
  firings = let all = all_seen in omega (arith, all)

  taken : take seen s.fired ≡ s.fired
  taken = take_all seen s.fired (let all = all_seen in omega (arith, all))

  -- what is the least now is so after all of them
  pub was_least : (b : Binding) → IsLeast s.setup.system (end_marking s) s.setup.options.depth b →
      WasLeast s b seen
  was_least b least = record {
    firings = firings;
    least =
        subst (λ fs. IsLeast s.setup.system (end_of s.setup.system fs) s.setup.options.depth b)
        (sym taken) least;
  }

-- After a firing the table still has all, where it had.
module _ (old new : State) (f : Firing) (fires : HasFired old f new) where
  -- the setup is as before
  pub same_setup : new.setup ≡ old.setup
  same_setup = ap (λ s. s.setup) fires.state

  pub one_fired : new.fired ≡ old.fired ++ f ∷ []
  one_fired = ap (λ s. s.fired) fires.state

  -- the log goes on where it did
  pub still_going : old.ended ≡ None → new.ended ≡ None
  still_going going = ap (λ s. s.ended) fires.state ∙ going

  end_is : end_marking new ≡ end_of old.setup.system (old.fired ++ f ∷ [])
  end_is = ap end_marking fires.state

  -- the table is the marking at the end where it was
  pub still_whole : old.table.marking ≡ end_marking old → new.table.marking ≡ end_marking new
  still_whole whole =
      fires.table
      ∙ ap (λ m. after_firing old.setup.system (suc (length old.fired)) m f) whole
      ∙ sym (ends_follow old.setup.system old.fired f) ∙ sym end_is

  -- the firings before it
  pub before_it : (seen : ℕ) → seen ≡ length old.fired → take seen new.fired ≡ old.fired
  before_it seen all =
      ap (take seen) one_fired
      ∙ take-append-le seen old.fired (f ∷ []) (omega (arith, all))
      ∙ take_all seen old.fired (omega (arith, all))

  -- the end of as many firings as there were is the end before
  pub end_before : (seen : ℕ) → seen ≡ length old.fired →
      end_of new.setup.system (take seen new.fired) ≡ end_marking old
  end_before seen all =
      ap (λ x. end_of x.system (take seen new.fired)) same_setup
      ∙ ap (end_of old.setup.system) (before_it seen all)

  -- there are at least as many firings as there were
  pub within_it : (seen : ℕ) → seen ≡ length old.fired → seen ≤ length new.fired
  within_it seen all =
      let count = ap length one_fired ∙ length-append old.fired (f ∷ []) in
      omega (arith, all, count)

  -- there is one firing more
  pub count_fired : length new.fired ≡ length old.fired + 1
  count_fired = ap length one_fired ∙ length-append old.fired (f ∷ [])

-- an element of a list with one more
got_cases : {X : Type 0} (xs : List X) (y : X) (i : ℕ) (x : X) →
    slice_get (xs ++ y ∷ []) i ≡ Some x →
    ((i < length xs) × (slice_get xs i ≡ Some x)) ⊎ ((i ≡ length xs) × (x ≡ y))
got_cases [] y zero x e = let same : x ≡ y = cc in inr (refl, same)
got_cases [] y (suc i) x e = absurd (let no : ⊥ = cc in no)
got_cases (z ∷ xs) y zero x e = inl (omega arith, e)
got_cases (z ∷ xs) y (suc i) x e = elim (got_cases xs y i x e)
    as (λ _. ((suc i < suc (length xs)) × (slice_get xs i ≡ Some x))
    ⊎ ((suc i ≡ suc (length xs)) × (x ≡ y))) [
      | inl early ↦ inl ((let low = early.0 in omega (arith, low)), early.1)
      | inr last ↦ inr (ap suc last.0, last.1)
    ]

module _ (system : System) (depth : ℕ) where
  -- the count of the first marking
  pub first_count : (n : ℕ) → IsCount system (initial_marking system) depth n →
      AreCounts system depth [] (n ∷ [])
  first_count n count = record { all = refl; each = one }
    where
      one : (i k : ℕ) → slice_get (n ∷ []) i ≡ Some k →
          IsCount system (end_of system (take i [])) depth k
      one zero k e = let same : n ≡ k = cc in subst (IsCount system (initial_marking system) depth) same count
      one (suc i) k e = absurd (let no : ⊥ = cc in no)

  -- one count more
  pub more_counts : (fs : List Firing) (f : Firing) (counts : List ℕ) (n : ℕ) →
      AreCounts system depth fs counts → IsCount system (end_of system (fs ++ f ∷ [])) depth n →
      AreCounts system depth (fs ++ f ∷ []) (counts ++ n ∷ [])
  more_counts fs f counts n are count = record {
    all =
        let both = length-append counts (n ∷ []) in
        let fired = length-append fs (f ∷ []) in
        let so_far = are.all in
        omega (arith, both, fired, so_far);
    each = λ i k e. elim (got_cases counts n i k e)
        as (λ _. IsCount system (end_of system (take i (fs ++ f ∷ []))) depth k) [
          | inl early ↦
              let low = early.0 in
              let so_far = are.all in
              subst (λ gs. IsCount system (end_of system gs) depth k)
              (sym (take-append-le i fs (f ∷ []) (omega (arith, low, so_far))))
              (are.each i k early.1)
          | inr last ↦
              let at = last.0 in
              let so_far = are.all in
              let fired = length-append fs (f ∷ []) in
              subst (λ gs. IsCount system (end_of system gs) depth k)
              (sym (take_all i (fs ++ f ∷ []) (omega (arith, at, so_far, fired))))
              (subst (IsCount system (end_of system (fs ++ f ∷ [])) depth) (sym last.1) count)
        ];
  }

-- The counts after a firing, and after an end.
module _ (s new : State) (counts : List ℕ)
    (are : AreCounts s.setup.system s.setup.options.depth s.fired counts) where
  pub counts_fired : (f : Firing) (l : Listed) (n : ℕ) → HasFired s f new → IsFollowed new l →
      IsCount new.setup.system l.marking l.depth n →
      AreCounts new.setup.system new.setup.options.depth new.fired (counts ++ n ∷ [])
  counts_fired f l n fires followed count =
      let here =
      subst (λ (x : State). IsCount x.setup.system (end_marking x) x.setup.options.depth n)
      fires.state (count_now new l followed n count) in
      subst
      (λ (x : State). AreCounts x.setup.system x.setup.options.depth x.fired (counts ++ n ∷ []))
      (sym fires.state)
      (more_counts s.setup.system s.setup.options.depth s.fired f counts n are here)

  pub counts_ended : (reason : Reason) → new ≡ with_end reason s →
      AreCounts new.setup.system new.setup.options.depth new.fired counts
  counts_ended reason is =
      subst (λ (x : State). AreCounts x.setup.system x.setup.options.depth x.fired counts) (sym is)
      are

-- an end at the step limit, or none
pub ends_all : (s new : State) (ends : Bool) → EndsAtLimit s ends new →
    s.ended ≢ Some Memory → (s.ended ≡ None → length s.fired ≡ s.setup.options.steps) →
    (new.ended ≢ None) × (new.ended ≢ Some Memory) × (new.setup ≡ s.setup)
    × (new.fired ≡ s.fired)
ends_all s new true (going, count, is) reason all =
    let ended = ap (λ x. x.ended) is in (
      (λ none. let no : ⊥ = cc in no),
      (λ memory. let no : ⊥ = cc in no),
      ap (λ x. x.setup) is,
      ap (λ x. x.fired) is,
    )
ends_all s new false (below, is) reason all = (
  (λ none.
      let going : s.ended ≡ None = sym (ap (λ x. x.ended) is) ∙ none in
      below going (all going)),
  (λ memory. reason (sym (ap (λ x. x.ended) is) ∙ memory)),
  ap (λ x. x.setup) is,
  ap (λ x. x.fired) is,
)

-- A run as it starts.
module _ (system : System) (options : Options) (s : State)
    (is : s ≡ record {
      setup = record { system = system; options = options };
      fired = [];
      ended = None;
      table = s.table;
    })
    (first : s.table.marking ≡ initial_marking system) where
  starts_there : end_marking s ≡ initial_marking system
  starts_there = ap end_marking is

  pub starts_followed : (l : Listed) → l.marking ≡ s.table.marking → l.depth ≡ options.depth →
      AreListsOf s.setup.system l → IsFollowed s l
  starts_followed l at depth lists = record {
    whole = first ∙ sym starts_there;
    at = at ∙ first ∙ sym starts_there;
    depth = depth ∙ sym (ap (λ (x : State). x.setup.options.depth) is);
    lists = lists;
  }

  pub starts_counted : (l : Listed) (n : ℕ) → IsFollowed s l →
      IsCount s.setup.system l.marking l.depth n →
      AreCounts s.setup.system s.setup.options.depth [] (n ∷ [])
  starts_counted l n followed count =
      first_count s.setup.system s.setup.options.depth n
      (subst (λ fs. IsCount s.setup.system (end_of s.setup.system fs) s.setup.options.depth n)
      (ap (λ (x : State). x.fired) is) (count_now s l followed n count))

-- A run at its end.
pub is_counted : (system : System) (options : Options) (s after final : State) (ends : Bool)
    (counts : List ℕ) →
    s.setup ≡ record { system = system; options = options } → after.setup ≡ s.setup →
    after.ended ≢ Some Memory →
    (after.ended ≡ None → length after.fired ≡ after.setup.options.steps) →
    AreCounts after.setup.system after.setup.options.depth after.fired counts →
    EndsAtLimit after ends final → HasLeastLog final → IsCounted system options final counts
is_counted system options s after final ends counts first same reason all are limit least =
    let end = ends_all after final ends limit reason all in
    let setup = end.2 ∙ same ∙ first in
    record {
      setup = setup;
      log = subst (λ (x : Setup). LeastLog x.system x.options final.fired final.ended) setup least;
      ended = end.0;
      reason = end.1;
      counts =
          subst (λ fs. AreCounts system options.depth fs counts) (sym end.3)
          (subst (λ (x : Setup). AreCounts x.system x.options.depth after.fired counts)
          (same ∙ first) are);
    }

-- What is known of the last look for the first binding, after more firings.
use Rattle.std.proofs.Common.{◌≡◌, ℕ, ◌+◌, ◌≤◌, List, ◌++◌, length, take, sym, ap, ◌∙◌, subst, arith}
use Rattle.std.specs.Prelude.{Option, Some, None, MatchOption, ⊤}
use Rattle.std.proofs.Math.Seq.{take-length}
use Rattle.std.proofs.lemmas.List.{length-append, take-append-le}
use Rattle.rn_model.specs.Markings.{Marking}
use Rattle.rn_model.specs.Runs.{Firing, end_of}
use Rattle.rn_reach.specs.Reach.{DifferAtMostIn}
use Rattle.rn_fire.specs.declared.setup.Setup.{Setup}
use Rattle.rn_fire.specs.States.{State, end_marking, logged}
use Rattle.rn_fire.proofs.EntryLemmas.{going_count}
use Rattle.rn_parted.specs.Parted.{IsKept, Parted}
use Rattle.rn_session.specs.declared.session.Looked.{Looked}
use Rattle.rn_session.specs.link.Keeping.{HaveChangedSince, IsKeptSince, WasLookedAt}

-- with more firings
module _ (old new : State) (gs : List Firing) (setup : new.setup ≡ old.setup)
    (more : new.fired ≡ old.fired ++ gs) where
  same : (k : ℕ) → k ≤ length old.fired → take k new.fired ≡ take k old.fired
  same k low = ap (take k) more ∙ take-append-le k old.fired gs low

  end_same : (k : ℕ) → k ≤ length old.fired →
      end_of new.setup.system (take k new.fired) ≡ end_of old.setup.system (take k old.fired)
  end_same k low =
      ap (λ (x : Setup). end_of x.system (take k new.fired)) setup
      ∙ ap (end_of old.setup.system) (same k low)

  pub still_looked : (looked : Option Looked) → WasLookedAt old looked → WasLookedAt new looked
  still_looked None was = tt
  still_looked (Some look) (low, next) =
      let long = ap length more in
      let all = length-append old.fired gs in
      (omega (arith, low, long, all), next ∙ ap (λ (m : Marking). m.next) (sym (end_same look.seen low)))

  pub still_kept : (firsts : Option Parted) (looked : Option Looked) → WasLookedAt old looked →
      IsKeptSince old firsts looked → IsKeptSince new firsts looked
  still_kept firsts None was kept = tt
  still_kept firsts (Some look) (low, next) kept =
      subst (λ (x : Setup). IsKept x.system (end_of new.setup.system (take look.seen new.fired))
      x.options.depth firsts) (sym setup)
      (subst (λ m. IsKept old.setup.system m old.setup.options.depth firsts)
      (sym (end_same look.seen low)) kept)

-- what has changed since a look is what a look may be told
pub changes_told : (s : State) (firsts : Option Parted) (looked : Option Looked)
    (changed : Option (List ℕ)) → HaveChangedSince s looked changed → IsKeptSince s firsts looked →
    MatchOption changed ⊤ (λ c. (before : Marking)
    × IsKept s.setup.system before s.setup.options.depth firsts
    × DifferAtMostIn c before (end_marking s))
changes_told s firsts None changed have kept =
    subst (λ o. MatchOption o ⊤ (λ c. (before : Marking)
    × IsKept s.setup.system before s.setup.options.depth firsts
    × DifferAtMostIn c before (end_marking s))) (sym have) tt
changes_told s firsts (Some look) None have kept = tt
changes_told s firsts (Some look) (Some numbers) have kept =
    (end_of s.setup.system (take look.seen s.fired), kept, have)

-- a look at all firings so far
module _ (s : State) (seen next : ℕ) (going : s.ended ≡ None) (count : seen ≡ length (logged s))
  where
    all_seen : seen ≡ length s.fired
    all_seen = count ∙ going_count s going

    end_then : end_of s.setup.system (take seen s.fired) ≡ end_marking s
    end_then = ap (end_of s.setup.system) (ap (λ k. take k s.fired) all_seen ∙ take-length s.fired)

    pub looked_now : next ≡ (end_marking s).next →
        WasLookedAt s (Some (record { seen = seen; next = next }))
    looked_now is =
        (omega (arith, all_seen), is ∙ ap (λ (m : Marking). m.next) (sym end_then))

    pub kept_now : (firsts : Option Parted) →
        IsKept s.setup.system (end_marking s) s.setup.options.depth firsts →
        IsKeptSince s firsts (Some (record { seen = seen; next = next }))
    kept_now firsts kept =
        subst (λ m. IsKept s.setup.system m s.setup.options.depth firsts) (sym end_then) kept

-- what is told of some numbers, told of a slice of them
pub told_of : {X : Type 0} (now : X → List ℕ) (o : Option X) (changed : Option (List ℕ))
    (P : List ℕ → Type 0) → MatchOption o ⊤ (λ c. changed ≡ Some (now c)) →
    MatchOption changed ⊤ P → MatchOption o ⊤ (λ c. P (now c))
told_of now None changed P is told = tt
told_of now (Some c) changed P is told = subst (λ x. MatchOption x ⊤ P) is told

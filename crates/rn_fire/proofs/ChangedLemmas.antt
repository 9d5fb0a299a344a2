-- Lists that get the instances that firings may have changed.
use Rattle.std.proofs.Common.{◌≡◌, ℕ, zero, suc, ◌+◌, ◌-◌, ◌<◌, ◌≤◌, List, [], ◌∷◌, ◌++◌, length, map, take, drop, get_or, length-drop, refl, sym, ◌∙◌, subst, inl, inr, arith}
use Rattle.std.specs.Prelude.{Option, Some, None, ◌↔◌, ◌⊎◌, Contains}
use Rattle.std.proofs.lemmas.Bool.{cases_lt}
use Rattle.std.proofs.lemmas.List.{take-append-drop, take_all, take_more}
use Rattle.std.proofs.lemmas.List.Elements.{Contains-append_cases, Contains-append_left, Contains-push, Contains-push_cases}
use Rattle.rn_model.specs.declared.log.Entry.{Entry}
use Rattle.rn_model.specs.declared.log.Reason.{Reason}
use Rattle.rn_model.specs.declared.system.System.{System}
use Rattle.rn_model.specs.Good.{Good}
use Rattle.rn_model.specs.Markings.{instance_at}
use Rattle.rn_model.specs.Runs.{Firing, Run, end_entries, end_of, entries_of}
use Rattle.rn_model.proofs.AskedValues.{contained_mapped, map_source}
use Rattle.rn_model.proofs.EnablingLemmas.{not_in_nil}
use Rattle.rn_reach.specs.Changes.{HaveNodeOn, MayChange}
use Rattle.rn_reach.specs.Reach.{DifferAtMostIn}
use Rattle.rn_reach.proofs.OtherInstances.{firings_change_no_other}
use Rattle.rn_fire.proofs.EntryLemmas.{entry_of}
use Rattle.rn_fire.specs.link.Changed.{EntryHasNodeOn, Gets, OneHas}

-- nothing more
pub gets_nothing : (Has : ℕ → Type 0) (xs : List ℕ) → ((n : ℕ) → ¬ Has n) → Gets Has xs xs
gets_nothing Has xs none n = (
  λ there. inl there,
  λ which. elim which as (λ _. Contains xs n) [ inl there ↦ there | inr has ↦ absurd (none n has) ],
)

-- one more
pub gets_one : (xs : List ℕ) (k : ℕ) (Has : ℕ → Type 0) → Has k → ((n : ℕ) → Has n → n ≡ k) →
    Gets Has xs (xs ++ k ∷ [])
gets_one xs k Has here only n = (
  λ there. elim (Contains-push_cases xs k n there) as (λ _. Contains xs n ⊎ Has n) [
    | inl before ↦ inl before
    | inr same ↦ inr (subst Has same here)
  ],
  λ which. elim which as (λ _. Contains (xs ++ k ∷ []) n) [
    | inl before ↦ Contains-append_left xs (k ∷ []) n before
    | inr has ↦ subst (Contains (xs ++ k ∷ [])) (sym (only n has)) (Contains-push xs k)
  ],
)

-- one lot after another
pub gets_then : (First Second Both : ℕ → Type 0) (xs ys zs : List ℕ) → Gets First xs ys →
    Gets Second ys zs → ((n : ℕ) → Both n ↔ (First n ⊎ Second n)) → Gets Both xs zs
gets_then First Second Both xs ys zs first second both n = (
  λ there. elim ((second n).0 there) as (λ _. Contains xs n ⊎ Both n) [
    | inl earlier ↦ elim ((first n).0 earlier) as (λ _. Contains xs n ⊎ Both n) [
      | inl before ↦ inl before
      | inr has ↦ inr ((both n).1 (inl has))
    ]
    | inr has ↦ inr ((both n).1 (inr has))
  ],
  λ which. elim which as (λ _. Contains zs n) [
    | inl before ↦ (second n).1 (inl ((first n).1 (inl before)))
    | inr has ↦ elim ((both n).0 has) as (λ _. Contains zs n) [
      | inl one ↦ (second n).1 (inl ((first n).1 (inr one)))
      | inr other ↦ (second n).1 (inr other)
    ]
  ],
)

-- What is put of each of a list.
module _ {X : Type 0} (Has : X → ℕ → Type 0) (xs : List X) where
  pub none_yet : (ns : List ℕ) → Gets (OneHas Has (take 0 xs)) ns ns
  none_yet ns = gets_nothing (OneHas Has (take 0 xs)) ns (λ n has. not_in_nil has.0 has.1)

  pub one_more : (i : ℕ) (x : X) (ks bs cs : List ℕ) → i < length xs → x ≡ get_or xs i x →
      Gets (OneHas Has (take i xs)) ks bs → Gets (Has x) bs cs →
      Gets (OneHas Has (take (i + 1) xs)) ks cs
  one_more i x ks bs cs within is before here =
      gets_then (OneHas Has (take i xs)) (Has x) (OneHas Has (take (i + 1) xs)) ks bs cs before here
      (λ n. (
        λ one.
            let cases = Contains-push_cases (take i xs) (get_or xs i x) one.0
            (subst (λ ys. Contains ys one.0) (take_more xs i x within) one.1) in
            elim cases as (λ _. OneHas Has (take i xs) n ⊎ Has x n) [
              | inl there ↦ inl (one.0, there, one.2)
              | inr same ↦ inr (subst (λ y. Has y n) (sym (is ∙ same)) one.2)
            ],
        λ which. elim which as (λ _. OneHas Has (take (i + 1) xs) n) [
          | inl one ↦ (
            one.0,
            subst (λ ys. Contains ys one.0) (sym (take_more xs i x within))
                (Contains-append_left (take i xs) (get_or xs i x ∷ []) one.0 one.1),
            one.2,
          )
          | inr has ↦ (
            x,
            subst (λ ys. Contains ys x) (sym (take_more xs i x within))
                (subst (Contains (take i xs ++ get_or xs i x ∷ [])) (sym is)
                (Contains-push (take i xs) (get_or xs i x))),
            has,
          )
        ],
      ))

-- The numbers from one on that are below another and below the end.
abbrev pub Between : ℕ → ℕ → ℕ → ℕ → Type 0
Between from at end n = (from ≤ n) × (n < at) × (n < end)

pub none_between : (from end : ℕ) (ns : List ℕ) → Gets (Between from from end) ns ns
none_between from end ns =
    gets_nothing (Between from from end) ns (λ n has.
    let low = has.0 in let high = has.1 in let no : ⊥ = omega (arith, low, high) in no)

pub next_between : (from at end : ℕ) (ks ns : List ℕ) → from ≤ at → at < end →
    Gets (Between from at end) ks ns → Gets (Between from (at + 1) end) ks (ns ++ at ∷ [])
next_between from at end ks ns low high before =
    gets_then (Between from at end) (λ n. n ≡ at) (Between from (at + 1) end) ks ns (ns ++ at ∷ [])
    before (gets_one ns at (λ n. n ≡ at) refl (λ n same. same))
    (λ n. (
      λ has. below_or_at n has.0 has.1 has.2,
      λ which. elim which as (λ _. Between from (at + 1) end n) [
        | inl below ↦ (below.0, (let b = below.1 in omega (arith, b)), below.2)
        | inr same ↦ (omega (arith, same, low), omega (arith, same), omega (arith, same, high))
      ],
    ))
  where
    below_or_at : (n : ℕ) → from ≤ n → n < at + 1 → n < end → Between from at end n ⊎ (n ≡ at)
    below_or_at n least most under = elim (cases_lt n at) as (λ _. Between from at end n ⊎ (n ≡ at)) [
      | inl less ↦ inl (least, less, under)
      | inr more ↦ inr (omega (arith, most, more))
    ]

pub all_between : (from at end : ℕ) (ks ns : List ℕ) → end ≤ at → Gets (Between from at end) ks ns →
    Gets (λ n. (from ≤ n) × (n < end)) ks ns
all_between from at end ks ns past before n = (
  λ there. elim ((before n).0 there) as (λ _. Contains ks n ⊎ ((from ≤ n) × (n < end))) [
    | inl early ↦ inl early
    | inr has ↦ inr (has.0, has.2)
  ],
  λ which. elim which as (λ _. Contains ns n) [
    | inl early ↦ (before n).1 (inl early)
    | inr has ↦ (before n).1 (inr (has.0, (let high = has.1 in omega (arith, high, past)), has.1))
  ],
)

-- the rest of a list
pub rest_whole : {X : Type 0} (k : ℕ) (xs : List X) →
    take (length xs - k) (drop k xs) ≡ drop k xs
rest_whole k xs =
    take_all (length xs - k) (drop k xs) (let few = length-drop k xs in omega (arith, few))

-- the firings among the entries of a log
pub later_entries : (k : ℕ) (fs : List Firing) (ended : Option Reason) → k ≤ length fs →
    drop k (entries_of fs ended) ≡ entries_of (drop k fs) ended
later_entries zero fs ended within = refl
later_entries (suc k) [] ended within = absurd (let no : ⊥ = omega (arith, within) in no)
later_entries (suc k) (f ∷ fs) ended within = later_entries k fs ended (omega (arith, within))

pub entries_stand : (fs : List Firing) (ended : Option Reason) (n : ℕ) →
    OneHas EntryHasNodeOn (entries_of fs ended) n ↔ HaveNodeOn fs n
entries_stand fs ended n = (
  λ one.
      elim (Contains-append_cases (map entry_of fs) (end_entries ended) one.0 one.1)
      as (λ _. HaveNodeOn fs n) [
        | inl there ↦
            let from = map_source entry_of fs one.0 there in
            (from.0, from.1, subst (λ e. EntryHasNodeOn e n) (sym from.2) one.2)
        | inr there ↦ absurd (of_end ended one.0 there one.2)
      ],
  λ have. (
    entry_of have.0,
    Contains-append_left (map entry_of fs) (end_entries ended) (entry_of have.0)
        (contained_mapped entry_of fs have.0 have.1),
    have.2,
  ),
)
  where
    of_end : (ended : Option Reason) (e : Entry) → Contains (end_entries ended) e →
        ¬ EntryHasNodeOn e n
    of_end None e there has = not_in_nil e there
    of_end (Some reason) e (zero, low, same) has =
        subst (λ x. EntryHasNodeOn x n) (sym same) has
    of_end (Some reason) e (suc k, low, same) has =
        let no : ⊥ = omega (arith, low) in no

-- what is put of the later entries, and then the new numbers
module _ (system : System) (fs : List Firing) (ended : Option Reason) (seen next : ℕ)
    (within : seen ≤ length fs) (next_is : next ≡ (end_of system (take seen fs)).next)
    (ms changed : List ℕ)
    (old : Gets (OneHas EntryHasNodeOn (drop seen (entries_of fs ended))) [] ms)
    (new : Gets (λ n. (next ≤ n) × (n < (end_of system fs).next)) ms changed) where
  pub just_changed : (n : ℕ) → Contains changed n
      ↔ MayChange (drop seen fs) next (end_of system fs).next n
  just_changed n =
      let stand = subst (λ es. OneHas EntryHasNodeOn es n ↔ HaveNodeOn (drop seen fs) n)
      (sym (later_entries seen fs ended within)) (entries_stand (drop seen fs) ended n) in
      let all = gets_then (OneHas EntryHasNodeOn (drop seen (entries_of fs ended)))
      (λ n. (next ≤ n) × (n < (end_of system fs).next))
      (λ n. OneHas EntryHasNodeOn (drop seen (entries_of fs ended)) n
      ⊎ ((next ≤ n) × (n < (end_of system fs).next))) [] ms changed old new
      (λ n. (λ h. h, λ h. h)) n in (
        λ there. elim (all.0 there)
            as (λ _. MayChange (drop seen fs) next (end_of system fs).next n) [
              | inl before ↦ absurd (not_in_nil n before)
              | inr which ↦ elim which
                  as (λ _. MayChange (drop seen fs) next (end_of system fs).next n) [
                    | inl one ↦ inl (stand.0 one)
                    | inr made ↦ inr made
                  ]
            ],
        λ may. elim may as (λ _. Contains changed n) [
          | inl have ↦ all.1 (inr (inl (stand.1 have)))
          | inr made ↦ all.1 (inr (inr made))
        ],
      )

  pub differ_in_changed : (depth : ℕ) → Good system → Run system depth fs →
      DifferAtMostIn changed (end_of system (take seen fs)) (end_of system fs)
  differ_in_changed depth good run k not =
      let whole = take-append-drop seen fs in
      subst (λ gs. instance_at (end_of system gs) k
      ≡ instance_at (end_of system (take seen fs)) k) whole
      (firings_change_no_other system depth (take seen fs) (drop seen fs) k good
      (subst (Run system depth) (sym whole) run)
      (λ may. not ((just_changed k).1
      (subst (λ n. MayChange (drop seen fs) n (end_of system fs).next k) (sym next_is)
      (subst (λ gs. MayChange (drop seen fs) (end_of system (take seen fs)).next (end_of system gs).next k)
      whole may)))))

-- What looks at several things say of all of them.
use Rattle.std.proofs.Common.{◌≡◌, ℕ, ◌<◌, ◌⊎◌, List, [], ◌∷◌, ◌++◌, length, sym, subst, inl}
use Rattle.std.proofs.Common.{inr, arith}
use Rattle.rn_choices.specs.declared.next.Next.{Next}
use Rattle.rn_choices.specs.declared.next.Next.TheVariants.{Choose}
use Rattle.rn_choices.specs.declared.next.Next.TheVariants as N
use Rattle.rn_model.specs.declared.system.System.{System}
use Rattle.rn_growing.specs.declared.decision.Decision.{Decision}
use Rattle.rn_search.specs.declared.point.Point.{Point}
use Rattle.rn_search.specs.Points.{offers}
use Rattle.rn_search.specs.Sought.{Sought, Leads}
use Rattle.rn_search.specs.Ending.{IsAsked, IsDecided}
use Rattle.rn_search.proofs.Ends.{may_is_asked}
use Rattle.rn_looking.specs.declared.look.Look.{Look}
use Rattle.rn_looking.specs.declared.look.Look.TheVariants.{Done, Waits, Goes}
use Rattle.rn_looking.specs.Looks.{AreAllDecided, AreAllClosed, GoesOn, IsAmong, Looked, IsBetter}
use Rattle.rn_looking.specs.Looks.{IsNarrowed, Urges}

-- whatever is asked of all of these things is of one of these or of one of those
abbrev pub AreCovered : System → List Decision → (Decision → Type 0) → (Decision → Type 0) →
    (Decision → Type 0) → Type 0
AreCovered system ds On Other All =
    (d : Decision) → All d → IsAsked system ds d → On d ⊎ Other d

-- nothing is asked of these things
pub looked_none : (sought : Sought) (ds : List Decision) (On : Decision → Type 0) →
    ((d : Decision) → On d → ⊥) → Looked sought ds On Done
looked_none sought ds On none d on asked = absurd (none d on)

-- how the search goes on doesn't hang on the things that were looked at
pub looked_best : (sought : Sought) (ds : List Decision) (On All : Decision → Type 0)
    (look : Look) → Looked sought ds On look → Urges look → Looked sought ds All look
looked_best sought ds On All look looked (next, (count, is)) =
    subst (Looked sought ds All) (sym is) (subst (Looked sought ds On) is looked)

-- a look that goes on still does beside another
pub still_urges : (a b r : Look) → Urges a → IsBetter a b r → Urges r
still_urges (Goes next count) Done r urges is = (next, (count, is))
still_urges (Goes next count) Waits r urges is = (next, (count, is))
still_urges (Goes next count) (Goes after other) r urges is =
    elim is [
      | inl first ↦ (next, (count, first.1))
      | inr second ↦ (after, (other, second.1))
    ]
still_urges Done b r (next, (count, never)) is = absurd (let no : ⊥ = cc in no)
still_urges Waits b r (next, (count, never)) is = absurd (let no : ⊥ = cc in no)

-- where one goes on, what counts of both says how the search goes on
pub looked_urged : (sought : Sought) (ds : List Decision) (All Other : Decision → Type 0)
    (a b r : Look) → Urges a → Looked sought ds All a → Looked sought ds Other b →
    IsBetter a b r → Looked sought ds All r
looked_urged sought ds All Other (Goes next count) Done r urges one two is =
    subst (Looked sought ds All) (sym is) one
looked_urged sought ds All Other (Goes next count) Waits r urges one two is =
    subst (Looked sought ds All) (sym is) one
looked_urged sought ds All Other (Goes next count) (Goes after other) r urges one two is =
    elim is as (λ _. Looked sought ds All r) [
      | inl first ↦ subst (Looked sought ds All) (sym first.1) one
      | inr second ↦ subst (Looked sought ds All) (sym second.1) two
    ]
looked_urged sought ds All Other Done b r (next, (count, never)) one two is =
    absurd (let no : ⊥ = cc in no)
looked_urged sought ds All Other Waits b r (next, (count, never)) one two is =
    absurd (let no : ⊥ = cc in no)

-- a choice that counts as another number, or begins elsewhere, says the same
pub looked_narrowed : (sought : Sought) (ds : List Decision) (On : Decision → Type 0)
    (look r : Look) → Looked sought ds On look → IsNarrowed look r → Looked sought ds On r
looked_narrowed sought ds On Done r looked is = subst (Looked sought ds On) (sym is) looked
looked_narrowed sought ds On Waits r looked is = subst (Looked sought ds On) (sym is) looked
looked_narrowed sought ds On (Goes (Choose point of first) count) r looked (begin, (other, is)) =
    subst (Looked sought ds On) (sym is) looked
looked_narrowed sought ds On (Goes N.Done count) r looked is =
    subst (Looked sought ds On) (sym is) looked
looked_narrowed sought ds On (Goes N.Stuck count) r looked is =
    subst (Looked sought ds On) (sym is) looked
looked_narrowed sought ds On (Goes (N.Forced point) count) r looked is =
    subst (Looked sought ds On) (sym is) looked

-- what a look at some things says of a part of them
pub looked_part : (sought : Sought) (ds : List Decision) (On Part : Decision → Type 0) →
    ((d : Decision) → Part d → On d) → (look : Look) → Looked sought ds On look →
    Looked sought ds Part look
looked_part sought ds On Part of Done looked = λ d part asked. looked d (of d part) asked
looked_part sought ds On Part of Waits looked =
    (λ d part may. looked.0 d (of d part) may, looked.1)
looked_part sought ds On Part of (Goes next count) looked = looked

module _ (sought : Sought) (ds : List Decision) (some : 0 < length ds) where
  done_is_closed : (On : Decision → Type 0) → AreAllDecided sought.system ds On →
      AreAllClosed sought.system ds On
  done_is_closed On done d on may = done d on (may_is_asked sought.system ds some d may)

  module _ (On Other All : Decision → Type 0)
      (covered : AreCovered sought.system ds On Other All) where
    both_done : AreAllDecided sought.system ds On → AreAllDecided sought.system ds Other →
        AreAllDecided sought.system ds All
    both_done one two d all asked = elim (covered d all asked) as (λ _. IsDecided ds d) [
      | inl on ↦ one d on asked
      | inr other ↦ two d other asked
    ]

    both_closed : AreAllClosed sought.system ds On → AreAllClosed sought.system ds Other →
        AreAllClosed sought.system ds All
    both_closed one two d all may =
        elim (covered d all (may_is_asked sought.system ds some d may)) as (λ _. IsDecided ds d) [
          | inl on ↦ one d on may
          | inr other ↦ two d other may
        ]

    pub looked_both : (a b r : Look) → Looked sought ds On a → Looked sought ds Other b →
        IsBetter a b r → Looked sought ds All r
    looked_both Done Done r one two is = subst (Looked sought ds All) (sym is) (both_done one two)
    looked_both Done Waits r one two is =
        subst (Looked sought ds All) (sym is)
        (both_closed (done_is_closed On one) two.0, two.1)
    looked_both Done (Goes next count) r one two is = subst (Looked sought ds All) (sym is) two
    looked_both Waits Done r one two is =
        subst (Looked sought ds All) (sym is)
        (both_closed one.0 (done_is_closed Other two), one.1)
    looked_both Waits Waits r one two is =
        subst (Looked sought ds All) (sym is) (both_closed one.0 two.0, one.1)
    looked_both Waits (Goes next count) r one two is = subst (Looked sought ds All) (sym is) two
    looked_both (Goes next count) Done r one two is = subst (Looked sought ds All) (sym is) one
    looked_both (Goes next count) Waits r one two is = subst (Looked sought ds All) (sym is) one
    looked_both (Goes next count) (Goes after other) r one two is =
        elim is as (λ _. Looked sought ds All r) [
          | inl first ↦ subst (Looked sought ds All) (sym first.1) one
          | inr second ↦ subst (Looked sought ds All) (sym second.1) two
        ]

-- where each may be tried, and one leads on, the search goes on with so many of them
pub goes_on_among : (sought : Sought) (ds : List Decision) (point : Point) (of : ℕ)
    (next : Next Point) → ((first : ℕ) → GoesOn sought ds (Choose point of first)) →
    IsAmong point of next → GoesOn sought ds next
goes_on_among sought ds point of next all (inl (none, is)) =
    subst (GoesOn sought ds) (sym is) (λ b leads.
    let low = ((all 0).1 b leads).1 in
    let no : ⊥ = omega (arith, low, none) in no)
goes_on_among sought ds point of next all (inr (inl (one, is))) =
    subst (GoesOn sought ds) (sym is) (
      (all 0).0 0 (omega (arith, one)),
      λ b leads.
          let by = (all 0).1 b leads in
          let low = by.1 in
          let zeroth : by.0 ≡ 0 = omega (arith, low, one) in
          subst (λ a. Leads sought (ds ++ offers sought ds point a ∷ []) b) zeroth by.2,
    )
goes_on_among sought ds point of next all (inr (inr (first, is))) =
    subst (GoesOn sought ds) (sym is) (all first)

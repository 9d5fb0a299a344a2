-- What is left to be decided is what is asked and not decided.
use Rattle.std.proofs.Common.{◌≡◌, ℕ, zero, suc, ◌+◌, ◌⊎◌, Bool, true, false, not, List}
use Rattle.std.proofs.Common.{[], ◌∷◌}
use Rattle.std.proofs.Common.{◌++◌, map, refl, sym, ap, ◌∙◌, subst, inl, inr, arith}
use Rattle.std.specs.Prelude.{Option, Some, None, slice_get, Contains, filter, flat_map, nat_eq}
use Rattle.std.specs.Prelude.{if◌then◌else◌}
use Rattle.std.specs.List.{list_any, enumerate_from}
use Rattle.std.specs.Cmp.Lexicographic.{pointwise}
use Rattle.std.proofs.lemmas.Bool.{eq-eqb}
use Rattle.std.proofs.lemmas.List.Elements.{Contains-append_left, Contains-append_right}
use Rattle.std.proofs.lemmas.List.Elements.{Contains-append_cases}
use Rattle.std.proofs.lemmas.Option.{slice_get-get_or}
use Rattle.rn_value.specs.declared.value.InstRef.TheVariants.{Old}
use Rattle.rn_value.specs.declared.value.Value.TheVariants as Value
use Rattle.rn_model.specs.declared.system.System.{System}
use Rattle.rn_model.specs.declared.system.NetArc.{NetArc}
use Rattle.rn_model.specs.declared.system.Downlink.{Downlink}
use Rattle.rn_model.specs.Derivation.{Hole, arcs_that, finds_values, holes_in, sites_of}
use Rattle.rn_model.specs.Derivation as D
use Rattle.rn_model.proofs.AskedValues.{later, contained_mapped, contained_flat, map_source}
use Rattle.rn_model.proofs.AskedValues.{flat_source}
use Rattle.rn_model.proofs.EnablingLemmas.{not_in_nil}
use Rattle.rn_model.proofs.IndicesInLists.{in_enumerated, from_enumerated}
use Rattle.rn_model.proofs.LiveByRounds.{any_contained, contained_any}
use Rattle.rn_growing.specs.declared.decision.Head.{Head}
use Rattle.rn_growing.specs.declared.decision.Caller.{Caller}
use Rattle.rn_growing.specs.declared.decision.Decision.{Decision}
use Rattle.rn_growing.specs.declared.decision.Decision.TheVariants.{Entered, Found, Computed}
use Rattle.rn_growing.specs.Decisions.{transition_in, site_of}
use Rattle.rn_growing.specs.link.Layouts.{same_site}
use Rattle.rn_growing.specs.Turns.{IsHole, SameThing}
use Rattle.rn_growing.proofs.SameUnknowns.{site_itself, as_site, as_site-is}
use Rattle.rn_growing.proofs.SameUnknowns.{site_of-is}
use Rattle.rn_search.specs.Points.{holes_of, child}
use Rattle.rn_search.specs.Ending.{IsAsked, IsDecided}
use Rattle.rn_search.specs.Room.{on_one_thing, is_undecided}
use Rattle.rn_search.specs.Leaving.{things_of, asked_by, what_is_left, LeftIsAsked, AskedIsLeft}
use Rattle.rn_search.specs.Leaving.{NoneLeftIsDone, LeftOutIsClosed}
use Rattle.rn_search.proofs.Ends.{may_is_asked}
use Rattle.rn_search.proofs.Falling.{one_thing}
use Rattle.rn_search.proofs.Items.{in_filter}
use Rattle.rn_search.proofs.Offered.{at_site}
use Rattle.rn_search.specs.Leaving.{LeftIsNew}
use Rattle.rn_items.proofs.Numbers.{numbers_themselves}

from_if : {X : Type 0} (keeps : Bool) (y x : X) (xs : List X) →
    Contains (if keeps then y ∷ xs else xs) x → ((y ≡ x) × (keeps ≡ true)) ⊎ Contains xs x
from_if true y x xs (zero, h, e) = inl (e, refl)
from_if true y x xs (suc k, h, e) = inr (k, omega (arith, h), e)
from_if false y x xs there = inr there

from_filter : {X : Type 0} (p : X → Bool) (xs : List X) (x : X) → Contains (filter p xs) x →
    Contains xs x × (p x ≡ true)
from_filter p [] x there = absurd (not_in_nil x there)
from_filter p (y ∷ xs) x there =
    elim (from_if (p y) y x (filter p xs) there) as (λ _. Contains (y ∷ xs) x × (p x ≡ true)) [
      | inl first ↦ ((0, omega arith, first.0), ap p (sym first.0) ∙ first.1)
      | inr others ↦
          let rest = from_filter p xs x others in (later y x xs rest.0, rest.1)
    ]

-- decisions on one thing are found so by the test
told : (d e : Decision) → SameThing d e → on_one_thing d e ≡ true
told (Entered h c) (Entered o f) same =
    subst (λ p. pointwise nat_eq h.path p ≡ true) same (numbers_themselves h.path)
told (Found h k v) (Found o j w) same =
    let paths : pointwise nat_eq h.path o.path ≡ true =
    subst (λ p. pointwise nat_eq h.path p ≡ true) same.0 (numbers_themselves h.path) in
    rw (paths, eq-eqb k j same.1) refl
told (Computed h s w v) (Computed o t u x) same =
    let paths : pointwise nat_eq h.path o.path ≡ true =
    subst (λ p. pointwise nat_eq h.path p ≡ true) same.0 (numbers_themselves h.path) in
    let sites : s ≡ t = sym (site_of-is s) ∙ ap as_site same.1 ∙ site_of-is t in
    let here : same_site s t ≡ true = subst (λ z. same_site s z ≡ true) sites (site_itself s) in
    let ways : pointwise nat_eq w u ≡ true =
    subst (λ p. pointwise nat_eq w p ≡ true) same.2 (numbers_themselves w) in
    rw (paths, here, ways) refl
told (Entered h c) (Found o j w) same = absurd same
told (Entered h c) (Computed o t u x) same = absurd same
told (Found h k v) (Entered o f) same = absurd same
told (Found h k v) (Computed o t u x) same = absurd same
told (Computed h s w v) (Entered o f) same = absurd same
told (Computed h s w v) (Found o j x) same = absurd same

module _ (system : System) where
  abbrev founds : Head → List Decision
  founds head = map (λ e. Found head e.0 (Value.Tuple []))
      (arcs_that finds_values (transition_in system head))

  abbrev results : Head → List Decision
  results head = map (λ hole. Computed head (as_site hole.0) hole.1.way (Value.Tuple []))
      (holes_of (transition_in system head))

  abbrev children : Head → List Decision
  children head =
      map (λ e. child head e.0 (Old 0) 0 0) (enumerate_from 0 (transition_in system
      head).downlinks)

  -- each thing that is asked is listed
  abbrev IsListed : List Decision → Decision → Type 0
  IsListed ds d = (t : Decision) × Contains (flat_map (asked_by system) ds) t
      × (on_one_thing t d ≡ true)

  of_entered : (ds : List Decision) (head : Head) (caller : Option Caller) (t : Decision) →
      Contains ds (Entered head caller) → Contains (things_of system head) t →
      Contains (flat_map (asked_by system) ds) t
  of_entered ds head caller t there is =
      contained_flat (asked_by system) ds (Entered head caller) t there is

  listed : (ds : List Decision) (d : Decision) → IsAsked system ds d → IsListed ds d
  listed ds (Entered head None) asked = absurd asked
  listed ds (Entered head (Some from)) (entered, (downlink, at, path)) =
      let i = from.downlink in
      let links = (transition_in system from.head).downlinks in
      let place : 0 + i ≡ i = omega arith in
      let t : Decision = child from.head i (Old 0) 0 0 in
      let numbered = subst (λ j. Contains (enumerate_from 0 links) (j, downlink)) place
      (in_enumerated 0 links i downlink at) in
      let mapped = contained_mapped (λ (e : ℕ × Downlink). child from.head e.0 (Old 0) 0 0)
      (enumerate_from 0 links) (i, downlink) numbered in (
        t,
        of_entered ds from.head entered.0 t entered.1
            (Contains-append_right (founds from.head ++ results from.head) (children from.head) t
            mapped),
        subst (λ p. pointwise nat_eq (from.head.path ++ i ∷ []) p ≡ true) (sym path)
            (numbers_themselves (from.head.path ++ i ∷ [])),
      )
  listed ds (Found head k v) (entered, (x, at, finds)) =
      let arcs = (transition_in system head).arcs in
      let place : 0 + k ≡ k = omega arith in
      let t : Decision = Found head k (Value.Tuple []) in
      let numbered = subst (λ j. Contains (enumerate_from 0 arcs) (j, x)) place
      (in_enumerated 0 arcs k x at) in
      let kept = in_filter (λ (e : ℕ × NetArc). finds_values e.1.kind) (enumerate_from 0 arcs)
      (k, x)
      numbered finds in
      let mapped = contained_mapped (λ (e : ℕ × NetArc). Found head e.0 (Value.Tuple []))
      (arcs_that finds_values (transition_in system head)) (k, x) kept in (
        t,
        of_entered ds head entered.0 t entered.1
            (Contains-append_left (founds head ++ results head) (children head) t
            (Contains-append_left (founds head) (results head) t mapped)),
        rw (numbers_themselves head.path, eq-eqb k k refl) refl,
      )
  listed ds (Computed head site way v) (entered, (hole, way_is, is)) =
      let tr = transition_in system head in
      let t : Decision = Computed head (as_site (site_of site)) hole.way (Value.Tuple []) in
      let of_site = contained_mapped (λ (h : Hole). (site_of site, h)) (holes_in is.0) hole is.2 in
      let in_holes = contained_flat (λ s. map (λ (h : Hole). (s.0, h)) (holes_in s.1))
      (sites_of tr)
      (site_of site, is.0) (site_of site, hole) is.1 of_site in
      let mapped = contained_mapped
      (λ (e : D.Site × Hole). Computed head (as_site e.0) e.1.way (Value.Tuple [])) (holes_of tr)
      (site_of site, hole) in_holes in
      let sites : same_site (as_site (site_of site)) site ≡ true =
      subst (λ s. same_site s site ≡ true) (sym (site_of-is site)) (site_itself site) in
      let ways : pointwise nat_eq hole.way way ≡ true =
      subst (λ w. pointwise nat_eq hole.way w ≡ true) way_is (numbers_themselves hole.way) in (
        t,
        of_entered ds head entered.0 t entered.1
            (Contains-append_left (founds head ++ results head) (children head) t
            (Contains-append_right (founds head) (results head) t mapped)),
        rw (numbers_themselves head.path, sites, ways) refl,
      )

  hole_there : (head : Head) (hole : D.Site × Hole) →
      Contains (holes_of (transition_in system head)) hole →
      IsHole system head (site_of (as_site hole.0)) hole.1
  hole_there head hole (k, h, e) =
      let t = transition_in system head in
      let at : slice_get (holes_of t) k ≡ Some hole =
      slice_get-get_or (holes_of t) k hole h ∙ ap Some e in
      subst (λ s. IsHole system head s hole.1) (sym (as_site-is hole.0)) (at_site t k hole at)

  same_left : (d e t : Decision) → on_one_thing t d ≡ true → on_one_thing t e ≡ true →
      SameThing d e
  same_left d e t a b = one_thing t e d b a

  -- what stands in the list is asked
  asks : (ds : List Decision) (head : Head) (caller : Option Caller) (d : Decision) →
      Contains ds (Entered head caller) → Contains (things_of system head) d → IsAsked system ds d
  asks ds head caller d there is =
      elim (Contains-append_cases (founds head ++ results head) (children head) d is) as
      (λ _. IsAsked system ds d) [
        | inl front ↦
            elim (Contains-append_cases (founds head) (results head) d front) as
            (λ _. IsAsked system ds d) [
              | inl one ↦
                  let e = map_source (λ (e : ℕ × NetArc). Found head e.0 (Value.Tuple []))
                  (arcs_that finds_values (transition_in system head)) d one in
                  let kept = from_filter (λ (e : ℕ × NetArc). finds_values e.1.kind)
                  (enumerate_from 0 (transition_in system head).arcs) e.0 e.1 in
                  let at = from_enumerated 0 (transition_in system head).arcs e.0 kept.0 in
                  let place : e.0.0 ≡ at.0 = let p = at.1 in omega (arith, p) in
                  subst (IsAsked system ds) e.2 (
                    (caller, there),
                    (
                      e.0.1,
                      ap (slice_get (transition_in system head).arcs) place
                          ∙ at.2,
                      kept.1,
                    ),
                  )
              | inr two ↦
                  let e = map_source
                  (λ (e : D.Site × Hole). Computed head (as_site e.0) e.1.way (Value.Tuple []))
                  (holes_of (transition_in system head)) d two in
                  let is_hole = hole_there head e.0 e.1 in
                  subst (IsAsked system ds) e.2 ((caller, there), (e.0.1, refl, is_hole))
            ]
        | inr last ↦
            let e = map_source (λ (e : ℕ × Downlink). child head e.0 (Old 0) 0 0)
            (enumerate_from 0 (transition_in system head).downlinks) d last in
            let at = from_enumerated 0 (transition_in system head).downlinks e.0 e.1 in
            let place : e.0.0 ≡ at.0 = let p = at.1 in omega (arith, p) in
            subst (IsAsked system ds) e.2 (
              (caller, there),
              (
                e.0.1,
                ap (slice_get (transition_in system head).downlinks) place
                    ∙ at.2,
                refl,
              ),
            )
      ]

by_decision : (system : System) (ds : List Decision) (e d : Decision) → Contains ds e →
    Contains (asked_by system e) d → IsAsked system ds d
by_decision system ds (Entered head caller) d there is = asks system ds head caller d there is
by_decision system ds (Found head k v) d there is = absurd (not_in_nil d is)
by_decision system ds (Computed head site way v) d there is = absurd (not_in_nil d is)

itself : (d : Decision) → SameThing d d
itself (Entered head caller) = refl
itself (Found head k v) = (refl, refl)
itself (Computed head site way v) = (refl, refl, refl)

pub left_is_asked : LeftIsAsked
left_is_asked system ds d left =
    let kept = from_filter (is_undecided ds) (flat_map (asked_by system) ds) d left in
    let by = flat_source (asked_by system) ds d kept.0 in (
      by_decision system ds by.0 d by.1 by.2,
      λ decided.
          let some = contained_any (on_one_thing d) ds decided.0 decided.1
          (told d decided.0 decided.2) in
          let both : false ≡ true = ap not (sym some) ∙ kept.1 in
          let no : ⊥ = cc in no,
    )

pub asked_is_left : AskedIsLeft
asked_is_left system ds d asked =
    let t = listed system ds d asked in
    elim (list_any (on_one_thing t.0) ds) as
    (λ any. list_any (on_one_thing t.0) ds ≡ any → IsDecided ds d ⊎ ((e : Decision) ×
    Contains (what_is_left system ds) e × SameThing d e)) [
      | true ↦ λ e.
          let one = any_contained (on_one_thing t.0) ds e in
          inl (one.0, one.1, same_left system d one.0 t.0 t.2 one.2)
      | false ↦ λ e.
          inr (
            t.0,
            in_filter (is_undecided ds) (flat_map (asked_by system) ds) t.0 t.1 (ap not e),
            same_left system d t.0 t.0 t.2 (told t.0 t.0 (itself t.0)),
          )
    ] refl

pub none_left_is_done : NoneLeftIsDone
none_left_is_done system ds none d asked =
    elim (asked_is_left system ds d asked) as (λ _. IsDecided ds d) [
      | inl decided ↦ decided
      | inr left ↦ absurd (not_in_nil left.0 (subst (λ es. Contains es left.0) none left.1))
    ]

pub left_out_is_closed : LeftOutIsClosed
left_out_is_closed system ds some out d may =
    elim (asked_is_left system ds d (may_is_asked system ds some d may)) as (λ _. IsDecided ds d) [
      | inl decided ↦ decided
      | inr left ↦ absurd (out left.0 d left.1 left.2 may)
    ]

-- being on one thing goes both ways, and on
turned : (d e : Decision) → SameThing d e → SameThing e d
turned d e same = one_thing d d e (told d d (itself d)) (told d e same)

pub left_is_new : LeftIsNew
left_is_new system ds t d left same e there again =
    let kept = from_filter (is_undecided ds) (flat_map (asked_by system) ds) t left in
    let on : SameThing t e =
    one_thing d e t (told d e (turned e d again)) (told d t same) in
    let some = contained_any (on_one_thing t) ds e there (told t e on) in
    let both : false ≡ true = ap not (sym some) ∙ kept.1 in
    let no : ⊥ = cc in no

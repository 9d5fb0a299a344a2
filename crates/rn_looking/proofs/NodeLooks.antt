-- What is asked of a node, and of all nodes that were entered.
use Rattle.std.proofs.Common.{◌≡◌, ℕ, ◌+◌, ◌<◌, ◌⊎◌, List, get_or, length, map, refl, sym, ap}
use Rattle.std.proofs.Common.{◌∙◌, subst, inl, inr, arith}
use Rattle.std.specs.Prelude.{Option, Some, None, slice_get}
use Rattle.std.proofs.Math.Nat.{eq-or-lt_of_le}
use Rattle.std.proofs.lemmas.Option.{slice_get-get_or, slice_get_within}
use Rattle.rn_model.specs.declared.system.System.{System}
use Rattle.rn_model.specs.declared.system.Transition.{Transition}
use Rattle.rn_model.specs.Derivation.{Hole, holes_in, sites_of}
use Rattle.rn_model.specs.Derivation as D
use Rattle.rn_model.proofs.AskedValues.{contained_flat, contained_mapped}
use Rattle.rn_growing.specs.declared.decision.Head.{Head}
use Rattle.rn_growing.specs.declared.decision.Caller.{Caller}
use Rattle.rn_growing.specs.declared.decision.Decision.{Decision}
use Rattle.rn_growing.specs.declared.decision.Decision.TheVariants.{Entered, Found, Computed}
use Rattle.rn_growing.specs.Decisions.{site_of, transition_in}
use Rattle.rn_growing.proofs.Growth.{some_equal, stands_at}
use Rattle.rn_search.specs.Ending.{IsAsked}
use Rattle.rn_search.specs.Points.{holes_of, node_on}
use Rattle.rn_looking.specs.Things.{IsOfNode, IsOfEntry, IsOfEntries, IsOnArc, IsOnArcs, IsOnCall}
use Rattle.rn_looking.specs.Things.{IsOnCalls, IsOnHoles}

-- what is asked of a node is of its operator applications or arcs, or of its calls
abbrev pub IsOfValues : Transition → Head → Decision → Type 0
IsOfValues t head d =
    IsOnHoles t head (length (holes_of t)) d ⊎ IsOnArcs head (length t.arcs) d

module _ (system : System) (ds : List Decision) (head : Head) (t : Transition)
    (its : t ≡ transition_in system head) where
  pub node_is_covered : (d : Decision) → IsOfNode head d → IsAsked system ds d →
      IsOfValues t head d ⊎ IsOnCalls head (length t.downlinks) d
  node_is_covered (Entered child None) of asked = absurd of
  node_is_covered (Entered child (Some from)) of (entered, (downlink, there, path)) =
      let low = slice_get_within (transition_in system from.head).downlinks from.downlink
      downlink there in
      inr (
        of,
        subst (λ u. from.downlink < length u.downlinks)
            (ap (transition_in system) of ∙ sym its) low,
      )
  node_is_covered (Found other k v) of (entered, (x, there, finds)) =
      let low = slice_get_within (transition_in system other).arcs k x there in
      inl (inr (of, subst (λ u. k < length u.arcs) (ap (transition_in system) of ∙ sym its) low))
  node_is_covered (Computed other site way v) of (entered, (hole, way_is, is)) =
      let u = transition_in system other in
      let of_site = contained_mapped (λ (h : Hole). (site_of site, h)) (holes_in is.0) hole is.2 in
      let listed = contained_flat (λ s. map (λ (h : Hole). (s.0, h)) (holes_in s.1)) (sites_of u)
      (site_of site, is.0) (site_of site, hole) is.1 of_site in
      let whole : D.Site × Hole = (site_of site, hole) in
      let at : slice_get (holes_of u) listed.0 ≡ Some whole =
      slice_get-get_or (holes_of u) listed.0 whole listed.1 ∙ ap Some listed.2 in
      let same : u ≡ t = ap (transition_in system) of ∙ sym its in
      inl (inl (
        listed.0,
        subst (λ w. listed.0 < length (holes_of w)) same listed.1,
        (
          of,
          (
            whole,
            subst (λ w. slice_get (holes_of w) listed.0 ≡ Some whole) same at,
            refl,
            sym way_is,
          ),
        ),
      ))

next_below : (j k : ℕ) → j < k + 1 → (j < k) ⊎ (j ≡ k)
next_below j k low = elim (eq-or-lt_of_le {n = j} {m = k} (omega (arith, low))) [
  | inl same ↦ inr same
  | inr less ↦ inl less
]

-- One more arc, call or node is the last of those.
pub one_more_arc : (head : Head) (k : ℕ) (d : Decision) → IsOnArcs head (k + 1) d →
    IsOnArcs head k d ⊎ IsOnArc head k d
one_more_arc head k (Found other j v) (same, low) =
    elim (next_below j k low) [
      | inl less ↦ inl (same, less)
      | inr last ↦ inr (same, last)
    ]
one_more_arc head k (Entered child caller) on = absurd on
one_more_arc head k (Computed other site way v) on = absurd on

pub one_more_call : (head : Head) (i : ℕ) (d : Decision) → IsOnCalls head (i + 1) d →
    IsOnCalls head i d ⊎ IsOnCall head i d
one_more_call head i (Entered child (Some from)) (same, low) =
    elim (next_below from.downlink i low) [
      | inl less ↦ inl (same, less)
      | inr last ↦ inr (same, last)
    ]
one_more_call head i (Entered child None) on = absurd on
one_more_call head i (Found other j v) on = absurd on
one_more_call head i (Computed other site way v) on = absurd on

pub one_more_entry : (ds : List Decision) (n : ℕ) (d : Decision) → IsOfEntries ds (n + 1) d →
    IsOfEntries ds n d ⊎ IsOfEntry ds n d
one_more_entry ds n d (k, low, of) =
    elim (next_below k n low) [
      | inl less ↦ inl (k, less, of)
      | inr last ↦ inr (subst (λ j. IsOfEntry ds j d) last of)
    ]

-- Nothing is of no arcs, calls or nodes,
pub no_arcs : (head : Head) (d : Decision) → IsOnArcs head 0 d → ⊥
no_arcs head (Found other j v) (same, low) = let no : ⊥ = omega (arith, low) in no
no_arcs head (Entered child caller) on = on
no_arcs head (Computed other site way v) on = on

pub no_calls : (head : Head) (d : Decision) → IsOnCalls head 0 d → ⊥
no_calls head (Entered child (Some from)) (same, low) = let no : ⊥ = omega (arith, low) in no
no_calls head (Entered child None) on = on
no_calls head (Found other j v) on = on
no_calls head (Computed other site way v) on = on

-- nor of a decision that enters none.
pub enters_none : (ds : List Decision) (k : ℕ) (e : Decision) → slice_get ds k ≡ Some e →
    ((head : Head) (caller : Option Caller) → e ≡ Entered head caller → ⊥) → (d : Decision) →
    IsOfEntry ds k d → ⊥
enters_none ds k e at never d (head, (caller, there, of)) =
    never head caller (some_equal e (Entered head caller) (sym at ∙ there))

-- what is of an entry is of its node
pub of_its_node : (ds : List Decision) (k : ℕ) (head : Head) (caller : Option Caller) →
    slice_get ds k ≡ Some (Entered head caller) → (d : Decision) → IsOfEntry ds k d →
    IsOfNode head d
of_its_node ds k head caller at d (other, (from, there, of)) =
    subst (λ h. IsOfNode h d)
    (ap node_on (some_equal (Entered other from) (Entered head caller) (sym there ∙ at))) of

-- the decision that was read at an index
pub entered_at : (ds es : List Decision) (k : ℕ) (d : Decision) (head : Head)
    (caller : Option Caller) → es ≡ ds → k < length ds → d ≡ get_or es k d →
    d ≡ Entered head caller → slice_get ds k ≡ Some (Entered head caller)
entered_at ds es k d head caller same low is enters =
    stands_at ds k d low (subst (λ xs. d ≡ get_or xs k d) same is) ∙ ap Some enters

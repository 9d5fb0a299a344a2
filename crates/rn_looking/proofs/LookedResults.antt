-- What a look at an operator application of a node says.
use Rattle.std.proofs.Common.{◌≡◌, ℕ, ℤ, ◌<◌, Bool, true, false, List, [], ◌∷◌, ◌++◌, refl, sym, ap, ◌∙◌}
use Rattle.std.proofs.Common.{◌+◌, ◌⊎◌, inl, inr, subst, arith}
use Rattle.std.specs.Prelude.{Option, Some, None, All, Contains, slice_get, nat_lt}
use Rattle.std.specs.List.{list_any}
use Rattle.std.proofs.lemmas.Bool.Decides.{nat_tests}
use Rattle.std.proofs.lemmas.List.Elements.{All-contains, All-contains_itself}
use Rattle.rn_choices.specs.declared.next.Next.TheVariants.{Stuck, Forced}
use Rattle.rn_value.specs.declared.value.Value.{Value, out-Value}
use Rattle.rn_value.specs.declared.value.Value.TheOpen as O
use Rattle.rn_value.specs.declared.value.Value.TheVariants as V
use Rattle.rn_model.specs.declared.binding.Binding.{Binding}
use Rattle.rn_model.specs.declared.expr.Expr.{Expr}
use Rattle.rn_model.specs.declared.system.Transition.{Transition}
use Rattle.rn_model.specs.Derivation.{Hole, holes_in, sites_of}
use Rattle.rn_model.specs.Derivation as D
use Rattle.rn_model.specs.Evaluation.{Env, worth}
use Rattle.rn_model.specs.Systems.{vars_in}
use Rattle.rn_model.proofs.Rounds.{all_more}
use Rattle.rn_growing.specs.declared.decision.Site.{Site}
use Rattle.rn_growing.specs.declared.decision.Head.{Head}
use Rattle.rn_growing.specs.declared.decision.Decision.{Decision}
use Rattle.rn_growing.specs.declared.decision.Decision.TheVariants.{Entered, Found, Computed}
use Rattle.rn_growing.specs.Decided.{computes}
use Rattle.rn_growing.specs.Decisions.{site_of, transition_in}
use Rattle.rn_growing.specs.Equations.{IsForced}
use Rattle.rn_growing.specs.Grown.{Grown, IsNew}
use Rattle.rn_growing.specs.Turns.{IsEntered, IsHole, MayCome}
use Rattle.rn_growing.proofs.Growth.{some_equal}
use Rattle.rn_growing.proofs.NewThings.{new_values}
use Rattle.rn_growing.proofs.SameUnknowns.{as_site, site_of-is}
use Rattle.rn_growing.proofs.SoundItems.{one_hole}
use Rattle.rn_search.specs.declared.point.Point.TheVariants as P
use Rattle.rn_search.specs.Ending.{IsAsked, IsDecided}
use Rattle.rn_search.specs.Missing.{IsKnown}
use Rattle.rn_search.specs.Points.{holes_of, node_of, offers}
use Rattle.rn_search.specs.Sought.{Sought, Leads}
use Rattle.rn_search.proofs.Allowed.{results_are_allowed}
use Rattle.rn_search.proofs.Offered.{at_site, results_are_offered}
use Rattle.rn_looking.specs.Branches.{IsLookedAt}
use Rattle.rn_looking.specs.Forced.{IsVarForcedIn, Knows}
use Rattle.rn_looking.specs.Looks.{AreAllDecided, AreAllClosed, IsOneLeft, GoesOn}
use Rattle.rn_looking.specs.Things.{IsOnHole, IsOnHoles}
use Rattle.rn_looking.proofs.DecidedThings.{was_computed, new_is_open}
use Rattle.rn_looking.proofs.LookedAt.{some, node_is, entered, known_by, vars_searched}
use Rattle.rn_looking.proofs.VarsOfForms.{hole_vars, site_searched}

int_in : O.Value-F Value → Option ℤ
int_in (O.Int n) = Some n
int_in _ = None

same_int : (m n : ℤ) → V.Int m ≡ V.Int n → m ≡ n
unfolding int_in
same_int m n e =
    let is : (k : ℤ) → int_in (out-Value (V.Int k)) ≡ Some k = λ k. rw (V.outs-Int k) in
    some_equal m n (sym (is m) ∙ ap (λ v. int_in (out-Value v)) e ∙ is n)

-- what a test at the same path and way answers
pub answers : (answer b : Bool) (ds : List Decision) (p path w way : List ℕ) (site : Site) →
    answer ≡ list_any (computes p site w) ds → p ≡ path → w ≡ way → answer ≡ b →
    list_any (computes path site way) ds ≡ b
answers answer b ds p path w way site is path_is way_is e =
    ap (λ q. list_any (computes q site way) ds) (sym path_is)
    ∙ ap (λ v. list_any (computes p site v) ds) (sym way_is) ∙ sym is ∙ e

-- the operator application at an index, by its site and way
module _ (sought : Sought) (g : Grown) (node : ℕ) (head : Head) (t : Transition) (k : ℕ)
    (site : Site) (way : List ℕ) (form : Expr) (at : IsLookedAt sought g node head t)
    (is : slice_get (holes_of t) k ≡ Some (site_of site, record { way = way; form = form })) where
  abbrev ds : List Decision
  ds = g.decisions

  abbrev its : D.Site × Hole
  its = (site_of site, record { way = way; form = form })

  of_site : (e : Expr) × Contains (sites_of t) (site_of site, e) × Contains (holes_in e) its.1
  of_site = at_site t k its is

  its_hole : IsHole sought.system head (site_of site) its.1
  its_hole = subst (λ u. (e : Expr) × Contains (sites_of u) (site_of site, e) ×
      Contains (holes_in e) its.1) at.transition of_site

  asked : (v : Value) → IsAsked sought.system ds (Computed head site way v)
  asked v = (entered sought g node head t at, (its.1, refl, its_hole))

  -- the decisions on it
  on_it : (d : Decision) → IsOnHole t head k d → (v : Value) × (Computed head site way v ≡ d)
  on_it (Entered other from) on = absurd on
  on_it (Found other j v) on = absurd on
  on_it (Computed other spot along v) (head_is, (hole, here, site_is, way_is)) =
      let same : hole ≡ its = some_equal hole its (sym here ∙ is) in
      let sites : spot ≡ site =
      sym (site_of-is spot) ∙ ap as_site (site_is ∙ ap (λ h. h.0) same) ∙ site_of-is site in
      let ways : along ≡ way = way_is ∙ ap (λ h. h.1.way) same in
      (v, cc)

  pub is_done : list_any (computes head.path site way) ds ≡ true →
      AreAllDecided sought.system ds (IsOnHole t head k)
  is_done any d on _ =
      let v = on_it d on in subst (IsDecided ds) v.1 (was_computed ds head site way v.0 any)

  module _ (none : list_any (computes head.path site way) ds ≡ false) where
    its_fresh : (v : Value) → IsNew ds (Computed head site way v)
    its_fresh v = (new_values ds head site way v).1 none

    -- where a variable of it isn't forced
    pub waits : ¬ All (IsVarForcedIn g head.path) (vars_in form) →
        AreAllClosed sought.system ds (IsOnHole t head k) × IsOneLeft sought.system ds
    waits unforced =
        let v : Value = V.Tuple [] in (
          λ d on may.
              let w = on_it d on in
              absurd (closed w.0 (subst (MayCome sought.system ds) (sym w.1) may)),
          (
            Computed head site way v,
            asked v,
            new_is_open ds (Computed head site way v)
                (its_fresh v),
          ),
        )
      where
        closed : (v : Value) → MayCome sought.system ds (Computed head site way v) → ⊥
        closed v (there, (hole, way_is, of, forced)) =
            let same : hole ≡ its.1 =
            one_hole (transition_in sought.system head) (site_of site) of.0 its_hole.0 hole its.1
            of.1 of.2 its_hole.1 its_hole.2 way_is in
            unforced
            (subst (λ system. All (λ x. IsForced system ds (λ a. Some (a.var head.path x)))
            (vars_in form)) (sym at.branch.system)
            (subst (λ h. All (λ x. IsForced sought.system ds (λ a. Some (a.var head.path x)))
            (vars_in h.form)) same forced))

    -- where all of them are
    module _ (env : Env) (knows : Knows g head form env) where
      abbrev its_node : Head
      its_node = node_of sought ds node

      its_known : IsKnown sought.system ds its_node form env
      its_known =
          known_by sought g node head t at form env
          (all_more (Contains (vars_in form)) (Contains t.vars) (vars_in form) (λ x occurs.
          All-contains (Contains t.vars) (vars_in of_site.0) x
          (vars_searched sought g node head t at of_site.0
          (site_searched t (site_of site, of_site.0) of_site.1))
          (hole_vars of_site.0 its.1 of_site.2 x occurs)) (All-contains_itself (vars_in form)))
          knows

      there : slice_get (holes_of (transition_in sought.system its_node)) k ≡ Some its
      there =
          subst (λ u. slice_get (holes_of u) k ≡ Some its)
          (at.transition
          ∙ ap (transition_in sought.system) (sym (node_is sought g node head t at))) is

      it_leads : (b : Binding) → Leads sought ds b → (n : ℤ) × (worth form env ≡ Some (V.Int n))
          × Leads sought (ds ++ offers sought ds (P.Result node k n) 0 ∷ []) b
      it_leads b leads =
          results_are_offered sought ds b node k its env leads at.branch.sound.turns
          (some sought g node head t at) there its_known

      pub goes : (n : ℤ) → worth form env ≡ Some (V.Int n) →
          GoesOn sought ds (Forced (P.Result node k n))
      goes n value = (
        results_are_allowed sought ds node k 0 n its env at.branch.sound
            (subst (IsEntered ds) (sym (node_is sought g node head t at))
            (entered sought g node head t at)) there its_known value
            (λ v. subst (λ h. IsNew ds (Computed h (as_site its.0) way v))
            (sym (node_is sought g node head t at))
            (subst (λ s. IsNew ds (Computed head s way v)) (sym (site_of-is site))
            (its_fresh v))),
        λ b leads.
            let m = it_leads b leads in
            let same : m.0 ≡ n =
            same_int m.0 n (some_equal (V.Int m.0) (V.Int n) (sym m.1 ∙ value)) in
            subst (λ z. Leads sought (ds ++ offers sought ds (P.Result node k z) 0 ∷ []) b) same
            m.2,
      )

      pub stuck : ((n : ℤ) → worth form env ≡ Some (V.Int n) → ⊥) → GoesOn sought ds Stuck
      stuck never b leads = let m = it_leads b leads in never m.0 m.1

pub one_more_hole : (t : Transition) (head : Head) (n : ℕ) (d : Decision) →
    IsOnHoles t head (n + 1) d → IsOnHoles t head n d ⊎ IsOnHole t head n d
one_more_hole t head n d (k, low, on) =
    elim (nat_lt k n) as
    (λ b. nat_lt k n ≡ b → IsOnHoles t head n d ⊎ IsOnHole t head n d) [
      | true ↦ λ e. let below : k < n = grind (arith, nat_tests) in inl (k, below, on)
      | false ↦ λ e.
          let last : k ≡ n = grind (arith, nat_tests) in
          inr (subst (λ j. IsOnHole t head j d) last on)
    ] refl

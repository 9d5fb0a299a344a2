-- Tokens of an arc by which nothing goes on: those that are taken as often as they are there, and
-- those by which a guard isn't true.
use Rattle.std.proofs.Common.{◌≡◌, ℕ, zero, suc, ◌+◌, ◌<◌, true, false, List, [], ◌∷◌, ◌++◌, map}
use Rattle.std.proofs.Common.{length, refl, sym, ap, ◌∙◌, subst, arith, length-append, ◌⊎◌, inl, inr}
use Rattle.std.specs.Prelude.{Option, Some, None, All, Contains, slice_get, option_map, unwrap_or}
use Rattle.std.specs.Prelude.{nat_eq, if◌then◌else◌}
use Rattle.std.proofs.lemmas.Bool.{eqb-true, eq-eqb}
use Rattle.std.proofs.lemmas.Grind.{flat_map-append}
use Rattle.rn_value.specs.declared.value.Value.{Value}
use Rattle.rn_model.specs.declared.binding.Binding.{Binding}
use Rattle.rn_model.specs.declared.expr.Expr.TheVariants as E
use Rattle.rn_model.specs.declared.system.NetArc.{NetArc}
use Rattle.rn_model.specs.Demands.{takes}
use Rattle.rn_model.specs.Derivation.{arc}
use Rattle.rn_model.specs.Evaluation.{Env}
use Rattle.rn_model.specs.Good.{Good}
use Rattle.rn_model.specs.Lists.{count_of, value_beside}
use Rattle.rn_model.specs.Markings.{tokens}
use Rattle.rn_model.proofs.AskedValues.{is_counted}
use Rattle.rn_model.proofs.DerivationLemmas.{term_value-Var}
use Rattle.rn_table.proofs.ChangeLemmas.{count_append}
use Rattle.rn_growing.specs.declared.decision.Decision.{Decision}
use Rattle.rn_growing.specs.declared.decision.Decision.TheVariants.{Entered, Found}
use Rattle.rn_growing.specs.Decisions.{transition_in}
use Rattle.rn_growing.specs.Equations.{IsSolvable, read_at}
use Rattle.rn_growing.specs.Grown.{Grown, with_decision}
use Rattle.rn_growing.proofs.Growth.{contains_last, some_equal}
use Rattle.rn_growing.proofs.MoreDecisions.{forced_by_more}
use Rattle.rn_search.specs.declared.point.Point.{Point}
use Rattle.rn_search.specs.declared.point.Point.TheVariants as P
use Rattle.rn_search.specs.Allowing.{Allows}
use Rattle.rn_search.specs.Points.{first_token, node_of, node_on, nowhere, offered, tokens_of}
use Rattle.rn_search.specs.Problems.{HasFitTokens}
use Rattle.rn_search.specs.Sought.{Sought, Leads}
use Rattle.rn_search.specs.Standing.{AreSound, MayBeMade}
use Rattle.rn_search.specs.Taking.{taken_by, taken_so_far}
use Rattle.rn_search.proofs.Alternatives.{first_is, from_map}
use Rattle.rn_search.proofs.Offered.{leading_is_solvable}
use Rattle.rn_search.proofs.Sound.{sound_by_one}
use Rattle.rn_search.proofs.Takes.{taken_are_there}
use Rattle.rn_branch.specs.declared.offer.Offer.{Offer}
use Rattle.rn_looking.specs.Branches.{IsBranchOf, IsLookedAt}
use Rattle.rn_looking.specs.Forced.{IsVarForcedTo}
use Rattle.rn_looking.specs.Guards.{KnowsGuard}
use Rattle.rn_branch.specs.Offers.{IsOffer, IsTakenUp, NoneLeadBy}
use Rattle.rn_branch.specs.Testing.{FailsGuard}
use Rattle.rn_looking.proofs.GuardLooks.{among_vars, untrue_is_stuck}
use Rattle.rn_looking.proofs.KnownValues.{has_its_value}
use Rattle.rn_branch.proofs.Pushing.{none_offered, stands_after}
use Rattle.rn_branch.proofs.TakenTokens.{its_taking}

stays_in_front : {A : Type 0} (xs ys : List A) (k : ℕ) (x : A) → slice_get xs k ≡ Some x →
    slice_get (xs ++ ys) k ≡ Some x
stays_in_front [] ys k x at = absurd (let no : ⊥ = cc in no)
stays_in_front (z ∷ xs) ys zero x at = at
stays_in_front (z ∷ xs) ys (suc k) x at = stays_in_front xs ys k x at

-- the token at an index of the place of a node's arc, as an alternative of the arc
module _ (sought : Sought) (g : Grown) (branch : IsBranchOf sought g) (node k from a : ℕ)
    (o : Offer) (is : IsOffer sought g.decisions node k (from + a) o)
    (allows : Allows sought g.decisions (P.Token node k from) a) where
  abbrev point : Point
  point = P.Token node k from

  abbrev v : Value
  v = o.token.now

  abbrev d : Decision
  d = Found o.head.now k v

  abbrev more : List Decision
  more = g.decisions ++ d ∷ []

  -- It is this decision, if it is one.
  head_is : node_of sought g.decisions node ≡ o.head.now
  head_is = ap (λ e. unwrap_or (option_map node_on e) sought.start) is.entry

  arc_is : slice_get (transition_in sought.system o.head.now).arcs k ≡ Some o.arc.now
  arc_is = ap (λ t. slice_get t.arcs k) (sym is.within) ∙ is.there

  held_is : tokens_of sought o.head.now k ≡ o.held.now
  held_is =
      ap (λ e. unwrap_or (option_map
      (λ (x : NetArc). tokens sought.marking o.head.now.inst x.place) e) []) arc_is ∙ sym is.all

  decision_is : (e : Decision) → offered sought g.decisions point a ≡ Some e → e ≡ d
  decision_is e some =
      let itself = node_of sought g.decisions node in
      let w = from_map (λ w. Found itself k w) (first_token (tokens_of sought itself k) (from + a))
      e some in
      let first = first_is (tokens_of sought itself k) (from + a) w.0 w.1 in
      let at : slice_get o.held.now (from + a) ≡ Some w.0 =
      subst (λ ts. slice_get ts (from + a) ≡ Some w.0) held_is
      (subst (λ h. slice_get (tokens_of sought h k) (from + a) ≡ Some w.0) head_is first.0) in
      let same : w.0 ≡ v = some_equal w.0 v (sym at ∙ is.at) in
      sym w.2 ∙ ap (λ h. Found h k w.0) head_is ∙ ap (λ u. Found o.head.now k u) same

  -- So nothing goes on by it where nothing follows that.
  by_decision : (MayBeMade sought.system sought.marking sought.depth g.decisions d →
      offered sought g.decisions point a ≡ Some d → (b : Binding) → Leads sought more b → ⊥) →
      NoneLeadBy sought g.decisions point a
  by_decision never = by (offered sought g.decisions point a) refl
    where
      by : (told : Option Decision) → offered sought g.decisions point a ≡ told →
          NoneLeadBy sought g.decisions point a
      by None none b leads = none_offered sought g branch point a none b leads
      by (Some e) some b leads =
          let it = some ∙ ap Some (decision_is e some) in
          never (allows d it) it b
          (subst (λ f. Leads sought (g.decisions ++ f ∷ []) b)
          (ap (λ t. unwrap_or t (nowhere sought.system)) it) leads)

  sound_with : MayBeMade sought.system sought.marking sought.depth g.decisions d →
      AreSound sought.system sought.marking sought.depth more
  sound_with may =
      sound_by_one sought.system sought.marking sought.depth g.decisions d branch.sound may

  -- What takes more than is there leads to nothing.
  abbrev taking : List Decision → List Value
  taking = taken_so_far sought.system o.head.now.inst o.arc.now.place

  taken_by_it : takes o.arc.now.kind v ≡ v ∷ [] →
      taken_by sought.system o.head.now.inst o.arc.now.place d ≡ v ∷ []
  taken_by_it takes_it =
      its_taking sought.system o.head.now k o.arc.now.place v o.arc.now arc_is refl takes_it

  pub taken_up_is_vain : IsTakenUp sought g.decisions o → NoneLeadBy sought g.decisions point a
  taken_up_is_vain (takes_it, few) =
      by_decision (λ may it b leads.
      let some : 0 < length more = omega (arith, length-append g.decisions (d ∷ [])) in
      let there = taken_are_there sought more b o.head.now.inst o.arc.now.place leads
      (sound_with may).turns some v in
      let whole : taking more ≡ taking g.decisions ++ taking (d ∷ []) =
      flat_map-append (taken_by sought.system o.head.now.inst o.arc.now.place) g.decisions
      (d ∷ []) in
      let own : taking (d ∷ []) ≡ v ∷ [] =
      ap (λ vs. vs ++ []) (taken_by_it takes_it) in
      let count = ap (count_of v) whole ∙ count_append v (taking g.decisions) (taking (d ∷ [])) in
      let one = is_counted v (taking (d ∷ []))
      (subst (λ vs. Contains vs v) (sym own) (0, omega arith, refl)) in
      let held = ap (count_of v) is.all in
      let no : ⊥ = omega (arith, there, count, one, held, few) in no)

  -- So does what makes a guard untrue.
  module _ (x : ℕ) (var : o.arc.now.inscription ≡ E.Var x) where
    abbrev grown : Grown
    grown = with_decision g d

    token_forced : IsVarForcedTo grown o.head.now.path x v
    token_forced a solves =
        let brings = solves d (contains_last g.decisions d) o.arc.now
        (subst (λ s. slice_get (transition_in s o.head.now).arcs k ≡ Some o.arc.now)
        (sym branch.system) arc_is) in
        sym (ap (read_at a o.head.now (arc k)) var ∙ term_value-Var x _) ∙ brings

    beside : (others : List (ℕ × Value)) →
        All (λ p. IsVarForcedTo g o.head.now.path p.0 p.1) others →
        (y : ℕ) → (x ≡ y) ⊎ Contains (map (λ p. p.0) others) y →
        (w : Value) × (value_beside ((x, v) ∷ others) y ≡ Some w)
        × IsVarForcedTo grown o.head.now.path y w
    beside others forced y known =
        elim (nat_eq x y) as (λ b. nat_eq x y ≡ b → (w : Value) ×
        ((if b then Some v else value_beside others y) ≡ Some w)
        × IsVarForcedTo grown o.head.now.path y w) [
          | true ↦ λ same. (
            v,
            refl,
            subst (λ z. IsVarForcedTo grown o.head.now.path z v) (eqb-true x y same)
                token_forced,
          )
          | false ↦ λ other.
              let w = has_its_value (IsVarForcedTo g o.head.now.path) others y forced
              (elim known [
                | inl same ↦ absurd (let e = eq-eqb x y same in let no : ⊥ = cc in no)
                | inr there ↦ there
              ]) in
              (w.0, w.1, forced_by_more g.system g.decisions (d ∷ []) _ w.0 w.2)
        ] refl

    pub failing_is_vain : Good sought.system → HasFitTokens sought.system sought.marking →
        FailsGuard g o x → NoneLeadBy sought g.decisions point a
    failing_is_vain good fit fails =
        by_decision (λ may it b leads.
        let solvable : IsSolvable g.system more =
        subst (λ s. IsSolvable s more) (sym branch.system)
        (leading_is_solvable sought more b leads (sound_with may).turns) in
        let stands : IsBranchOf sought grown =
        stands_after sought g branch point a d it may grown true (refl, solvable) in
        let looked : IsLookedAt sought grown node o.head.now o.transition.now = record {
          branch = stands;
          good = good;
          tokens = fit;
          caller = is.caller;
          at = stays_in_front g.decisions (d ∷ []) node (Entered o.head.now is.caller) is.entry;
          transition = is.within;
        } in
        let env : Env =
        record { this = o.head.now.inst; step = None; pairs = (x, v) ∷ fails.others } in
        let knows : KnowsGuard grown o.head.now fails.guard env = λ e side. record {
          this = refl;
          step = refl;
          forced = λ y occurs. beside fails.others fails.known.forced y
              (fails.known.each y (among_vars fails.guard e y side occurs));
        } in
        untrue_is_stuck sought grown node o.head.now o.transition.now looked fails.guard
        fails.there (env, knows, fails.untrue) b leads)

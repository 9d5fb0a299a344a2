-- What a look at a node of a branch rests on.
use Rattle.std.proofs.Common.{◌≡◌, ℕ, ◌<◌, true, false, List, [], ◌∷◌, ◌++◌, length, refl, sym, ap}
use Rattle.std.proofs.Common.{subst, arith}
use Rattle.std.specs.Prelude.{Contains, All, flat_map, filter, map, not, nat_eq, option_map, unwrap_or}
use Rattle.std.specs.List.{list_any}
use Rattle.std.proofs.lemmas.Bool.{eq-eqb}
use Rattle.std.proofs.lemmas.List.Elements.{All-contains, All-contains_itself}
use Rattle.std.proofs.lemmas.List.Elements.{Contains-append_left, Contains-append_right}
use Rattle.std.proofs.lemmas.Option.{slice_get_within}
use Rattle.rn_model.specs.declared.expr.Expr.{Expr}
use Rattle.rn_model.specs.declared.system.ArcKind.{ArcKind}
use Rattle.rn_model.specs.declared.system.ArcKind.TheVariants.{Input, Output, Test, Reserve}
use Rattle.rn_model.specs.declared.system.ArcKind.TheVariants.{FlexInput, FlexOutput, Inhibit}
use Rattle.rn_model.specs.declared.system.ArcKind.TheVariants.{Clear}
use Rattle.rn_model.specs.declared.system.NetArc.{NetArc}
use Rattle.rn_model.specs.declared.system.Transition.{Transition}
use Rattle.rn_model.specs.Derivation.{finds_token}
use Rattle.rn_model.specs.Evaluation.{Env}
use Rattle.rn_model.specs.Good.{IsGoodTransition, searched_exprs, output_exprs, all_exprs}
use Rattle.rn_model.specs.Good.{action_expr, guard_exprs, set_var}
use Rattle.rn_model.specs.Systems.{net_at, vars_in, is_output, holds_action_var, uplink_args}
use Rattle.rn_model.specs.Kinds.{holds_step}
use Rattle.rn_model.proofs.AskedValues.{contained_flat, contained_mapped}
use Rattle.rn_model.proofs.LiveByRounds.{contained_any}
use Rattle.rn_model.proofs.MarkingsOfRuns.{good_transition}
use Rattle.rn_model.proofs.Rounds.{all_more}
use Rattle.rn_growing.specs.declared.decision.Head.{Head}
use Rattle.rn_growing.specs.declared.decision.Decision.TheVariants.{Entered}
use Rattle.rn_growing.specs.Grown.{Grown}
use Rattle.rn_growing.specs.Turns.{IsEntered}
use Rattle.rn_growing.proofs.Growth.{at_in}
use Rattle.rn_growing.proofs.NewThings.{none_passes}
use Rattle.rn_search.specs.Missing.{IsKnown}
use Rattle.rn_search.specs.Points.{node_of, node_on}
use Rattle.rn_search.specs.Sought.{Sought}
use Rattle.rn_search.specs.Standing.{IsHead}
use Rattle.rn_search.proofs.Items.{in_filter}
use Rattle.rn_looking.specs.Branches.{IsLookedAt}
use Rattle.rn_looking.specs.Forced.{Knows, IsVarForcedTo}

no_output : (kind : ArcKind) → finds_token kind ≡ true → not (is_output kind) ≡ true
no_output Input e = refl
no_output Test e = refl
no_output Reserve e = refl
no_output Output e = absurd (let no : ⊥ = cc in no)
no_output FlexInput e = refl
no_output FlexOutput e = absurd (let no : ⊥ = cc in no)
no_output Inhibit e = refl
no_output Clear e = refl

-- the expressions of a transition that are searched, but inscriptions
abbrev before_inscriptions : Transition → List Expr
before_inscriptions t =
    flat_map (λ e. e.0 ∷ e.1 ∷ []) t.equalities
    ++ flat_map guard_exprs t.guards
    ++ uplink_args t
    ++ flat_map (λ d. d.target ∷ d.args) t.downlinks

module _ (sought : Sought) (g : Grown) (node : ℕ) (head : Head) (t : Transition)
    (looked : IsLookedAt sought g node head t) where
  pub some : 0 < length g.decisions
  some =
      let low = slice_get_within g.decisions node (Entered head looked.caller) looked.at in
      omega (arith, low)

  pub node_is : node_of sought g.decisions node ≡ head
  node_is = ap (λ o. unwrap_or (option_map node_on o) sought.start) looked.at

  pub entered : IsEntered g.decisions head
  entered = (looked.caller, at_in g.decisions node (Entered head looked.caller) looked.at)

  pub its_head : IsHead sought.system sought.depth head
  its_head =
      looked.branch.sound.heads (Entered head looked.caller)
      (at_in g.decisions node (Entered head looked.caller) looked.at)

  pub its_good : IsGoodTransition sought.system (net_at sought.system head.net) t
  its_good =
      subst (IsGoodTransition sought.system (net_at sought.system head.net))
      (sym looked.transition)
      (good_transition sought.system head.net head.transition looked.good its_head.net
      its_head.transition)

  no_action_var : (e : Expr) (x : ℕ) → Contains (searched_exprs t) e → Contains (vars_in e) x →
      Contains t.action_vars x → ⊥
  no_action_var e x there occurs acts =
      let unused = All-contains (λ f. (holds_action_var t f ≡ false) × (holds_step f ≡ false))
      (searched_exprs t) e its_good.uses.searched there in
      none_passes (λ y. list_any (nat_eq y) (vars_in e)) t.action_vars x unused.0 acts
      (contained_any (nat_eq x) (vars_in e) x occurs (eq-eqb x x refl))

  -- the variables of what isn't an action or an output are the transition's
  pub vars_searched : (e : Expr) → Contains (searched_exprs t) e →
      All (Contains t.vars) (vars_in e)
  vars_searched e there =
      let anywhere : Contains (all_exprs t) e =
      Contains-append_left (searched_exprs t ++ output_exprs t) (map action_expr t.actions) e
      (Contains-append_left (searched_exprs t) (output_exprs t) e there) in
      all_more (Contains (vars_in e)) (Contains t.vars) (vars_in e) (λ x occurs.
      (its_good.its_vars.vars x).1 (
        Contains-append_left
            (flat_map vars_in (all_exprs t) ++ map (λ c. c.var) t.creations)
            (flat_map set_var t.actions) x
            (Contains-append_left (flat_map vars_in (all_exprs t))
            (map (λ c. c.var) t.creations) x
            (contained_flat vars_in (all_exprs t) e x anywhere occurs)),
        no_action_var e x there occurs,
      )) (All-contains_itself (vars_in e))

  -- the inscription of an arc that finds a token is such an expression
  pub inscription_searched : (x : NetArc) → Contains t.arcs x → finds_token x.kind ≡ true →
      Contains (searched_exprs t) x.inscription
  inscription_searched x there finds =
      Contains-append_right (before_inscriptions t) (map (λ arc. arc.inscription)
      (filter (λ arc. not (is_output arc.kind)) t.arcs)) x.inscription
      (contained_mapped (λ (arc : NetArc). arc.inscription)
      (filter (λ arc. not (is_output arc.kind)) t.arcs) x
      (in_filter (λ (arc : NetArc). not (is_output arc.kind)) t.arcs x there
      (no_output x.kind finds)))

  -- what an environment knows is known
  pub known_by : (e : Expr) (env : Env) → All (Contains t.vars) (vars_in e) →
      Knows g head e env → IsKnown sought.system g.decisions (node_of sought g.decisions node) e env
  known_by e env vars knows =
      let here : IsKnown sought.system g.decisions head e env = record {
        this = knows.this;
        step = knows.step;
        vars = subst (λ u. All (Contains u.vars) (vars_in e)) looked.transition vars;
        forced = λ x occurs.
            let w = knows.forced x occurs in (
              w.0,
              w.1,
              subst (λ s. IsVarForcedTo (record { system = s; decisions = g.decisions }) head.path
                  x w.0) looked.branch.system w.2,
            );
      } in
      subst (λ h. IsKnown sought.system g.decisions h e env) (sym node_is) here

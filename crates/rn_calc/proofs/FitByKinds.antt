-- Where variables have values of their kinds, a good transition computes and compares what fits.
use Rattle.std.proofs.Common.{◌≡◌, ℕ, ◌<◌, Bool, true, false, not, List, [], ◌∷◌, ◌++◌, map}
use Rattle.std.proofs.Common.{length, get_or, refl, ap, arith}
use Rattle.std.specs.Prelude.{Contains, flat_map, filter}
use Rattle.std.specs.List.{All}
use Rattle.std.proofs.lemmas.List.Elements.{Contains-append_left}
use Rattle.std.proofs.lemmas.List.Elements.{Contains-append_right, Contains-get_or}
use Rattle.rn_model.specs.declared.expr.Cond.{Cond}
use Rattle.rn_model.specs.declared.expr.Expr.{Expr}
use Rattle.rn_model.specs.declared.system.System.{System}
use Rattle.rn_model.specs.declared.system.Transition.{Transition}
use Rattle.rn_model.specs.declared.system.Action.{Action}
use Rattle.rn_model.specs.declared.system.Downlink.{Downlink}
use Rattle.rn_model.specs.declared.system.NetArc.{NetArc}
use Rattle.rn_model.specs.Evaluation.{Env}
use Rattle.rn_model.specs.Good.{Good, Comparison, CanCompare, comparisons_in, guard_exprs}
use Rattle.rn_model.specs.Good.{searched_exprs, output_exprs, all_exprs, action_expr}
use Rattle.rn_model.specs.Systems.{net_at, transition_at, var_kind, uplink_args, is_output}
use Rattle.rn_model.specs.ExpressionLaws.{HaveKinds, OperandsAreFit}
use Rattle.rn_model.proofs.AgreeingValues.{expressions_have_kinds, can_compare}
use Rattle.rn_model.proofs.AskedValues.{contained_flat, contained_mapped}
use Rattle.rn_model.proofs.ForcedKinds.{kinds_fit_comparisons}
use Rattle.rn_model.proofs.MarkingsOfRuns.{good_transition}
use Rattle.rn_model.proofs.OperandKinds.{operands_fit}
use Rattle.rn_items.proofs.Lists.{in_filter}
use Rattle.rn_calc.specs.FitComparisons.{ComparisonsAreFit}

module _ (t : Transition) where
  abbrev sides : List Expr
  sides = flat_map (λ e. e.0 ∷ e.1 ∷ []) t.equalities

  abbrev guarded : List Expr
  guarded = flat_map guard_exprs t.guards

  abbrev called : List Expr
  called = flat_map (λ d. d.target ∷ d.args) t.downlinks

  abbrev inscribed : List Expr
  inscribed = map (λ arc. arc.inscription) (filter (λ arc. not (is_output arc.kind)) t.arcs)

  searched : (e : Expr) → Contains (searched_exprs t) e → Contains (all_exprs t) e
  searched e there =
      Contains-append_left (searched_exprs t ++ output_exprs t) (map action_expr t.actions) e
      (Contains-append_left (searched_exprs t) (output_exprs t) e there)

  abbrev inscription : NetArc → Expr
  inscription arc = arc.inscription

  pub in_equalities : (s : Expr × Expr) → Contains t.equalities s → (e : Expr) →
      Contains (s.0 ∷ s.1 ∷ []) e → Contains (all_exprs t) e
  in_equalities s has e there =
      searched e
      (Contains-append_left (((sides ++ guarded) ++ uplink_args t) ++ called) inscribed e
      (Contains-append_left ((sides ++ guarded) ++ uplink_args t) called e
      (Contains-append_left (sides ++ guarded) (uplink_args t) e
      (Contains-append_left sides guarded e
      (contained_flat (λ e. e.0 ∷ e.1 ∷ []) t.equalities s e has there)))))

  pub in_uplink : (e : Expr) → Contains (uplink_args t) e → Contains (all_exprs t) e
  in_uplink e there =
      searched e
      (Contains-append_left (((sides ++ guarded) ++ uplink_args t) ++ called) inscribed e
      (Contains-append_left ((sides ++ guarded) ++ uplink_args t) called e
      (Contains-append_right (sides ++ guarded) (uplink_args t) e there)))

  pub in_downlinks : (d : Downlink) → Contains t.downlinks d → (e : Expr) →
      Contains (d.target ∷ d.args) e → Contains (all_exprs t) e
  in_downlinks d has e there =
      searched e
      (Contains-append_left (((sides ++ guarded) ++ uplink_args t) ++ called) inscribed e
      (Contains-append_right ((sides ++ guarded) ++ uplink_args t) called e
      (contained_flat (λ d. d.target ∷ d.args) t.downlinks d e has there)))

  arc_by_kind : (arc : NetArc) → Contains t.arcs arc → (output : Bool) →
      is_output arc.kind ≡ output → Contains (all_exprs t) arc.inscription
  arc_by_kind arc has false e =
      let other : not (is_output arc.kind) ≡ true = ap not e in
      searched arc.inscription
      (Contains-append_right (((sides ++ guarded) ++ uplink_args t) ++ called) inscribed
      arc.inscription
      (contained_mapped inscription (filter (λ arc. not (is_output arc.kind)) t.arcs) arc
      (in_filter (λ arc. not (is_output arc.kind)) t.arcs arc has other)))
  arc_by_kind arc has true e =
      Contains-append_left (searched_exprs t ++ output_exprs t) (map action_expr t.actions)
      arc.inscription
      (Contains-append_right (searched_exprs t) (output_exprs t) arc.inscription
      (contained_mapped inscription (filter (λ arc. is_output arc.kind) t.arcs) arc
      (in_filter (λ arc. is_output arc.kind) t.arcs arc has e)))

  pub in_arcs : (arc : NetArc) → Contains t.arcs arc → Contains (all_exprs t) arc.inscription
  in_arcs arc has = arc_by_kind arc has (is_output arc.kind) refl

  pub in_actions : (a : Action) → Contains t.actions a → Contains (all_exprs t) (action_expr a)
  in_actions a has =
      Contains-append_right (searched_exprs t ++ output_exprs t) (map action_expr t.actions)
      (action_expr a) (contained_mapped action_expr t.actions a has)

  in_guards : (e : Expr) → Contains guarded e → Contains (all_exprs t) e
  in_guards e there =
      searched e
      (Contains-append_left (((sides ++ guarded) ++ uplink_args t) ++ called) inscribed e
      (Contains-append_left ((sides ++ guarded) ++ uplink_args t) called e
      (Contains-append_left (sides ++ guarded) (uplink_args t) e
      (Contains-append_right sides guarded e there))))

  -- both sides of a comparison in a guard are expressions of the transition
  side : (g : Cond) → Contains t.guards g → (c : Comparison) → Contains (comparisons_in g) c →
      (e : Expr) → Contains (c.left ∷ c.right ∷ []) e → Contains (all_exprs t) e
  side g has c there e is =
      in_guards e (contained_flat guard_exprs t.guards g e has
      (contained_flat (λ c. c.left ∷ c.right ∷ []) (comparisons_in g) c e there is))

module _ (system : System) (n k : ℕ) (env : Env) (good : Good system)
    (h : n < length system.nets) (j : k < length (net_at system n).transitions)
    (have : HaveKinds (var_kind system n) env) where
  -- each expression of a transition
  pub expr_fits : (e : Expr) → Contains (all_exprs (transition_at system n k)) e →
      OperandsAreFit env e
  expr_fits e there =
      operands_fit (var_kind system n) env have e
      (expressions_have_kinds system n k e good h j there)

  -- each guard
  pub guard_fits : (g : Cond) → Contains (transition_at system n k).guards g →
      ComparisonsAreFit env g
  guard_fits g has c there =
      let t = transition_at system n k in
      let well = (good_transition system n k good h j).kinds in
      let can : All (λ c. CanCompare (var_kind system n) c c.kind) (comparisons_in g) =
      λ i d low.
      can_compare system (net_at system n) (var_kind system n) t well g has
      (get_or (comparisons_in g) i d) (Contains-get_or (comparisons_in g) i d low) in
      record {
        left = expr_fits c.left (side t g has c there c.left (0, omega arith, refl));
        right = expr_fits c.right (side t g has c there c.right (1, omega arith, refl));
        values = kinds_fit_comparisons (var_kind system n) env g have can c there;
      }

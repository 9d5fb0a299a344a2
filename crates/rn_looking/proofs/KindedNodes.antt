-- What is forced at a node that is looked at has its kind.
use Rattle.std.proofs.Common.{◌≡◌, ℕ, true, List, ◌∷◌, sym, ap, ◌∙◌, subst}
use Rattle.std.specs.Prelude.{Some, Contains, slice_get}
use Rattle.std.proofs.lemmas.List.Elements.{All-contains}
use Rattle.rn_value.specs.Kinds.{HasKind}
use Rattle.rn_value.specs.declared.value.Kind.{Kind}
use Rattle.rn_value.specs.declared.value.Value.{Value}
use Rattle.rn_model.specs.declared.expr.Expr.{Expr}
use Rattle.rn_model.specs.declared.expr.Expr.TheVariants as E
use Rattle.rn_model.specs.declared.system.NetArc.{NetArc}
use Rattle.rn_model.specs.declared.system.System.{System}
use Rattle.rn_model.specs.declared.system.Transition.{Transition}
use Rattle.rn_model.specs.Agreement.{inscribed_kind}
use Rattle.rn_model.specs.Derivation.{Hole, finds_token}
use Rattle.rn_model.specs.Derivation as D
use Rattle.rn_model.specs.Good.{CanCompare, IsGoodArc, IsWellKinded, all_exprs}
use Rattle.rn_model.specs.Kinds.{HasExprKind}
use Rattle.rn_model.specs.Markings.{tokens}
use Rattle.rn_model.specs.Systems.{net_at, place_kind, var_kind}
use Rattle.rn_model.proofs.AgreeingValues.{can_compare, expressions_have_kinds}
use Rattle.rn_model.proofs.HoleKinds.{hole_has}
use Rattle.rn_model.proofs.OperandKinds.{HasSome}
use Rattle.rn_growing.specs.declared.decision.Head.{Head}
use Rattle.rn_growing.specs.Grown.{Grown}
use Rattle.rn_calc.proofs.FitByKinds.{in_arcs}
use Rattle.rn_growing.proofs.Growth.{at_in}
use Rattle.rn_growing.proofs.KindsOfForced.{kinded_force_kinds}
use Rattle.rn_search.specs.Points.{holes_of}
use Rattle.rn_search.specs.Sought.{Sought}
use Rattle.rn_search.proofs.Allowed.{its_net, token_found, token_kind}
use Rattle.rn_search.proofs.Offered.{at_site}
use Rattle.rn_looking.specs.Branches.{IsLookedAt}
use Rattle.rn_looking.specs.NodeKinds.{ForceKinds, IsKindedAt, IsKindedNode, kinds_at}
use Rattle.rn_looking.proofs.KindedValues.{var_kind_is}
use Rattle.rn_looking.proofs.LookedAt.{entered, its_good, its_head}

module _ (sought : Sought) (g : Grown) (node : ℕ) (head : Head) (t : Transition)
    (looked : IsLookedAt sought g node head t) where
  abbrev kinds : ℕ → Kind
  kinds = var_kind sought.system head.net

  pub same_kinds : kinds_at g head ≡ kinds
  same_kinds = ap (λ (s : System). var_kind s head.net) looked.branch.system

  pub forces_kinds : ForceKinds g head
  forces_kinds =
      subst (λ (s : System). ForceKinds (record { system = s; decisions = g.decisions }) head)
      (sym looked.branch.system)
      (kinded_force_kinds sought.system g.decisions head looked.good
      looked.branch.sound.turns looked.branch.sound.kinded looked.branch.solvable
      (entered sought g node head t looked)).0

  pub well : IsWellKinded sought.system (net_at sought.system head.net) kinds t
  well = (its_good sought g node head t looked).kinds

  has_some : (e : Expr) → HasSome kinds e → HasSome (kinds_at g head) e
  has_some e some = subst (λ ks. HasSome ks e) (sym same_kinds) some

  expr_kinded : (e : Expr) → Contains (all_exprs t) e → HasSome (kinds_at g head) e
  expr_kinded e there =
      let at = its_head sought g node head t looked in
      has_some e (expressions_have_kinds sought.system head.net head.transition e looked.good at.net
      at.transition (subst (λ u. Contains (all_exprs u) e) looked.transition there))

  pub kinded_node : IsKindedNode g head t
  kinded_node = record {
    forces = forces_kinds;
    exprs = expr_kinded;
    guards = λ guard there c among.
        subst (λ ks. CanCompare ks c c.kind) (sym same_kinds)
        (can_compare sought.system (net_at sought.system head.net) kinds t well guard there c
        among);
  }

  -- so do inscriptions
  pub inscription_kinded : (k : ℕ) (x : NetArc) → slice_get t.arcs k ≡ Some x →
      IsKindedAt g head x.inscription
  inscription_kinded k x at =
      (forces_kinds, expr_kinded x.inscription (in_arcs t x (at_in t.arcs k x at)))

  -- and operator applications have kinds
  pub hole_kinded : (k : ℕ) (hole : D.Site × Hole) → slice_get (holes_of t) k ≡ Some hole →
      IsKindedAt g head hole.1.form
  hole_kinded k hole at =
      let of = at_site t k hole at in (
        forces_kinds,
        has_some hole.1.form
            (hole_has sought.system (net_at sought.system head.net) kinds t well hole.0 of.0 hole.1 of.1
            of.2),
      )

  -- and each token of the place of an arc has the kind of the variable that it would be
  pub token_of_kind : (x : NetArc) (y : ℕ) (v : Value) → Contains t.arcs x →
      finds_token x.kind ≡ true → x.inscription ≡ E.Var y →
      Contains (tokens sought.marking head.inst x.place) v → HasKind v (kinds_at g head y)
  token_of_kind x y v there token is held =
      let system = sought.system in
      let place = place_kind system head.net x.place in
      let arc = All-contains (IsGoodArc (net_at system head.net) kinds) t.arcs x well.arcs there in
      let kind : kinds y ≡ inscribed_kind x.kind place =
      var_kind_is kinds y (inscribed_kind x.kind place)
      (subst (λ e. HasExprKind kinds e (inscribed_kind x.kind place)) is arc.kind) in
      let has = token_found x.kind place v token
      (token_kind sought head.inst head.net x.place v looked.tokens
      (its_net sought g.decisions head looked.branch.sound (entered sought g node head t looked))
      held) in
      subst (HasKind v) (sym (ap (λ ks. ks y) same_kinds ∙ kind)) has

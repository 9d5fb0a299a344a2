-- What is forced is the binding's own.
use Rattle.std.proofs.Common.{◌≡◌, true, List, ◌++◌, map, refl, sym, ◌∙◌}
use Rattle.std.specs.Prelude.{Some, Contains, filter, flat_map}
use Rattle.std.specs.List.{AllByRecursion, enumerate_from}
use Rattle.std.proofs.lemmas.Option.{same_Some}
use Rattle.std.proofs.lemmas.List.Elements.{All-contains, All-from_recursion}
use Rattle.rn_value.specs.declared.value.Value.{Value}
use Rattle.rn_model.specs.declared.expr.Expr.{Expr}
use Rattle.rn_model.specs.declared.system.System.{System}
use Rattle.rn_model.specs.declared.system.Transition.{Transition}
use Rattle.rn_model.specs.declared.binding.Binding.{Binding}
use Rattle.rn_model.specs.Systems.{transition_of, uplink_args}
use Rattle.rn_model.specs.Derivation.{Site, uplink_arg, downlink_arg, arc, sides_of, args_of}
use Rattle.rn_model.specs.Derivation.{finds_token, sites_of, Assignment, Satisfies}
use Rattle.rn_model.specs.DerivationLaws.{AreOwnValues}
use Rattle.rn_model.specs.RoundLaws.{ItemSet, IsIn, AreItems, ForcedTermsAreOwn}
use Rattle.rn_model.specs.RoundLaws.{ForcedExpressionsAreOwn, TargetsAreChildren}
use Rattle.rn_model.proofs.EachElement.{each_append, each_map, each_flat_map, each_filter}
use Rattle.rn_model.proofs.EachElement.{each_place}
use Rattle.rn_model.proofs.NodesByPath.{node_at-path}
use Rattle.rn_model.proofs.OwnValues.{own_values, own_values_satisfy, are_own_values, expr_at}
use Rattle.rn_model.proofs.OwnValues.{read}

satisfied : (system : System) (b : Binding) (set : ItemSet) (own : Assignment) →
    AreOwnValues system b own → AreItems system b set → Satisfies system b (IsIn system b set) own
satisfied system b set own is all item there = is.items item (all item there)

pub forced_terms_are_own : ForcedTermsAreOwn
forced_terms_are_own system b own set term is all forced =
    forced.1 own (satisfied system b set own is all)

-- the target of a downlink is forced to no other value than the child's instance
pub targets_are_children : TargetsAreChildren
targets_are_children system b depth set shape agrees all caller i downlink node calls forced =
    let own = own_values_satisfy system b depth shape agrees in
    same_Some forced.0 (Value.Inst node.inst)
    (sym (forced.1 own.0 (satisfied system b set own.0 own.1 all))
    ∙ own.1.targets caller i downlink node calls)

-- The expressions whose operator applications count stand at their sites.
module _ (t : Transition) where
  abbrev Stands : Site × Expr → Type 0
  Stands s = expr_at t s.0 ≡ Some s.1

  abbrev sides : List (Site × Expr)
  sides = flat_map sides_of (enumerate_from 0 t.equalities)

  abbrev uplinks : List (Site × Expr)
  uplinks = map (λ e. (uplink_arg e.0, e.1)) (enumerate_from 0 (uplink_args t))

  abbrev calls : List (Site × Expr)
  calls = flat_map args_of (enumerate_from 0 t.downlinks)

  abbrev arcs : List (Site × Expr)
  arcs = map (λ e. (arc e.0, e.1.inscription))
      (filter (λ e. finds_token e.1.kind) (enumerate_from 0 t.arcs))

  sides_stand : AllByRecursion Stands sides
  sides_stand = each_flat_map Stands sides_of (enumerate_from 0 t.equalities)
      (each_place (λ e. AllByRecursion Stands (sides_of e)) t.equalities
      (λ k e at. (rw at refl, (rw at refl, tt))))

  uplinks_stand : AllByRecursion Stands uplinks
  uplinks_stand = each_map Stands (λ e. (uplink_arg e.0, e.1)) (enumerate_from 0 (uplink_args t))
      (each_place (λ e. Stands (uplink_arg e.0, e.1)) (uplink_args t) (λ k e at. at))

  calls_stand : AllByRecursion Stands calls
  calls_stand = each_flat_map Stands args_of (enumerate_from 0 t.downlinks)
      (each_place (λ d. AllByRecursion Stands (args_of d)) t.downlinks (λ i d at.
      each_map Stands (λ e. (downlink_arg i e.0, e.1)) (enumerate_from 0 d.args)
      (each_place (λ e. Stands (downlink_arg i e.0, e.1)) d.args (λ k e here. rw at here))))

  arcs_stand : AllByRecursion Stands arcs
  arcs_stand =
      each_map Stands (λ e. (arc e.0, e.1.inscription))
      (filter (λ e. finds_token e.1.kind) (enumerate_from 0 t.arcs))
      (each_filter (λ e. Stands (arc e.0, e.1.inscription)) (λ e. finds_token e.1.kind)
      (enumerate_from 0 t.arcs)
      (each_place (λ e. finds_token e.1.kind ≡ true → Stands (arc e.0, e.1.inscription)) t.arcs
      (λ k x at finds. rw at refl)))

  sites_stand : AllByRecursion Stands (sites_of t)
  sites_stand =
      each_append Stands ((sides ++ uplinks) ++ calls) arcs
      (each_append Stands (sides ++ uplinks) calls
      (each_append Stands sides uplinks sides_stand uplinks_stand) calls_stand) arcs_stand

  pub site_stands : (site : Site) (e : Expr) → Contains (sites_of t) (site, e) →
      expr_at t site ≡ Some e
  site_stands site e there =
      All-contains Stands (sites_of t) (site, e)
      (All-from_recursion Stands (sites_of t) sites_stand) there

pub forced_expressions_are_own : ForcedExpressionsAreOwn
forced_expressions_are_own system b depth set shape agrees all node site e v there stands is
    forced =
    let own = own_values system b in
    let are = are_own_values system b depth shape agrees in
    let at = site_stands (transition_of system node) site e stands in
    same_Some forced.0 v
    (sym (forced.1 own (satisfied system b set own are all))
    ∙ read system b node site e v (node_at-path system b depth node shape there) at is)

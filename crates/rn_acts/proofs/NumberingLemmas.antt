-- Numbering keeps paths, nets, transitions, how many values there are, and their kinds.
use Rattle.std.proofs.Common.{◌∙◌, ℕ, List, [], ◌∷◌, map, get_or}
use Rattle.std.specs.List.{AllZip}
use Rattle.std.proofs.lemmas.List.{length-map}
use Rattle.std.proofs.lemmas.List.Elements.{All-map}
use Rattle.std.proofs.lemmas.List.Folds.{flat_map-map}
use Rattle.rn_value.specs.declared.value.InstRef.{InstRef}
use Rattle.rn_value.specs.Kinds.{HasKind}
use Rattle.rn_value.specs.declared.value.Kind.{Kind}
use Rattle.rn_value.specs.declared.value.Value.{Value}
use Rattle.rn_model.specs.declared.system.System.{System}
use Rattle.rn_model.specs.declared.binding.Node.{Node}
use Rattle.rn_model.specs.Bindings.{IsNodeOf}
use Rattle.rn_model.specs.Firing.{creations_of, made_by, numbered_inst, renamed_node, renamed_value}
use Rattle.rn_model.specs.Systems.{transition_of, var_kind}
use Rattle.rn_model.proofs.KindsOfValues.{renamed_has_kind}
use Rattle.rn_calc.specs.OwnKinds.{HaveOwnKinds}
use Rattle.rn_acts.specs.Laws.{NumberingKeepsCreations, NumberingKeepsNodes, NumberingKeepsKinds}

-- with numbers for its new instances a binding makes the same instances
pub creations_kept : NumberingKeepsCreations
creations_kept system b next =
    flat_map-map (made_by system) (renamed_node (numbered_inst (creations_of system b) next)) b.nodes

node_kept : (system : System) (name : InstRef → InstRef) (node : Node) → IsNodeOf system node →
    IsNodeOf system (renamed_node name node)
node_kept system name node own = record {
  net = own.net;
  transition = own.transition;
  values = length-map node.values (λ v. renamed_value v name) ∙ own.values;
}

-- and its nodes are still nodes of the system
pub nodes_kept : NumberingKeepsNodes
nodes_kept system b next own =
    let name = numbered_inst (creations_of system b) next in
    All-map (IsNodeOf system) (renamed_node name) b.nodes
    (λ k d low. node_kept system name _ (own k d low))

values_kept : (kinds : ℕ → Kind) (name : InstRef → InstRef) (xs : List ℕ) (vs : List Value) →
    AllZip (λ x v. HasKind v (kinds x)) xs vs →
    AllZip (λ x v. HasKind v (kinds x)) xs (map (λ v. renamed_value v name) vs)
values_kept kinds name [] [] all = tt
values_kept kinds name [] (v ∷ vs) all = absurd all
values_kept kinds name (x ∷ xs) [] all = absurd all
values_kept kinds name (x ∷ xs) (v ∷ vs) all =
    (renamed_has_kind name v (kinds x) all.0, values_kept kinds name xs vs all.1)

-- whose values have their variables' kinds as before
pub kinds_kept : NumberingKeepsKinds
kinds_kept system b next has =
    let name = numbered_inst (creations_of system b) next in
    All-map (HaveOwnKinds system) (renamed_node name) b.nodes
    (λ k d low.
    let node = get_or b.nodes k d in
    values_kept (var_kind system node.net) name (transition_of system node).vars node.values
    (has k d low))

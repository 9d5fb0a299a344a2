-- The entry, what the arcs find, and the operator applications.
use Rattle.std.proofs.Common.{◌≡◌, ◌++◌, ◌∷◌, [], map, ap, ◌∙◌, subst}
use Rattle.std.proofs.lemmas.List.{map-append}
use Rattle.std.specs.Prelude.{OnOk}
use Rattle.rn_model.specs.Derivation.{entry}
use Rattle.rn_model.specs.Systems.{transition_of}
use Rattle.rn_binding.specs.link.Parts.{item_of}
use Rattle.rn_binding.proofs.PuttingParts.{node_put}
use Rattle.rn_binding.proofs.parts.put_node.Goals as goal

pub returns : goal.returns
returns c =
    let first : map item_of c.push.new.self.items
    ≡ map item_of c.args.parts.now.items ++ entry c.args.node.now ∷ [] =
    ap (map item_of) c.in_ok-push.ensures.items ∙ map-append item_of _ _ in
    subst (λ xs. OnOk c.put_computed.result (map item_of c.put_computed.new.parts.items ≡ xs))
    (node_put c.args.system.now c.args.node.now c.transition_of-transition.result.now
    c.as_slice.result.now (map item_of c.args.parts.now.items) (map item_of c.push.new.self.items)
    (map item_of c.put_found.new.parts.items) (c.transition_of-transition.ensures
    ∙ ap (transition_of c.args.system.now) c.node.ensures)
    c.as_slice.ensures first c.in_ok-put_found.ensures) c.put_computed.ensures

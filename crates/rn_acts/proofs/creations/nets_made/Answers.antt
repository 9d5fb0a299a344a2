use Rattle.std.proofs.Common.{◌∙◌, ap, map}
use Rattle.std.proofs.lemmas.List.{take_all}
use Rattle.std.specs.List.{flat_map}
use Rattle.rn_model.specs.Firing.{made_by}
use Rattle.rn_model.specs.Systems.{transition_of}
use Rattle.rn_acts.proofs.CreationLemmas.{nets_made}
use Rattle.rn_acts.proofs.creations.nets_made.Goals as goal

pub returns : goal.returns
returns c =
    let system = c.args.system.now in
    let nodes = c.as_slice-nodes.result.now in
    c.loop-node.invariant
    ∙ ap (flat_map (λ node. map (λ c. c.net) (transition_of system node).creations))
    (take_all c.loop-node.node-index nodes c.loop-node-test.false)
    ∙ nets_made system nodes
    ∙ ap (λ nodes. map (λ m. m.net) (flat_map (made_by system) nodes)) c.as_slice-nodes.ensures

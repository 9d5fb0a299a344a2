-- Node by node.
use Rattle.std.proofs.Common.{◌≡◌, ◌∷◌, ◌+◌, ◌∙◌, ap, sym, subst, drop}
use Rattle.std.specs.Prelude.{Some, option_and_then, option_map}
use Rattle.std.proofs.lemmas.List.{drop_more}
use Rattle.rn_model.specs.Firing.{all_effects}
use Rattle.rn_acts.specs.link.Acted.{with_effects, with_node}
use Rattle.rn_acts.specs.link.Acting.{if_done}
use Rattle.rn_acts.proofs.ActLemmas.{one_node}
use Rattle.rn_calc.specs.OwnKinds.{HaveOwnKinds}
use Rattle.rn_acts.proofs.acts.act_on.Goals as goal

pub add_node-requires-clause-kinds : goal.add_node-requires-clause-kinds
add_node-requires-clause-kinds c =
    subst (HaveOwnKinds c.args.system.now) (sym c.node-item.is)
    (c.requires.kinds c.loop-node.node-index c.node-item.result c.loop-node-test.true)

pub loop-node-preserved : goal.loop-node-preserved
loop-node-preserved c =
    let system = c.args.system.now in
    let step = c.args.step in
    let i = c.loop-node.node-index in
    let nodes = c.args.nodes.now in
    let others = drop (i + 1) nodes in
    let node = c.node-item.result in
    let acted = c.loop-node.acted in
    let here : drop i nodes ≡ node ∷ others =
    drop_more nodes i node c.loop-node-test.true ∙ ap (λ n. n ∷ others) (sym c.node-item.is) in
    let came : with_node system step acted node ≡ Some c.add_node.new.acted =
    c.in_ok-add_node.ensures ∙ ap (λ done. if_done done c.add_node.new.acted) c.if-not-branch.false in
    sym (ap (λ ns. option_map (with_effects system acted) (all_effects system step ns)) here
    ∙ one_node system step acted node others
    ∙ ap (option_and_then
    (λ a. option_map (with_effects system a) (all_effects system step others))) came)
    ∙ c.loop-node.invariant

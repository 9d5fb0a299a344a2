use Rattle.std.proofs.Common.{◌+◌, drop, length, ap, sym, ◌∙◌}
use Rattle.std.specs.Prelude.{flat_map}
use Rattle.std.specs.List.{position_from}
use Rattle.std.proofs.lemmas.List.{drop_all}
use Rattle.rn_model.specs.Firing.{made_by}
use Rattle.rn_spell.proofs.FirstCreation.{is_the, number_of_new, here, behind, counted_more}
use Rattle.rn_spell.proofs.Slices.{drop_item}
use Rattle.rn_spell.proofs.numbering.number_of_made.Goals as goal

pub loop-node-preserved : goal.loop-node-preserved
loop-node-preserved c =
    let made = made_by c.args.system.now in
    let nodes = c.args.nodes.now in
    let node = c.node-item.result in
    let i = c.loop-node.node-index in
    let left = drop (i + 1) nodes in
    let before = c.loop-node.before in
    let which = is_the c.args.path.now c.args.index in
    let split = drop_item nodes i node node c.loop-node-test.true c.node-item.is in
    record {
      counted = ap (λ n. before + n + length (flat_map made left)) c.creations_count-before.ensures
          ∙ counted_more c.args.system.now node left before (length (flat_map made nodes))
          (ap (λ xs. before + length (flat_map made xs)) (sym split) ∙ c.loop-node.invariant.counted);
      behind = ap (λ n. position_from which (c.args.next + (before + n)) (flat_map made left)) c.creations_count-before.ensures
          ∙ behind c.args.system.now node left c.args.path.now c.args.index c.args.next before (position_from which c.args.next (flat_map made nodes))
          (ap (λ xs. position_from which (c.args.next + before) (flat_map made xs)) (sym split) ∙ c.loop-node.invariant.behind)
          (sym c.makes.ensures ∙ c.if-makes.false);
    }

pub returns-then-makes : goal.returns-then-makes
returns-then-makes c =
    let made = made_by c.args.system.now in
    let nodes = c.args.nodes.now in
    let node = c.node-item.result in
    let i = c.loop-node.node-index in
    let before = c.loop-node.before in
    let which = is_the c.args.path.now c.args.index in
    let split = drop_item nodes i node node c.loop-node-test.true c.node-item.is in
    here c.args.system.now node (drop (i + 1) nodes) c.args.path.now c.args.index (c.args.next + before) (position_from which c.args.next (flat_map made nodes))
    (ap (λ xs. position_from which (c.args.next + before) (flat_map made xs)) (sym split) ∙ c.loop-node.invariant.behind)
    (sym c.makes.ensures ∙ c.if-makes.true)
    ∙ sym (number_of_new (flat_map made nodes) c.args.next c.args.path.now c.args.index)

pub returns : goal.returns
returns c =
    let made = made_by c.args.system.now in
    let nodes = c.args.nodes.now in
    let which = is_the c.args.path.now c.args.index in
    ap (λ xs. position_from which (c.args.next + c.loop-node.before) (flat_map made xs)) (sym (drop_all c.loop-node.node-index nodes c.loop-node-test.false))
    ∙ c.loop-node.invariant.behind
    ∙ sym (number_of_new (flat_map made nodes) c.args.next c.args.path.now c.args.index)

-- Nodes that are in order have the shape exactly where each is linked.
use Rattle.std.proofs.Common.{◌≤◌, length, subst}
use Rattle.std.specs.Prelude.{All}
use Rattle.rn_agree.specs.Paths.{AscendByPath}
use Rattle.rn_agree.specs.link.Parts.{IsInRange}
use Rattle.rn_agree.proofs.LinkLemmas.{IsInOrder, shaped, links_of_shape}
use Rattle.rn_agree.proofs.shape.has_shape.Goals as goal

pub returns-then-has_start : goal.returns-then-has_start
returns-then-has_start c =
    let system = c.args.system.now in
    let b = c.args.binding.now in
    let few : length b.nodes ≤ 16777216
    = subst (λ l. length l ≤ 16777216) c.as_slice-nodes.ensures c.if-nodes-gt-MOST_NODES.false in
    let order : IsInOrder system b c.args.depth = record {
      many = few;
      ascending = subst AscendByPath c.as_slice-nodes.ensures
          (c.ascend.ensures.0 c.if-not-ascend.false);
      in_range = subst (λ l. All (IsInRange system c.args.depth) l) c.as_slice-nodes.ensures
          (c.are_in_range.ensures.0 c.if-not-are_in_range.false);
      start = c.has_start.ensures.0 c.if-has_start.true;
    } in (
      λ yes. shaped system b c.args.depth order (c.are_linked.ensures.0 yes),
      λ shape. c.are_linked.ensures.1 (links_of_shape system b c.args.depth shape),
    )

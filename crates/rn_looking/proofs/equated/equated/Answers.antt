-- Guard by guard.
use Rattle.std.proofs.Common.{sym, subst}
use Rattle.std.specs.Prelude.{Contains}
use Rattle.rn_looking.proofs.equated.equated.Goals as goal

pub equated_by-requires : goal.equated_by-requires
equated_by-requires c =
    let there = subst (λ gs. Contains gs c.guard-item.result) c.as_slice-guard-items.ensures
    (c.loop-guard.guard-index, c.loop-guard-test.true, sym c.guard-item.is) in
    record { kinds = (c.requires.node.forces, c.requires.node.guards c.guard-item.result there) }

-- By the comparison that has the variable.
use Rattle.std.proofs.Common.{sym}
use Rattle.rn_looking.proofs.KindedValues.{side_kinded}
use Rattle.rn_looking.proofs.equated.equated_in.Goals as goal

pub known_worth-requires : goal.known_worth-requires
known_worth-requires c = record {
  kinds = side_kinded c.args.growing.now c.args.head.now c.args.simples.now c.simple-item.result
      c.args.x c.in-Some.side.now c.requires.kinds
      (c.loop-simple.simple-index, c.loop-simple-test.true, sym c.simple-item.is)
      (rw c.in-Some.is at c.side_of.ensures);
}

-- The next name is new.
use Rattle.std.proofs.Common.{ap}
use Rattle.rn_numbered.proofs.NumberLemmas.{name_is_new}
use Rattle.rn_numbered.proofs.numbers.names_of.Goals as goal

pub with-requires : goal.with-requires
with-requires g c =
    name_is_new g.T.Named.name_of c.args.items.now c.loop-item.item-index c.item-item.result
    c.loop-item.names c.name.result.now.text c.loop-item-test.true c.item-item.is
    c.requires c.loop-item.invariant (ap (λ n. n.text) c.name.ensures)

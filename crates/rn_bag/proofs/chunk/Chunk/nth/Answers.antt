use Rattle.std.proofs.Common.{◌≡◌, List, get_or, subst}
use Rattle.rn_value.specs.declared.value.Value.{Value}
use Rattle.rn_bag.specs.Words.{has_bit}
use Rattle.rn_bag.proofs.CountLemmas.{nth_found}
use Rattle.rn_bag.proofs.chunk.Chunk.nth.Goals as goal

pub returns : goal.returns
returns c =
    nth_found (has_bit c.args.self.now.there) c.args.self.now.values c.slot_of.result c.args.index
    c.index-values-slot_of.result c.slot_of.ensures.inside
    (subst
    (λ (xs : List Value). c.index-values-slot_of.result ≡ get_or xs c.slot_of.result c.index-values-slot_of.result)
    c.values-values.ensures.value c.index-values-slot_of.is)
    c.slot_of.ensures.before c.slot_of.ensures.after

use Rattle.std.proofs.Common.{◌≡◌, ◌+◌, arith}
use Rattle.rn_model.specs.Lists.{count_of}
use Rattle.rn_bag.proofs.CursorLemmas.{ascends_of, count_between}
use Rattle.rn_bag.proofs.cursor.count_among.Goals as goal

pub slot_of-requires : goal.slot_of-requires
slot_of-requires c = ascends_of c.args.values.now c.requires

pub slot_of-requires-2 : goal.slot_of-requires-2
slot_of-requires-2 c = ascends_of c.args.values.now c.requires

between : (c : goal.After-slot_of-2) → count_of c.args.value.now c.args.values.now + c.slot_of-2.result ≡ c.slot_of.result
between c =
    count_between c.args.value.now c.args.values.now c.slot_of-2.result c.slot_of.result c.slot_of-2.ensures.bound c.slot_of.ensures.bound
    c.slot_of-2.ensures.before c.slot_of-2.ensures.rest c.slot_of.ensures.before c.slot_of.ensures.rest

pub overflow_sub-result : goal.overflow_sub-result
overflow_sub-result c = omega (arith, between c)

pub returns : goal.returns
returns c = omega (arith, between c)

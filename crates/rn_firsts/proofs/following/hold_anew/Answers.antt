use Rattle.std.proofs.Common.{◌∙◌}
use Rattle.rn_firsts.proofs.AfterChange.{few_are_near, live_holders}
use Rattle.rn_firsts.proofs.following.hold_anew.Goals as goal

pub hold_all-requires : goal.hold_all-requires
hold_all-requires c = few_are_near c.args.table.now.marking c.requires

pub returns : goal.returns
returns c system =
    live_holders system c.args.table.now.marking c.as_slice.result.now
    c.hold_all.new.holders.items (c.as_slice.ensures.value ∙ c.in_ok-numbers.ensures)
    c.in_ok-hold_all.ensures.has

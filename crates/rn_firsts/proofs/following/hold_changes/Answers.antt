use Rattle.rn_firsts.proofs.AfterChange.{few_are_near, holders_after}
use Rattle.rn_firsts.proofs.following.hold_changes.Goals as goal

pub hold_all-requires : goal.hold_all-requires
hold_all-requires c = few_are_near c.args.table.now.marking c.requires

pub returns-then-held : goal.returns-then-held
returns-then-held c system before was comes =
    holders_after system c.args.changed.now before c.args.table.now.marking comes
    c.args.holders.now.items c.hold_all.new.holders.items (was c.if-held.true)
    c.in_ok-hold_all.ensures.keep c.in_ok-hold_all.ensures.has

pub returns : goal.returns
returns c system before was comes = c.in_ok-hold_anew.ensures system

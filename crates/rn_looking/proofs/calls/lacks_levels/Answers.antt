-- By the least number of levels that suffices for its transition.
use Rattle.std.proofs.Common.{◌≡◌, false, arith}
use Rattle.std.proofs.lemmas.Bool.Decides.{nat_tests}
use Rattle.rn_looking.proofs.LevelLooks.{looked_head, too_few_is_stuck}
use Rattle.rn_looking.proofs.calls.lacks_levels.Goals as goal

pub has_levels-requires-clause-net : goal.has_levels-requires-clause-net
has_levels-requires-clause-net c =
    (looked_head c.args.at.problem.now c.args.at.growing.now c.args.at.node c.args.at.head.now
    c.args.at.transition.now c.requires).net

pub has_levels-requires-clause-transition : goal.has_levels-requires-clause-transition
has_levels-requires-clause-transition c =
    (looked_head c.args.at.problem.now c.args.at.growing.now c.args.at.node c.args.at.head.now
    c.args.at.transition.now c.requires).transition

pub returns : goal.returns
returns c lacks =
    let not_so : c.has_levels.result ≡ false = grind (arith, nat_tests, lacks) in
    too_few_is_stuck c.args.at.problem.now c.args.at.growing.now c.args.at.node c.args.at.head.now
    c.args.at.transition.now c.what_may_be_cut.ensures.room c.requires
    (c.has_levels.ensures.lacks not_so)

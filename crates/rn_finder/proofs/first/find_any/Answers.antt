use Rattle.rn_finder.proofs.Branches.{opened_at}
use Rattle.rn_finder.proofs.first.find_any.Goals as goal

pub find-found-requires : goal.find-found-requires
find-found-requires c =
    opened_at c.args.sought.now c.args.system.now c.open-branch.result c.requires
    c.open-branch.ensures

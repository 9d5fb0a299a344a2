use Rattle.rn_finder.proofs.Branches.{opened_at}
use Rattle.rn_finder.proofs.first.find_lesser.Goals as goal

pub find-found-requires : goal.find-found-requires
find-found-requires c = (
  opened_at c.args.lesser.now.sought c.args.system.now c.open_lesser-branch.result.branch
      c.requires.system c.open_lesser-branch.ensures,
  c.requires.known,
)

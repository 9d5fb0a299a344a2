use Rattle.rn_finder.proofs.StraightSearch.{only_is_first}
use Rattle.rn_finder.proofs.first.first_sought.Goals as goal

pub returns-in-Ended : goal.returns-in-Ended
returns-in-Ended c =
    only_is_first c.args.sought c.in-Ended.found (rw c.in-Ended.is at c.in_ok-found.ensures)

use Rattle.std.proofs.Common.{subst}
use Rattle.rn_finder.specs.Starting.{AreNoStartsBetween}
use Rattle.rn_finder.proofs.StartingBindings.{found_all_round}
use Rattle.rn_finder.proofs.finding.Finding.find_round.Goals as goal

pub returns-clause-none : goal.returns-clause-none
returns-clause-none g c =
    let system = c.args.marked.system.now in
    let table = c.args.marked.table.now in
    let from = c.args.self.now.turns.home.number in
    found_all_round system c.args.marked.uplinks.now table c.args.marked.depth c.requires.searched from
    c.in_ok-found-2.found
    (subst (AreNoStartsBetween system table c.args.marked.depth from) c.next-end.ensures.number
    (rw c.in_default.is at c.in_ok-found.ensures.none))
    c.in_ok-found-2.ensures.found c.in_ok-found-2.ensures.none

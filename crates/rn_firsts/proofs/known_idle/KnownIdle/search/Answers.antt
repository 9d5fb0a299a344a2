use Rattle.std.proofs.Common.{sym, subst}
use Rattle.rn_firsts.specs.Resting.{KnowsIdle}
use Rattle.rn_firsts.proofs.known_idle.KnownIdle.search.Goals as goal

pub find_beside-requires-clause-idle : goal.find_beside-requires-clause-idle
find_beside-requires-clause-idle g c =
    (subst (KnowsIdle c.args.marked.system.now c.args.marked.table.now.marking c.args.marked.depth) (sym c.self.view_is)
    c.requires.known).idle

pub returns-clause-known : goal.returns-clause-known
returns-clause-known g c = record {
  idle = c.find_beside.ensures.idle;
  held = (subst (KnowsIdle c.args.marked.system.now c.args.marked.table.now.marking c.args.marked.depth)
      (sym c.self.view_is) c.requires.known).held;
}

-- The depth of the search is that of the run.
use Rattle.std.proofs.Common.{subst}
use Rattle.std.specs.Prelude.{◌↔◌, IsTrue}
use Rattle.rn_model.specs.Enabling.{DeadAt}
use Rattle.rn_replay.proofs.searching.finished.Goals as goal

pub finish_replay-requires-clause-dead : goal.finish_replay-requires-clause-dead
finish_replay-requires-clause-dead c =
    let s = c.args.state in
    subst (λ depth. IsTrue c.in_ok-dead.dead ↔ DeadAt s.setup.system s.table.marking depth) c.requires.depth
    c.in_ok-dead.ensures

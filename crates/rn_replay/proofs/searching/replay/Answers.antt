-- The replay is done, or goes on in a state of this system and these options.
use Rattle.std.proofs.Common.{ap, sym, subst}
use Rattle.std.specs.Prelude.{Ok}
use Rattle.rn_replay.specs.Replays.{Begins, Replays}
use Rattle.rn_replay.proofs.searching.replay.Goals as goal

pub returns-in-Done : goal.returns-in-Done
returns-in-Done c =
    subst (λ x. Begins c.args.system.value c.args.options c.args.told.now (Ok x)) c.in-Done.is c.in_ok-begun.ensures

pub finished-requires-clause-unsearched : goal.finished-requires-clause-unsearched
finished-requires-clause-unsearched c =
    let begun = subst (λ x. Begins c.args.system.value c.args.options c.args.told.now (Ok x)) c.in-Dead.is c.in_ok-begun.ensures in
    begun.1

pub finished-requires-clause-depth : goal.finished-requires-clause-depth
finished-requires-clause-depth c =
    let begun = subst (λ x. Begins c.args.system.value c.args.options c.args.told.now (Ok x)) c.in-Dead.is c.in_ok-begun.ensures in
    sym (ap (λ u. u.options.depth) begun.0)

pub returns-in-Dead : goal.returns-in-Dead
returns-in-Dead c =
    let begun = subst (λ x. Begins c.args.system.value c.args.options c.args.told.now (Ok x)) c.in-Dead.is c.in_ok-begun.ensures in
    subst (λ u. Replays u.system u.options c.args.told.now c.finished.result) begun.0 c.finished.ensures

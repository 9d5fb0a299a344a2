-- What isn't certified isn't sound.
use Rattle.std.proofs.Common.{sym, subst}
use Rattle.std.specs.Prelude.{Err}
use Rattle.rn_replay.specs.link.Parts.{Certified}
use Rattle.rn_replay.proofs.Refusals.{not_certified}
use Rattle.rn_replay.proofs.firing.certified.Goals as goal

pub returns-in-Err : goal.returns-in-Err
returns-in-Err c =
    let system = c.args.system.now in
    subst (λ u. Certified system c.args.depth c.args.binding (Err u)) (sym c.unfit_by.ensures)
    (not_certified system c.args.depth c.args.binding c.in-Err.lack c.in-Err.ensures)

use Rattle.std.proofs.Common.{subst}
use Rattle.rn_term.specs.link.Kept.{IsClosed}
use Rattle.rn_term.proofs.Closed.{flagged_is_closed}
use Rattle.rn_term.proofs.store.Store.is_closed.Goals as goal

pub returns : goal.returns
returns c = record {
  closed = λ yes.
      subst (λ s. IsClosed s c.args.id) c.self.view_is
      (flagged_is_closed _ c.self.inside.flags.items c.args.id c.self.invariant.sound
      c.self.invariant.flagged (c.is_flagged.ensures.0 yes));
}

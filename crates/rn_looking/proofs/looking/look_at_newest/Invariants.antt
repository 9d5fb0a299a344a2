-- It goes on, whatever the newest decisions came to.
use Rattle.rn_looking.specs.link.Views.{AllLooked}
use Rattle.rn_looking.specs.Looks.{Urges}
use Rattle.rn_looking.proofs.looking.look_at_newest.Given as goal

abbrev pub invariant-loop-node : goal.invariant-loop-node
invariant-loop-node l = record {
  urges : Urges l.best;
  looked : AllLooked l.branch l.best;
}

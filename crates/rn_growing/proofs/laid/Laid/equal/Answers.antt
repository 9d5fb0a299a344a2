use Rattle.rn_unify.proofs.EarlierMarks.{grown}
use Rattle.rn_growing.proofs.LaidSteps.{laid_later, equal_answer}
use Rattle.rn_growing.proofs.laid.Laid.equal.Goals as goal

pub invariant_of-self : goal.invariant_of-self
invariant_of-self c =
    laid_later c.self.inside.slots c.self.inside.store c.unify.new.store
    (grown c.self.inside.store c.unify.new.store c.unify.ensures.earlier).not_later.0
    c.self.invariant

pub returns-clause-equates : goal.returns-clause-equates
returns-clause-equates c =
    equal_answer c.unify.result c.self.inside.store c.unify.new.store c.self.inside.slots
    c.args.self.now c.args.p c.args.q c.self.view_is c.self.invariant c.unify.ensures.earlier
    c.requires.p_within c.requires.q_within c.unify.ensures.exact c.unify.ensures.means

use Rattle.std.proofs.Common.{◌≤◌, length, arith}
use Rattle.rn_unify.proofs.EarlierMarks.{grown}
use Rattle.rn_growing.proofs.BringingSteps.{gets_answer}
use Rattle.rn_growing.proofs.bringing.give.Goals as goal

pub equal-requires-clause-p_within : goal.equal-requires-clause-p_within
equal-requires-clause-p_within c =
    let more : length c.args.laid.now.store.terms ≤ length c.atom.new.self.store.terms =
    (grown c.args.laid.now.store c.atom.new.self.store
    c.atom.ensures.grows.store).not_later.0 in
    let within = c.requires in
    omega (arith, more, within)

pub returns-clause-gets : goal.returns-clause-gets
returns-clause-gets c =
    gets_answer c.equal.result c.args.laid.now c.atom.new.self c.equal.new.self c.args.id
    c.in_ok-atom.atom c.args.value c.frame-laid_in.ensures.laid c.requires
    c.in_ok-atom.ensures.built c.atom.ensures.grows c.equal.ensures.equates

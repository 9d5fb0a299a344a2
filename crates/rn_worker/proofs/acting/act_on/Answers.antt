-- What was listed isn't live, what was found stays so while that is dropped, and the log is added to.
use Rattle.rn_worker.proofs.DroppingFirst.{added_still, found_still, none_listed}
use Rattle.rn_worker.proofs.acting.act_on.Goals as goal

pub drop_planned-swept-requires : goal.drop_planned-swept-requires
drop_planned-swept-requires c = none_listed c.args.plan.now c.args.state.now c.args.seen c.requires.plan

pub commit_planned-fired-requires-clause-plan : goal.commit_planned-fired-requires-clause-plan
commit_planned-fired-requires-clause-plan c =
    found_still c.args.plan.now c.args.state.now c.drop_planned-swept.new.state c.args.seen
    c.drop_planned-swept.ensures.kept c.requires.plan

pub returns-clause-added : goal.returns-clause-added
returns-clause-added c =
    added_still c.args.worker c.commit_planned-fired.result c.args.state.now
    c.drop_planned-swept.new.state c.commit_planned-fired.new.state
    c.drop_planned-swept.ensures.kept c.commit_planned-fired.ensures.added

pub returns-clause-dropped : goal.returns-clause-dropped
returns-clause-dropped c =
    (c.drop_planned-swept.new.state, c.drop_planned-swept.ensures.swept, c.commit_planned-fired.ensures.table)

-- The firing is done, or ends the run, and the table of before is kept.
use Rattle.std.proofs.Common.{◌++◌, ◌∷◌, [], ap, subst, ◌∙◌}
use Rattle.std.specs.Prelude.{Ok}
use Rattle.rn_fire.specs.States.{State}
use Rattle.rn_session.specs.link.Keeping.{CommitsTo}
use Rattle.rn_session.proofs.Committed.{commits_to}
use Rattle.rn_session.proofs.Sessions.{with_one_more}
use Rattle.rn_session.proofs.session.Session.commit.Goals as goal

pub invariant_of-self-2 : goal.invariant_of-self-2
invariant_of-self-2 c =
    let old : State = c.self.inside.state in
    let going = ap (λ (s : State). s.ended) c.self.view_is ∙ c.requires.going in
    let t = c.in_ok-before.before in
    with_one_more old c.commit-committed.new.self c.self.inside.options c.self.inside.uplinks c.self.inside.kept.items
    c.push_reserved.new.self.items t c.self.inside.firsts c.self.inside.looked c.args.candidate.now c.length-seen.result c.commit-committed.result
    c.told.result c.in_ok-answer.answer c.self.invariant going c.length-length.ensures.state
    (c.in_ok-before.ensures ∙ c.table.ensures.table)
    (c.push_reserved.ensures.items ∙ ap (λ ts. ts ++ t ∷ []) c.reserve.ensures.items)
    c.commit-committed.ensures c.told.ensures c.in_ok-answer.was

pub returns : goal.returns
returns c =
    let old : State = c.self.inside.state in
    let new = c.commit-committed.new.self in
    let b = c.args.candidate.now in
    subst (λ x. CommitsTo x b (Ok c.in_ok-answer.answer) new) c.self.view_is
    (subst (λ r. CommitsTo old b r new) c.in_ok-answer.was
    (commits_to old new b c.length-seen.result c.commit-committed.result c.told.result
    c.commit-committed.ensures c.told.ensures))

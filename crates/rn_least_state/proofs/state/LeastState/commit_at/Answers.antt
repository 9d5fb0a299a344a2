-- The log is just as long as was seen, so what was the least is it still.
use Rattle.std.proofs.Common.{sym, subst}
use Rattle.rn_fire.specs.States.{State}
use Rattle.rn_fire.proofs.StateLemmas.{going_on}
use Rattle.rn_least_state.specs.CommitsAt.{CommitsAt, WasLeast}
use Rattle.rn_least_state.proofs.LeastLogs.{committed_at, committed_least, just_seen}
use Rattle.rn_least_state.proofs.state.LeastState.commit_at.Goals as goal

pub invariant_of-self : goal.invariant_of-self
invariant_of-self c =
    let s : State = c.self.inside.state in
    let was : WasLeast s c.args.candidate.now c.args.seen =
    subst (λ x. WasLeast x c.args.candidate.now c.args.seen) (sym c.self.view_is) c.requires.seen in
    let going = going_on s.ended (λ some.
    let e = c.if-has_ended.ensures.ended.1 some in let no : ⊥ = cc in no) in
    let count = just_seen s c.args.seen c.length-now.result going was.firings
    c.length-now.ensures.length c.if-seen-now.false in
    committed_least s c.commit-answer.new.self c.args.worker c.args.candidate.now c.args.seen count was
    c.self.invariant c.length-length.ensures.state c.commit-answer.result c.commit-answer.ensures

pub returns : goal.returns
returns c =
    let s : State = c.self.inside.state in
    let was : WasLeast s c.args.candidate.now c.args.seen =
    subst (λ x. WasLeast x c.args.candidate.now c.args.seen) (sym c.self.view_is) c.requires.seen in
    let going = going_on s.ended (λ some.
    let e = c.if-has_ended.ensures.ended.1 some in let no : ⊥ = cc in no) in
    let count = just_seen s c.args.seen c.length-now.result going was.firings
    c.length-now.ensures.length c.if-seen-now.false in
    let told = committed_at s c.commit-answer.new.self c.args.worker c.args.candidate.now c.args.seen
    count was c.commit-answer.result c.commit-answer.ensures in
    subst (λ x. CommitsAt x c.args.worker c.args.candidate.now c.args.seen c.answer_at.result
    c.commit-answer.new.self) c.self.view_is
    (subst (λ a. CommitsAt s c.args.worker c.args.candidate.now c.args.seen a
    c.commit-answer.new.self) (sym c.answer_at.ensures) told)

-- A firing that wasn't refused added an entry.
use Rattle.std.proofs.Common.{◌++◌, sym, ap, subst, ◌∙◌}
use Rattle.std.proofs.lemmas.Result.{on_ok_weaker}
use Rattle.rn_fire.specs.States.{State}
use Rattle.rn_session.specs.link.Serving.{HasLast, last_text}
use Rattle.rn_session.proofs.AnsweredLines.{fire_answered, has_come, last_of_come}
use Rattle.rn_session.proofs.answering.put_fire.Goals as goal

pub put_last-requires : goal.put_last-requires
put_last-requires c =
    let old : State = c.args.session.now in
    let new : State = c.fire.new.self in
    let fires = c.in_ok-fired.ensures in
    let none = sym c.refusal_of.ensures ∙ c.in-None.is in
    subst (HasLast new) (sym c.requires)
    (last_of_come old new c.state-state.ensures.session.state
    (has_come old new c.args.k c.in_ok-fired.fired fires.0 fires.1 none))

pub returns-in_ok-put_last-in-None-clause-text : goal.returns-in_ok-put_last-in-None-clause-text
returns-in_ok-put_last-in-None-clause-text c =
    let old : State = c.args.session.now in
    let new : State = c.fire.new.self in
    let fires = c.in_ok-fired.ensures in
    let none = sym c.refusal_of.ensures ∙ c.in-None.is in
    let wrote = c.in_ok-put_last-in-None.ensures.text ∙ ap (λ ns. c.args.out.now.items ++ last_text new ns) c.requires in
    on_ok_weaker c.put_ok.result
    (fire_answered old new c.args.k c.in_ok-fired.fired c.args.out.now.items c.put_last.new.out.items
    c.put_ok.new.out.items fires.0 fires.1 none wrote) c.put_ok.ensures

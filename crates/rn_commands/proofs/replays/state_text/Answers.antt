-- By the firings and the end of its log.
use Rattle.std.proofs.Common.{◌≡◌, length, sym, subst}
use Rattle.std.specs.Prelude.{IfOk, IfSome}
use Rattle.rn_commands.specs.Replaying.{replayed_text}
use Rattle.rn_commands.proofs.replays.state_text.Goals as goal

pub returns-clause-text : goal.returns-clause-text
returns-clause-text c =
    let s = c.args.state.now in
    let r = c.replayed_text.result in
    subst (λ e. IfOk r (λ text. IfSome e (λ reason. text.items ≡ replayed_text (length s.fired) reason))) (sym c.end_reason.ensures)
    (subst (λ n. IfOk r (λ text. text.items ≡ replayed_text n c.end_reason.result.now)) c.fired_count.ensures.count
    c.replayed_text.ensures)

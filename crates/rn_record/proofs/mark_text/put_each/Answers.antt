use Rattle.std.proofs.Common.{ap, ◌∙◌, replicate}
use Rattle.std.specs.List.{flat_map}
use Rattle.rn_window.specs.Windows.{after}
use Rattle.rn_window.proofs.Windows.{chained}
use Rattle.rn_record.specs.RecordText.{token_text}
use Rattle.rn_record.proofs.RepeatedTexts.{once_more}
use Rattle.rn_record.proofs.mark_text.put_each.Goals as goal

pub loop-preserved : goal.loop-preserved
loop-preserved g c =
    let text = token_text (g.N.Naming.names c.args.names.now) in
    let value = c.args.repeat.now.value in
    c.put_token.ensures ∙ ap (λ w. after w (text value)) c.loop.invariant
    ∙ chained c.args.window.now (flat_map text (replicate c.loop.counter value)) (text value)
    ∙ ap (after c.args.window.now) (once_more text value c.loop.counter)

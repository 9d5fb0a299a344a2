-- What comes in turn is the line.
use Rattle.std.proofs.Common.{◌∷◌, [], ap, ◌∙◌}
use Rattle.rn_value.specs.Text.{numeral}
use Rattle.rn_window.specs.Windows.{after}
use Rattle.rn_commands.proofs.WrittenInTurn.{four_in_turn}
use Rattle.rn_commands.proofs.tallying.put_counted.Goals as goal

pub returns : goal.returns
returns c =
    let digits = numeral c.args.count in
    c.put-3.ensures ∙ ap (λ w. after w (10 ∷ [])) (c.put_numeral.ensures
    ∙ ap (λ w. after w digits) (c.put-2.ensures ∙ ap (λ w. after w (32 ∷ [])) c.put.ensures))
    ∙ four_in_turn c.args.window.now c.args.word.now (32 ∷ []) digits (10 ∷ [])

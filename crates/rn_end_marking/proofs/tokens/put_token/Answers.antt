use Rattle.std.proofs.Common.{◌∷◌, [], ap, ◌∙◌}
use Rattle.rn_value.specs.Text.{inst_text}
use Rattle.rn_window.specs.Windows.{after}
use Rattle.rn_window.proofs.Windows.{chained}
use Rattle.rn_spell.specs.Made.{names_of_nets}
use Rattle.rn_spell.specs.Spelling.{spelled}
use Rattle.rn_spell.proofs.Spelling.{spelled_names}
use Rattle.rn_end_marking.proofs.tokens.put_token.Goals as goal

pub returns : goal.returns
returns c =
    let token = c.args.token.now in
    let names = names_of_nets c.args.names.now.system.now c.args.names.now.nets.now in
    let old = c.args.window.now in
    c.put_value.ensures
    ∙ ap (λ w. after w (spelled token (inst_text names))) c.put_byte.ensures
    ∙ chained old (32 ∷ []) (spelled token (inst_text names))
    ∙ ap (λ t. after old (32 ∷ t)) (spelled_names token names)

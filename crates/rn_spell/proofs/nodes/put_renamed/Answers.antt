use Rattle.std.proofs.Common.{ap, ◌∙◌}
use Rattle.rn_window.specs.Windows.{after}
use Rattle.rn_spell.proofs.Spelling.{spelled_renamed}
use Rattle.rn_spell.proofs.nodes.put_renamed.Goals as goal

pub returns : goal.returns
returns g c = c.put_value.ensures ∙ ap (λ text. after c.args.window.now text) (spelled_renamed c.args.value.now (g.N.Naming.renamed c.args.naming.now) (g.N.Naming.names c.args.naming.now))

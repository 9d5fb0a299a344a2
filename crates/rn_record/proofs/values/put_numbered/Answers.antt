use Rattle.std.proofs.Common.{ap, ◌∙◌}
use Rattle.rn_window.specs.Windows.{after}
use Rattle.rn_record.proofs.NumberedValues.{spelled_numbered}
use Rattle.rn_record.proofs.values.put_numbered.Goals as goal

pub returns : goal.returns
returns g c =
    let names = g.N.Naming.names c.args.names.now in
    let rename = g.N.Naming.renamed c.args.names.now in
    c.put_value.ensures ∙ ap (after c.args.window.now) (spelled_numbered c.args.value.now names rename c.requires)

-- Another number of values.
use Rattle.std.proofs.Common.{◌∙◌, map, sym}
use Rattle.std.proofs.lemmas.List.{length-map}
use Rattle.rn_lines.specs.link.NodeSeen.{given}
use Rattle.rn_lookup.proofs.GivenLemmas.{other_number}
use Rattle.rn_lookup.proofs.nodes.values_fit.Goals as goal

pub returns-then-all-vars : goal.returns-then-all-vars
returns-then-all-vars c =
    other_number c.args.net.now (map given c.args.all.now) c.args.vars.now
    (λ same. c.if-all-vars.true (sym (length-map c.args.all.now given) ∙ same))

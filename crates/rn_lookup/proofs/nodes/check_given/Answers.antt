-- Values that fit are as many as the variables.
use Rattle.std.proofs.Common.{◌≡◌, ◌∙◌, map, sym, true, rules}
use Rattle.std.proofs.lemmas.List.{length-map}
use Rattle.rn_lines.specs.link.NodeSeen.{given}
use Rattle.rn_lookup.specs.Found.{values_fit}
use Rattle.rn_lookup.proofs.GivenLemmas.{as_many}
use Rattle.rn_lookup.proofs.nodes.check_given.Goals as goal

pub variables_fit-requires : goal.variables_fit-requires
variables_fit-requires c =
    let fit : values_fit c.net_at-net.result.now (map given c.args.all.now) c.vars_of-vars.result.now ≡ true = search rules in
    sym (length-map c.args.all.now given)
    ∙ as_many c.net_at-net.result.now (map given c.args.all.now) c.vars_of-vars.result.now fit

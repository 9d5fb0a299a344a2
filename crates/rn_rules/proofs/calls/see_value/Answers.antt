-- The value, and that it has the variable's kind.
use Rattle.std.proofs.Common.{◌∙◌, ap}
use Rattle.std.specs.Prelude.{option_copied}
use Rattle.rn_declared.specs.Faults.{first_from}
use Rattle.rn_rules.specs.Expressions.{Seen, seen_of}
use Rattle.rn_rules.specs.link.Sights.{where_of, misfit_if}
use Rattle.rn_rules.proofs.CallLemmas.{value_told}
use Rattle.rn_rules.proofs.calls.see_value.Goals as goal

pub returns : goal.returns
returns g c =
    let s : Seen = seen_of c.args.value.now (where_of c.args.here.now) in
    let known = c.args.first.now.fault in
    let pattern = option_copied c.args.pattern in
    c.tell_misfit_if.ensures
    ∙ ap (λ k. first_from k (misfit_if c.in_ok-sight.sight pattern)) c.in_ok-sight.ensures.told
    ∙ ap (λ x. first_from (first_from known s.faults) (misfit_if x pattern)) c.in_ok-sight.ensures.sight
    ∙ value_told g.row.N.Denot known pattern s

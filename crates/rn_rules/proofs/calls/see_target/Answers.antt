-- The target, and that it is a net.
use Rattle.std.proofs.Common.{◌∙◌, ap}
use Rattle.rn_declared.specs.declared.pattern.Pattern.TheVariants as Pattern
use Rattle.rn_declared.specs.Faults.{first_from}
use Rattle.rn_rules.specs.Expressions.{Seen, seen_of}
use Rattle.rn_rules.specs.link.Sights.{where_of, misfit_of}
use Rattle.rn_rules.proofs.CallLemmas.{target_told}
use Rattle.rn_rules.proofs.calls.see_target.Goals as goal

pub returns : goal.returns
returns g c =
    let s : Seen = seen_of c.args.target.now (where_of c.args.here.now) in
    let known = c.args.first.now.fault in
    c.tell_no_net.ensures
    ∙ ap (λ k. first_from k (misfit_of c.in_ok-sight.sight Pattern.Net)) c.in_ok-sight.ensures.told
    ∙ ap (λ x. first_from (first_from known s.faults) (misfit_of x Pattern.Net)) c.in_ok-sight.ensures.sight
    ∙ target_told g.row.N.Denot known s

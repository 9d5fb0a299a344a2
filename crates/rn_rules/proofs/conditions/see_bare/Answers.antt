-- The expression, and that it stands for no comparison.
use Rattle.std.proofs.Common.{◌∙◌, ap}
use Rattle.rn_declared.specs.declared.fault.Rule.TheVariants as Rule
use Rattle.rn_declared.specs.Faults.{first_from, first_with, broken}
use Rattle.rn_rules.specs.Expressions.{Seen, seen_of}
use Rattle.rn_rules.specs.link.Sights.{where_of}
use Rattle.rn_rules.proofs.ConditionLemmas.{bare_told}
use Rattle.rn_rules.proofs.conditions.see_bare.Goals as goal

pub returns : goal.returns
returns g c =
    let e : Seen = seen_of c.args.e.now (where_of c.args.here.now) in
    let known = c.args.first.now.fault in
    c.tell.ensures
    ∙ ap (λ k. first_with k (broken Rule.Comparison c.in_ok-sight.sight.spot)) c.in_ok-sight.ensures.told
    ∙ ap (λ s. first_with (first_from known e.faults) (broken Rule.Comparison s.spot)) c.in_ok-sight.ensures.sight
    ∙ bare_told known e

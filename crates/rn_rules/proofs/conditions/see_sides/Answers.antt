-- Both sides, and that they are apart.
use Rattle.std.proofs.Common.{◌∙◌, ap}
use Rattle.rn_declared.specs.declared.fault.Rule.TheVariants as Rule
use Rattle.rn_declared.specs.Faults.{first_from, broken_if}
use Rattle.rn_rules.specs.Expressions.{Seen, seen_of}
use Rattle.rn_rules.specs.link.Sights.{where_of, sight_of, are_apart}
use Rattle.rn_rules.proofs.ConditionLemmas.{sides_told}
use Rattle.rn_rules.proofs.conditions.see_sides.Goals as goal

pub returns : goal.returns
returns g c =
    let place = where_of c.args.here.now in
    let a : Seen = seen_of c.args.a.now place in
    let b : Seen = seen_of c.args.b.now place in
    let known = c.args.first.now.fault in
    c.tell_apart.ensures
    ∙ ap (λ k. first_from k (broken_if (are_apart c.in_ok-left.left c.in_ok-right.right) Rule.Kinds c.in_ok-left.left.spot))
    (c.in_ok-right.ensures.told ∙ ap (λ k. first_from k b.faults) c.in_ok-left.ensures.told)
    ∙ ap (λ s. first_from (first_from (first_from known a.faults) b.faults) (broken_if (are_apart s c.in_ok-right.right) Rule.Kinds s.spot)) c.in_ok-left.ensures.sight
    ∙ ap (λ s. first_from (first_from (first_from known a.faults) b.faults) (broken_if (are_apart (sight_of a) s) Rule.Kinds a.spot)) c.in_ok-right.ensures.sight
    ∙ sides_told g.row.N.Denot known a b

-- Both sides.
use Rattle.std.proofs.Common.{◌∙◌, ap}
use Rattle.rn_declared.specs.Faults.{first_from}
use Rattle.rn_rules.specs.Expressions.{Seen, seen_of, operand_faults}
use Rattle.rn_rules.specs.link.Sights.{where_of}
use Rattle.rn_rules.proofs.SightLemmas.{operands_told}
use Rattle.rn_rules.proofs.conditions.see_operands.Goals as goal

pub returns : goal.returns
returns g c =
    let place = where_of c.args.here.now in
    let a : Seen = seen_of c.args.a.now place in
    let b : Seen = seen_of c.args.b.now place in
    c.in_ok-see_operand-2.ensures.told
    ∙ ap (λ k. first_from k (operand_faults b)) c.in_ok-see_operand.ensures.told
    ∙ operands_told c.args.first.now.fault a b

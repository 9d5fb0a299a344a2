use Rattle.rn_holders.proofs.ReferenceLemmas.{just_referred}
use Rattle.rn_holders.proofs.references.referred.Goals as goal

pub returns : goal.returns
returns c =
    just_referred c.args.table.now.marking c.args.number c.new-numbers.result.items c.put_instance.new.numbers.items
    c.new-numbers.ensures.items c.in_ok-put_instance.ensures

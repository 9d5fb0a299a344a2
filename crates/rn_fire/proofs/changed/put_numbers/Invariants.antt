use Rattle.rn_fire.specs.link.Changed.{Gets}
use Rattle.rn_fire.proofs.ChangedLemmas.{Between}
use Rattle.rn_fire.proofs.changed.put_numbers.Given as goal

abbrev pub invariant-loop-number : goal.invariant-loop-number
invariant-loop-number l =
    Gets (Between l.from l.number l.end) l.initial.changed.items l.changed.items

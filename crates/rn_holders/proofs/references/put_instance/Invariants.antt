use Rattle.std.proofs.Common.{take}
use Rattle.std.specs.List.{list_any}
use Rattle.rn_model.specs.Liveness.{mentions}
use Rattle.rn_live.specs.link.Marks.{places_of}
use Rattle.rn_holders.specs.link.Puts.{Puts}
use Rattle.rn_holders.proofs.references.put_instance.Given as goal

abbrev pub invariant-loop-place : goal.invariant-loop-place
invariant-loop-place l =
    Puts (λ n. list_any (λ tokens. list_any (λ token. mentions token n) tokens)
    (take l.place (places_of l.table.marking l.number))) l.initial.numbers.items l.numbers.items

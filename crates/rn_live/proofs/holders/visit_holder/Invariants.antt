use Rattle.std.proofs.Common.{take}
use Rattle.std.specs.List.{list_any}
use Rattle.rn_model.specs.Liveness.{mentions}
use Rattle.rn_live.specs.link.Marks.{FindsIn, places_of}
use Rattle.rn_live.proofs.holders.visit_holder.Given as goal

abbrev pub invariant-loop-place : goal.invariant-loop-place
invariant-loop-place l = FindsIn l.table.marking (λ n. list_any (λ tokens. list_any (λ token. mentions token n) tokens) (take l.place (places_of l.table.marking l.number))) l.initial.found l.found

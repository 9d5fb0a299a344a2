use Rattle.std.proofs.Common.{◌≡◌, drop}
use Rattle.std.specs.Prelude.{is_some}
use Rattle.std.specs.List.{list_any}
use Rattle.rn_arcs.proofs.room.net_is_limited.Given as goal

abbrev pub invariant-loop-place : goal.invariant-loop-place
invariant-loop-place l =
    list_any (λ p. is_some p.max) (drop l.place-index l.place-items)
    ≡ list_any (λ p. is_some p.max) l.place-items

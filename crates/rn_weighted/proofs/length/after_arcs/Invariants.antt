use Rattle.std.proofs.Common.{◌≡◌, ◌+◌, drop, map}
use Rattle.std.specs.Prelude.{sum_by}
use Rattle.rn_weighted.specs.TextLength.{arc_length}
use Rattle.rn_weighted.proofs.length.after_arcs.Given as goal

abbrev pub invariant-loop-arc : goal.invariant-loop-arc
invariant-loop-arc l = l.left + sum_by (arc_length (map (λ p. p.name) l.places)) l.arcs ≡ l.initial.left + sum_by (arc_length (map (λ p. p.name) l.places)) (drop l.arc-index l.arcs)

use Rattle.std.proofs.Common.{◌≡◌, ◌+◌, drop, map}
use Rattle.std.specs.Prelude.{sum_by}
use Rattle.rn_weighted.specs.TextLength.{transition_length}
use Rattle.rn_weighted.proofs.length.after_transitions.Given as goal

abbrev pub invariant-loop-transition : goal.invariant-loop-transition
invariant-loop-transition l = l.left + sum_by (transition_length (map (λ p. p.name) l.places)) l.transitions ≡ l.initial.left + sum_by (transition_length (map (λ p. p.name) l.places)) (drop l.transition-index l.transitions)

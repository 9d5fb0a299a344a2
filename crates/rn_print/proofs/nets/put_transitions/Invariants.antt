-- The lines so far are written.
use Rattle.std.proofs.Common.{◌≡◌, ◌++◌, take}
use Rattle.std.specs.List.{flat_map}
use Rattle.rn_print.specs.Nets.{transition_text}
use Rattle.rn_print.proofs.nets.put_transitions.Given as goal

abbrev pub invariant-loop-transition : goal.invariant-loop-transition
invariant-loop-transition l =
    l.out.items ≡ l.initial.out.items ++ flat_map (transition_text l.notation) (take l.transition-index l.transitions)

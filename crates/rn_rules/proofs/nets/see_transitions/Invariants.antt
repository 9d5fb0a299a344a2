-- What was reported is that of the transitions so far.
use Rattle.std.proofs.Common.{◌≡◌, take}
use Rattle.std.specs.Prelude.{flat_map}
use Rattle.rn_declared.specs.Faults.{first_from}
use Rattle.rn_rules.specs.link.Scopes.{scope_in}
use Rattle.rn_rules.specs.Transitions.{transition_faults}
use Rattle.rn_rules.proofs.nets.see_transitions.Given as goal

abbrev pub invariant-loop-transition : goal.invariant-loop-transition
invariant-loop-transition g l =
    l.first.fault
    ≡ first_from l.initial.first.fault
    (flat_map (transition_faults (scope_in l.fn.known)) (take l.transition-index l.transitions))

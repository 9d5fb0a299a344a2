-- One more transition, and the end of all.
use Rattle.std.proofs.Common.{◌∙◌, ap}
use Rattle.rn_declared.specs.Faults.{first_from}
use Rattle.rn_rules.specs.link.Scopes.{scope_in}
use Rattle.rn_rules.specs.Transitions.{transition_faults}
use Rattle.rn_declared.proofs.ToldLemmas.{told_more}
use Rattle.rn_rules.proofs.nets.see_transitions.Goals as goal

pub loop-transition-preserved : goal.loop-transition-preserved
loop-transition-preserved g c =
    let faults = transition_faults (scope_in c.args.known.now) in
    c.in_ok-see_transition.ensures
    ∙ ap (λ k. first_from k (faults c.transition-item.result)) c.loop-transition.invariant
    ∙ told_more faults c.args.transitions.now c.loop-transition.transition-index
    c.transition-item.result c.args.first.now.fault c.loop-transition-test.true c.transition-item.is

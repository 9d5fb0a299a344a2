-- The inscriptions, and how many there are.
use Rattle.std.proofs.Common.{◌∙◌, ◌++◌, ap, map}
use Rattle.rn_model.specs.Limits.{most_inscriptions}
use Rattle.rn_declared.specs.Faults.{first_from, past_limit}
use Rattle.rn_declared.specs.link.Tables.{found_in}
use Rattle.rn_rules.specs.link.Scopes.{scope_in}
use Rattle.rn_rules.specs.Transitions.{at_first, inscriptions_faults}
use Rattle.rn_rules.proofs.TransitionLemmas.{transition_told}
use Rattle.rn_rules.proofs.transitions.see_transition.Goals as goal

pub returns : goal.returns
returns g c =
    c.tell_past.ensures
    ∙ transition_told (scope_in c.args.known.now) c.as_slice-inscriptions.result.now
    (found_in c.in_ok-setters.setters.table) c.in_ok-setters.setters.count c.args.first.now.fault
    c.see_inscriptions.new.first.fault c.in_ok-setters.ensures.found c.in_ok-setters.ensures.count
    c.in_ok-see_inscriptions.ensures
    ∙ ap
    (λ is. first_from c.args.first.now.fault
    (inscriptions_faults (scope_in c.args.known.now) (at_first is) is
    ++ past_limit most_inscriptions (map (λ i. i.spot) is)))
    c.as_slice-inscriptions.ensures

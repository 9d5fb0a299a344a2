-- The first transition has these arcs.
use Rattle.std.proofs.Common.{◌∙◌}
use Rattle.rn_call_tests.proofs.PlainInscriptions.{first_is}
use Rattle.rn_call_tests.proofs.capacities.system_with.Goals as goal

pub returns-clause-plain : goal.returns-clause-plain
returns-clause-plain c =
    first_is (record { nets = c.from_vec-nets.result; channels = c.new-2.result }) _
    c.in_ok-transition.transition
    (c.from_vec-nets.ensures ∙ c.in_ok-main.ensures.items)
    (c.from_vec-transitions.ensures ∙ c.in_ok-one.ensures.items) c.in_ok-transition.ensures

use Rattle.rn_gen.proofs.Accepted.{accepted, canonical, not_refused}
use Rattle.rn_gen.proofs.laws.workload_laws.Goals as goal

pub returns-clause-accepted : goal.returns-clause-accepted
returns-clause-accepted c = accepted

pub returns-clause-canonical : goal.returns-clause-canonical
returns-clause-canonical c = canonical c.net_laws.ensures.one_text

pub returns-clause-not_refused : goal.returns-clause-not_refused
returns-clause-not_refused c =
    not_refused c.net_laws.ensures.one_text c.net_laws.ensures.not_refused

use Rattle.rn_search.proofs.Ends.{stuck_leads_nowhere, leading_forces, done_are_closed}
use Rattle.rn_search.proofs.laws.stuck_means_none.Goals as goal

pub returns-clause-stuck : goal.returns-clause-stuck
returns-clause-stuck c = stuck_leads_nowhere

pub returns-clause-unforced : goal.returns-clause-unforced
returns-clause-unforced c = leading_forces

pub returns-clause-closed : goal.returns-clause-closed
returns-clause-closed c = done_are_closed

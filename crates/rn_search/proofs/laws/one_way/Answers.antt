use Rattle.rn_search.proofs.Alternatives.{none_leads_nowhere, one_way}
use Rattle.rn_search.proofs.Following.{fewer_lead, one_start}
use Rattle.rn_search.proofs.laws.one_way.Goals as goal

pub returns-clause-fewer : goal.returns-clause-fewer
returns-clause-fewer c = fewer_lead

pub returns-clause-one : goal.returns-clause-one
returns-clause-one c = one_way

pub returns-clause-none : goal.returns-clause-none
returns-clause-none c = none_leads_nowhere

pub returns-clause-start : goal.returns-clause-start
returns-clause-start c = one_start

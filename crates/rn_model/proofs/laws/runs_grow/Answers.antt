use Rattle.rn_model.proofs.RunLemmas.{runs_grow, ends_follow}
use Rattle.rn_model.proofs.laws.runs_grow.Goals as goal

pub returns-clause-run : goal.returns-clause-run
returns-clause-run c = runs_grow

pub returns-clause-end : goal.returns-clause-end
returns-clause-end c = ends_follow

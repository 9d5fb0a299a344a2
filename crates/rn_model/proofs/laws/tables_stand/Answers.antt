use Rattle.rn_model.proofs.StandingTables.{markings_stand_for_themselves, tables_have_the_same_live, tables_enable_the_same, tables_fire_alike, tables_stand_after, standing_is_transitive, dropping_keeps}
use Rattle.rn_model.proofs.laws.tables_stand.Goals as goal

pub returns-clause-live : goal.returns-clause-live
returns-clause-live c = tables_have_the_same_live

pub returns-clause-enabled : goal.returns-clause-enabled
returns-clause-enabled c = tables_enable_the_same

pub returns-clause-alike : goal.returns-clause-alike
returns-clause-alike c = tables_fire_alike

pub returns-clause-after : goal.returns-clause-after
returns-clause-after c = tables_stand_after

pub returns-clause-itself : goal.returns-clause-itself
returns-clause-itself c = markings_stand_for_themselves

pub returns-clause-transitive : goal.returns-clause-transitive
returns-clause-transitive c = standing_is_transitive

pub returns-clause-dropped : goal.returns-clause-dropped
returns-clause-dropped c = dropping_keeps

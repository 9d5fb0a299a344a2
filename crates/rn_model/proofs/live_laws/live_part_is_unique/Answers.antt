use Rattle.rn_model.proofs.LivePartIsThere.{each_has_its_live_part}
use Rattle.rn_model.proofs.OneLivePart.{live_part_is_unique, tables_have_the_same_part}
use Rattle.rn_model.proofs.live_laws.live_part_is_unique.Goals as goal

pub returns-clause-there : goal.returns-clause-there
returns-clause-there c = each_has_its_live_part

pub returns-clause-unique : goal.returns-clause-unique
returns-clause-unique c = live_part_is_unique

pub returns-clause-tables : goal.returns-clause-tables
returns-clause-tables c = tables_have_the_same_part

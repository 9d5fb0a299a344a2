use Rattle.rn_search.proofs.GuardParts.{known_parts_hold}
use Rattle.rn_search.proofs.Offered.{leading_is_solvable, nodes_have_room, known_guards_hold}
use Rattle.rn_search.proofs.Offered.{known_inhibitors_hold}
use Rattle.rn_search.proofs.Takes.{taken_are_there, known_lists_are_there}
use Rattle.rn_search.proofs.laws.what_may_be_cut.Goals as goal

pub returns-clause-solvable : goal.returns-clause-solvable
returns-clause-solvable c = leading_is_solvable

pub returns-clause-room : goal.returns-clause-room
returns-clause-room c = nodes_have_room c.calls_need_levels.ensures.needed

pub returns-clause-guards : goal.returns-clause-guards
returns-clause-guards c = known_guards_hold

pub returns-clause-parts : goal.returns-clause-parts
returns-clause-parts c = known_parts_hold

pub returns-clause-inhibitors : goal.returns-clause-inhibitors
returns-clause-inhibitors c = known_inhibitors_hold

pub returns-clause-taken : goal.returns-clause-taken
returns-clause-taken c = taken_are_there

pub returns-clause-lists : goal.returns-clause-lists
returns-clause-lists c = known_lists_are_there

use Rattle.rn_search.proofs.Left.{left_is_asked, asked_is_left, none_left_is_done}
use Rattle.rn_search.proofs.Left.{left_out_is_closed, left_is_new}
use Rattle.rn_search.proofs.laws.what_is_left.Goals as goal

pub returns-clause-asked : goal.returns-clause-asked
returns-clause-asked c = left_is_asked

pub returns-clause-left : goal.returns-clause-left
returns-clause-left c = asked_is_left

pub returns-clause-done : goal.returns-clause-done
returns-clause-done c = none_left_is_done

pub returns-clause-closed : goal.returns-clause-closed
returns-clause-closed c = left_out_is_closed

pub returns-clause-fresh : goal.returns-clause-fresh
returns-clause-fresh c = left_is_new

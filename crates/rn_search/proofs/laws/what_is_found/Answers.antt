use Rattle.rn_search.proofs.Built.{made_follows}
use Rattle.rn_search.proofs.Ends.{found_is_so}
use Rattle.rn_search.proofs.Known.{forced_are_its_values}
use Rattle.rn_search.proofs.OneBinding.{leading_is_made, made_is_one}
use Rattle.rn_search.proofs.Solved.{whole_is_only}
use Rattle.rn_search.proofs.laws.what_is_found.Goals as goal

pub returns-clause-values : goal.returns-clause-values
returns-clause-values c = forced_are_its_values

pub returns-clause-so : goal.returns-clause-so
returns-clause-so c = found_is_so

pub returns-clause-made : goal.returns-clause-made
returns-clause-made c = leading_is_made

pub returns-clause-one : goal.returns-clause-one
returns-clause-one c = made_is_one

pub returns-clause-follows : goal.returns-clause-follows
returns-clause-follows c = made_follows

pub returns-clause-only : goal.returns-clause-only
returns-clause-only c = whole_is_only

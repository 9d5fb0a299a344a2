use Rattle.rn_search.proofs.Narrowed.{known_token_is_it, known_first_part, equated_token_is_it}
use Rattle.rn_search.proofs.laws.tokens_are_narrowed.Goals as goal

pub returns-clause-whole : goal.returns-clause-whole
returns-clause-whole c = known_token_is_it

pub returns-clause-first : goal.returns-clause-first
returns-clause-first c = known_first_part

pub returns-clause-equated : goal.returns-clause-equated
returns-clause-equated c = equated_token_is_it

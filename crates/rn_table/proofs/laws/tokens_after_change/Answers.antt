use Rattle.rn_table.proofs.LawLemmas.{tokens_after}
use Rattle.rn_table.proofs.laws.tokens_after_change.Goals as goal

pub returns : goal.returns
returns c = tokens_after

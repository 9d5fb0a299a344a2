use Rattle.rn_inscript.proofs.ReadingFacts.{one_longest}
use Rattle.rn_inscript.proofs.laws.reading_laws.Goals as goal

pub returns-clause-one_longest_expression : goal.returns-clause-one_longest_expression
returns-clause-one_longest_expression c = λ tokens a b x y. one_longest x y

pub returns-clause-one_longest_inscription : goal.returns-clause-one_longest_inscription
returns-clause-one_longest_inscription c = λ tokens a b x y. one_longest x y

use Rattle.rn_inscript.proofs.Names.{refl, [], IsExpr}
use Rattle.rn_inscript.proofs.ReadingFacts.{read_answer, refusal_fact}
use Rattle.rn_inscript.proofs.ReaderExits.{err-of}
use Rattle.rn_inscript.proofs.reading.expr_at.Goals as goal

pub returns-in_err-e : goal.returns-in_err-e
returns-in_err-e c = rw (err-of c.from_residual.ensures.1) (refusal_fact 4 IsExpr _ _ _ c.requires (c.in_err-e.ensures.reads [] refl refl))

pub returns : goal.returns
returns c = read_answer c.args.tokens.now c.args.at c.in_ok-e.end c.in_ok-e.e c.requires c.in_ok-e.ensures.moved.1 (c.in_ok-e.ensures.reads [] refl refl)

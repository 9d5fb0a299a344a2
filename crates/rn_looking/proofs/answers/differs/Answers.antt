-- A variable alone is put.
use Rattle.std.proofs.lemmas.Result.{on_ok_weaker}
use Rattle.rn_looking.proofs.KindedAnswers.{puts_arg}
use Rattle.rn_looking.proofs.answers.differs.Goals as goal

pub returns-in-Var : goal.returns-in-Var
returns-in-Var c =
    on_ok_weaker c.differs_from.result (puts_arg c.args.arg.now c.in-Var.x c.args.value.now
    c.args.pairs.now.items c.differs_from.new.pairs.items c.in-Var.is) c.differs_from.ensures

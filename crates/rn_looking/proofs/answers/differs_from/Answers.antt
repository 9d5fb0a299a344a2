-- What is put beside the variable has its kind.
use Rattle.std.proofs.Common.{[], ◌∷◌, ◌++◌, ◌∙◌, ap}
use Rattle.rn_looking.proofs.KindedAnswers.{puts_var}
use Rattle.rn_looking.proofs.answers.differs_from.Goals as goal

pub returns : goal.returns
returns c =
    puts_var c.args.x c.args.value.now c.args.pairs.now.items c.push.new.self.items
    (c.in_ok-push.ensures.items
    ∙ ap (λ v. c.args.pairs.now.items ++ (c.args.x, v) ∷ []) c.in_ok-copy.ensures)

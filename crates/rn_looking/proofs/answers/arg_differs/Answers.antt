-- By what is put for a known value.
use Rattle.std.proofs.Common.{sym, subst}
use Rattle.std.proofs.lemmas.Result.{on_ok_weaker}
use Rattle.rn_looking.specs.AnswerKinds.{PutsKnown}
use Rattle.rn_looking.proofs.KindedAnswers.{puts_known}
use Rattle.rn_looking.proofs.answers.arg_differs.Goals as goal

pub returns-in-Some : goal.returns-in-Some
returns-in-Some c =
    on_ok_weaker c.differs.result
    (λ puts. subst (λ told. PutsKnown c.args.arg.now told c.args.pairs.now.items
    c.differs.new.pairs.items) (sym c.in-Some.is)
    (puts_known c.args.arg.now c.in-Some.value c.args.pairs.now.items c.differs.new.pairs.items
    puts)) c.differs.ensures

-- By what is put beside variables.
use Rattle.std.proofs.Common.{◌≡◌, sym, ap, subst}
use Rattle.rn_looking.specs.AnswerKinds.{KnowsAnswer}
use Rattle.rn_looking.proofs.KindedAnswers.{knows_answer}
use Rattle.rn_looking.proofs.answers.is_excluded.Goals as goal

pub fails_guard-requires : goal.fails_guard-requires
fails_guard-requires c =
    subst (KnowsAnswer c.args.transition.now)
    (sym (ap (λ ps. ps.items) c.of-known.ensures))
    (knows_answer c.args.transition.now c.args.values.now c.new-pairs.result.items
    c.uplink_differs.new.pairs.items c.requires c.new-pairs.ensures.items
    c.in_ok-uplink_differs.ensures)

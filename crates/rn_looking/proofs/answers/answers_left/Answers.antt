-- By the kinds of the node, and of the channel.
use Rattle.std.proofs.Common.{◌≡◌, ◌∙◌, sym, ap, subst}
use Rattle.std.specs.Prelude.{All}
use Rattle.rn_model.specs.Systems.{channel_kinds}
use Rattle.rn_looking.specs.AnswerKinds.{HaveKindsBeside, HaveKindsOfArgs}
use Rattle.rn_looking.specs.NodeKinds.{IsKindedAt}
use Rattle.rn_looking.proofs.KindedAnswers.{answers_of, args_kinded, known_beside}
use Rattle.rn_looking.proofs.answers.answers_left.Goals as goal

pub known_args-requires : goal.known_args-requires
known_args-requires c =
    subst (All (IsKindedAt c.args.at.growing.now c.args.at.head.now)) (sym c.as_slice.ensures)
    (args_kinded c.args.at.problem.now c.args.at.growing.now c.args.at.node c.args.at.head.now
    c.args.at.transition.now c.requires.at c.args.i c.args.downlink.now c.requires.link)

pub left_among-requires : goal.left_among-requires
left_among-requires c = (
  c.args.downlink.now.channel,
  answers_of c.args.at.problem.now c.args.at.growing.now c.args.at.node c.args.at.head.now
      c.args.at.transition.now c.requires.at c.args.i c.args.downlink.now c.requires.link
      c.args.called c.in-Some.net c.answers-answers.result.now c.decisions-decisions.result.now
      c.decisions-decisions.ensures c.answers-answers.ensures
      (sym c.net_called.ensures ∙ c.in-Some.is),
  subst (HaveKindsBeside (channel_kinds c.args.at.problem.now.system c.args.downlink.now.channel))
      (sym c.as_slice-2.ensures.value)
      (known_beside c.args.at.problem.now c.args.at.growing.now c.args.at.node c.args.at.head.now
      c.args.at.transition.now c.requires.at c.args.i c.args.downlink.now c.requires.link
      c.in_ok-values.values.items
      (subst (λ args. HaveKindsOfArgs c.args.at.growing.now c.args.at.head.now args
      c.in_ok-values.values.items) c.as_slice.ensures c.in_ok-values.ensures)),
)

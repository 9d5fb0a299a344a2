-- By the kinds of the channel.
use Rattle.std.proofs.Common.{◌≡◌, ◌∙◌, ap, get_or, sym, subst}
use Rattle.std.specs.Prelude.{Some, slice_get}
use Rattle.std.proofs.lemmas.Option.{slice_get-get_or}
use Rattle.rn_model.specs.declared.system.System.{System}
use Rattle.rn_model.specs.Systems.{transition_at}
use Rattle.rn_looking.specs.AnswerKinds.{FitAnswer}
use Rattle.rn_looking.proofs.KindedAnswers.{answer_fits}
use Rattle.rn_looking.proofs.answers.left_among.Goals as goal

pub is_excluded-requires : goal.is_excluded-requires
is_excluded-requires c =
    let system = c.args.problem.now.system in
    let fit = c.requires in
    let t = get_or c.args.answers.now c.loop-a.a 0 in
    let is : c.in-Some.transition.now ≡ transition_at system c.args.net t =
    c.in-Some.ensures ∙ ap (λ (s : System). transition_at s c.args.net t) c.system.ensures.same in
    subst (λ t. FitAnswer t c.args.values.now) (sym is)
    (answer_fits system c.args.net fit.0 c.args.values.now c.system.ensures.good fit.2 c.loop-a.a t
    (subst (λ ts. slice_get ts c.loop-a.a ≡ Some t) fit.1
    (slice_get-get_or c.args.answers.now c.loop-a.a 0 c.loop-a-test.true)))

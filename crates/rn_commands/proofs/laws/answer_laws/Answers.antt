use Rattle.rn_commands.proofs.OneAnswer.{one_answer}
use Rattle.rn_commands.proofs.laws.answer_laws.Goals as goal

pub returns : goal.returns
returns c =
    one_answer c.record_laws.ensures.reading c.replay_laws.ensures.refused c.replay_laws.ensures.one

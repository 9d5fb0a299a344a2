use Rattle.rn_answering.proofs.words.command_of.Goals as goal

pub returns-in-Ok-clause-accepted : goal.returns-in-Ok-clause-accepted
returns-in-Ok-clause-accepted c = (c.read_words.ensures.accepts c.in-Ok.command).0 c.in-Ok.is

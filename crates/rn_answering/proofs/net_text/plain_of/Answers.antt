use Rattle.rn_answering.proofs.net_text.plain_of.Goals as goal

pub returns-in-Ok-clause-notation : goal.returns-in-Ok-clause-notation
returns-in-Ok-clause-notation c =
    c.net_laws.ensures.notations c.args.bytes.now c.in-Ok.plain c.in-Ok.ensures.read

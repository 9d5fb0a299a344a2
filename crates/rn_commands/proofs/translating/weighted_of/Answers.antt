-- A text of a weighted net is refused by the line of its reason, or for none.
use Rattle.rn_commands.proofs.Translations.{pt_refused, pt_unrefused}
use Rattle.rn_commands.proofs.translating.weighted_of.Goals as goal

pub returns-in-Ok-clause-unrefused : goal.returns-in-Ok-clause-unrefused
returns-in-Ok-clause-unrefused c = pt_unrefused c.args.bytes.now c.in-Ok.net c.in-Ok.ensures.refuses

pub returns-in-Err-clause-refused : goal.returns-in-Err-clause-refused
returns-in-Err-clause-refused c =
    pt_refused c.args.bytes.now c.in-Err.why c.refused_text.result c.in-Err.ensures.refused
    c.in-Err.ensures.reads c.refused_text.ensures.memory c.refused_text.ensures.line

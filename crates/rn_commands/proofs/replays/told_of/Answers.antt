-- What is told is a whole run, and the bytes are its text.
use Rattle.rn_commands.proofs.ReplayLemmas.{record_refused, whole_told}
use Rattle.rn_commands.proofs.replays.told_of.Goals as goal

pub returns-in-Ok-clause-whole : goal.returns-in-Ok-clause-whole
returns-in-Ok-clause-whole c =
    whole_told c.record_laws.ensures.whole c.args.format c.args.system.now c.args.bytes.now c.in-Ok.told c.requires.format c.in-Ok.ensures

pub returns-in-Ok-clause-spelled : goal.returns-in-Ok-clause-spelled
returns-in-Ok-clause-spelled c =
    c.record_laws.ensures.spelling c.args.system.now c.args.format c.args.bytes.now c.in-Ok.told.entries c.in-Ok.told.marks c.requires.good c.requires.format c.in-Ok.ensures

pub returns-in-Err-clause-refused : goal.returns-in-Err-clause-refused
returns-in-Err-clause-refused c options =
    record_refused c.args.format c.args.system.now options c.args.bytes.now c.in-Err.fault c.refused_record.result c.in-Err.ensures c.refused_record.ensures.memory c.refused_record.ensures.line

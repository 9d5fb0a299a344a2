-- An answer with the record of the state is written.
use Rattle.std.proofs.Common.{ap, ◌∙◌}
use Rattle.std.specs.Prelude.{Err}
use Rattle.rn_commands.proofs.ToldRuns.{breaks_record, endless_record, tells_record}
use Rattle.rn_commands.proofs.telling.write_recorded.Goals as goal

pub returns-in-Ok-clause-told : goal.returns-in-Ok-clause-told
returns-in-Ok-clause-told g c =
    tells_record c.args.state c.of-closing.result c.of-closing.ensures _ _ c.args.format c.tell.result
    _ _ c.args.err.now c.tell.new.err c.in-Ok.ensures.took c.tell.ensures

pub returns-in-Err-Write-clause-told : goal.returns-in-Err-Write-clause-told
returns-in-Err-Write-clause-told g c =
    breaks_record c.args.state c.of-closing.result c.of-closing.ensures _ _ c.args.format _
    c.args.err.now (c.pour_record.ensures.broke
    (c.in-Err-Write.is ∙ ap Err c.in-Err-Write.field-0-is))

pub returns-in-Err-Endless-clause-endless : goal.returns-in-Err-Endless-clause-endless
returns-in-Err-Endless-clause-endless g c =
    λ none. endless_record c.args.state c.of-closing.result c.of-closing.ensures c.args.format
    (c.pour_record.ensures.long (c.in-Err-Endless.is ∙ ap Err c.in-Err-Endless.field-0-is))

use Rattle.std.proofs.Common.{rules}
use Rattle.rn_answering.proofs.Causes.{net_refused_or}
use Rattle.rn_answering.specs.TextCommands.{PrintsTo}
use Rattle.rn_answering.proofs.printing.print.Goals as goal

pub returns-in_err-_system : goal.returns-in_err-_system
returns-in_err-_system c =
    let refused = net_refused_or (PrintsTo c.args.bytes.now) c.args.bytes.now c.in_ok-plain.plain c.in_err-_system.field-0.0 c.in_ok-plain.ensures.spells c.in_err-_system.ensures.refused in
    search (rules, refused)

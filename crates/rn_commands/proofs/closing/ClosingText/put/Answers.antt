-- A run that is done has no line.
use Rattle.std.proofs.Common.{sym, ap, ◌∙◌}
use Rattle.rn_window.specs.Windows.{after}
use Rattle.rn_window.proofs.Windows.{nothing}
use Rattle.rn_commands.specs.link.Closings.{closing_line}
use Rattle.rn_commands.proofs.closing.ClosingText.put.Goals as goal

pub returns-in-Done : goal.returns-in-Done
returns-in-Done c =
    sym (ap (λ closing. after c.args.window.now (closing_line closing)) c.in-Done.is
    ∙ nothing c.args.window.now)

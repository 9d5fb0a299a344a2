-- The line of a fault is short.
use Rattle.std.proofs.Common.{◌<◌, Fits, length, subst, sym, w64, arith, rules}
use Rattle.rn_window.specs.Windows.{top}
use Rattle.rn_commands.specs.link.Closings.{closing_line}
use Rattle.rn_commands.proofs.ShortLines.{fault_short}
use Rattle.rn_commands.proofs.telling.tell.Goals as goal

pub write_text-requires-clause-short : goal.write_text-requires-clause-short
write_text-requires-clause-short g c =
    let small : Fits w64 c.in-Fault.field-1 = search rules in
    let short = fault_short c.in-Fault.field-0 c.in-Fault.field-1 (omega (arith, small.fits)) in
    subst (λ closing. length (closing_line closing) < top) (sym c.in-Fault.is) (omega (arith, short))

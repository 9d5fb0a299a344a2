-- What is returned is the canonical text, and that is read back.
use Rattle.std.proofs.Common.{sym, subst}
use Rattle.rn_print.specs.ReadingBack.{IsReadBack}
use Rattle.rn_print.proofs.ReadBack.{texts_are_read_back}
use Rattle.rn_print.proofs.nets.print_system.Goals as goal

pub returns-clause-read_back : goal.returns-clause-read_back
returns-clause-read_back c =
    let plain = c.args.plain.now in
    subst (λ bytes. IsReadBack bytes plain) (sym c.in_ok-print_in.ensures) (texts_are_read_back plain)

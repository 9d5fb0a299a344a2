-- What is enabled at the start can be written there.
use Rattle.std.proofs.Common.{sym, subst}
use Rattle.std.specs.Prelude.{All}
use Rattle.rn_commands.specs.link.Bindings.{HasFirstLines}
use Rattle.rn_commands.proofs.FirstBindings.{first_lines}
use Rattle.rn_commands.proofs.bindings.enabled.Goals as goal

pub bindings_text-requires : goal.bindings_text-requires
bindings_text-requires c =
    let system = c.in_ok-system.system in
    subst (All (HasFirstLines system)) (sym c.as_slice.ensures.value)
    (first_lines system c.args.depth c.in_ok-found.found.items c.in_ok-system.ensures.good
    c.in_ok-found.ensures)

-- The log of a state can be listed.
use Rattle.std.proofs.Common.{length, sym, subst}
use Rattle.std.specs.Prelude.{IfOk}
use Rattle.rn_fire.specs.States.{logged}
use Rattle.rn_moves.specs.link.Movable.{HaveMoves}
use Rattle.rn_moves.specs.MovesText.{MovesText, nets_of}
use Rattle.rn_commands.proofs.moving.moves_text.Goals as goal

pub write_moves-requires-clause-moves : goal.write_moves-requires-clause-moves
write_moves-requires-clause-moves c =
    let s = c.args.state.now in
    let is = c.length-length.ensures.state in
    let told = c.logs_have_moves.ensures s.setup.system s.setup.options s.fired s.ended is.good is.limits is.log in
    subst (λ es. HaveMoves c.system.result.now (length (nets_of c.system.result.now es)) 2 1 es) (sym c.entries.ensures.entries)
    (subst (λ system. HaveMoves system (length (nets_of system (logged s))) 2 1 (logged s)) (sym c.system.ensures.system) told)

pub returns-clause-text : goal.returns-clause-text
returns-clause-text c =
    let s = c.args.state.now in
    subst (λ es. IfOk c.write_moves.result (λ text. MovesText s.setup.system es text.items)) c.entries.ensures.entries
    (subst (λ system. IfOk c.write_moves.result (λ text. MovesText system c.entries.result.now text.items)) c.system.ensures.system c.write_moves.ensures)

-- The net text is refused, or all lines are answered.
use Rattle.std.proofs.Common.{sym, subst, rules}
use Rattle.rn_commands.specs.Stepping.{SessionComesTo}
use Rattle.rn_commands.proofs.SessionLemmas.{net_stops_session, session_done}
use Rattle.rn_commands.proofs.stepping.session.Goals as goal

pub returns-in_err-system : goal.returns-in_err-system
returns-in_err-system c =
    let stops = net_stops_session c.args.options c.args.bytes.now c.parted.result.0.now c.parted.result.1.now c.parted.ensures
    c.in_err-system.field-0.0 c.in_err-system.ensures.refused in
    search (rules, stops)

pub returns : goal.returns
returns c =
    let options = c.args.options in
    let bytes = c.args.bytes.now in
    subst (SessionComesTo options bytes) (sym c.done.ensures)
    (session_done options bytes c.parted.result.0.now c.parted.result.1.now c.parted.ensures
    c.in_ok-system.system c.in_ok-system.ensures.accepted c.in_ok-text.text.items c.in_ok-text.ensures)

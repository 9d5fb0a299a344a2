-- The net text or the record is refused, or the moves of the run are listed.
use Rattle.std.proofs.Common.{sym, subst, arith, rules}
use Rattle.rn_commands.specs.Moves.{MovesComeTo}
use Rattle.rn_commands.proofs.PartLemmas.{rest_few}
use Rattle.rn_commands.proofs.MovesLemmas.{moves_done, net_stops_moves, record_stops_moves}
use Rattle.rn_commands.proofs.ReplayLemmas.{replay_refused}
use Rattle.rn_commands.proofs.moving.moves.Goals as goal

pub returns-in_err-accepted : goal.returns-in_err-accepted
returns-in_err-accepted c =
    let stops = net_stops_moves c.args.options c.args.bytes.now c.parted.result.0.now c.parted.result.1.now c.parted.ensures
    c.in_err-accepted.field-0.0 c.in_err-accepted.ensures.refused in
    search (rules, stops)

pub told_of-requires-clause-few : goal.told_of-requires-clause-few
told_of-requires-clause-few c =
    let few = rest_few c.parted.ensures in omega (arith, few)

pub returns-in_err-told : goal.returns-in_err-told
returns-in_err-told c =
    let stops = record_stops_moves c.args.options c.args.bytes.now c.parted.result.0.now c.parted.result.1.now c.parted.ensures
    c.in_ok-accepted.accepted.system c.in_ok-accepted.accepted.notation c.in_ok-accepted.ensures.accepted c.in_err-told.field-0.0 (c.in_err-told.ensures.refused c.args.options) in
    search (rules, stops)

pub returns-in-Ok : goal.returns-in-Ok
returns-in-Ok c =
    let options = c.args.options in
    let bytes = c.args.bytes.now in
    subst (MovesComeTo options bytes) (sym c.done.ensures)
    (moves_done options bytes c.parted.result.0.now c.parted.result.1.now c.parted.ensures
    c.in_ok-accepted.accepted.system c.in_ok-accepted.accepted.notation c.in_ok-accepted.ensures.accepted c.in_ok-told.told c.in-Ok.state c.in_ok-told.ensures.whole c.in-Ok.ensures
    c.in_ok-text-in-Ok.text.items c.in_ok-told.ensures.tells c.in_ok-told.ensures.spelled c.in_ok-text-in-Ok.ensures.state c.in_ok-text-in-Ok.ensures.text)

pub returns : goal.returns
returns c =
    record_stops_moves c.args.options c.args.bytes.now c.parted.result.0.now c.parted.result.1.now c.parted.ensures
    c.in_ok-accepted.accepted.system c.in_ok-accepted.accepted.notation c.in_ok-accepted.ensures.accepted c.refused_replay.result
    (replay_refused c.in_ok-accepted.accepted.notation c.in_ok-accepted.accepted.system c.args.options c.parted.result.1.now c.in_ok-told.told c.in-Err.fault c.refused_replay.result
    c.in_ok-told.ensures.tells c.in-Err.ensures c.refused_replay.ensures.memory c.refused_replay.ensures.line)

use Rattle.std.proofs.Common.{◌<◌, length, map, ap, ◌∙◌, rules}
use Rattle.std.proofs.lemmas.Result.{err_from_is_err_and}
use Rattle.std.proofs.lemmas.List.{map_push}
use Rattle.rn_lines.specs.NodeReading.{all_given_at}
use Rattle.rn_lines.specs.link.NodeSeen.{given}
use Rattle.rn_lines.proofs.NodeReadings.{given_on, given_ends}
use Rattle.rn_lines.proofs.nodes.all_given_at.Goals as goal

pub returns-in_err-given : goal.returns-in_err-given
returns-in_err-given c =
    let p = err_from_is_err_and c.from_residual.result c.from_residual.ensures.1 in
    let some : 0 < length c.loop.rest.now = search rules in
    rw (p.1, p.2) (given_ends c.in_err-given.field-0.0 (length c.args.bytes.now) c.loop.counter c.loop.rest.now (map given c.loop.all.items) (all_given_at (length c.args.bytes.now) c.args.bytes.now)
    c.loop-test.true some c.in_err-given.ensures c.loop.invariant)

pub loop-preserved : goal.loop-preserved
loop-preserved c =
    let some : 0 < length c.loop.rest.now = search rules in
    let put = ap (map given) c.in_ok-push.ensures.items ∙ map_push given c.loop.all.items c.in_ok-given.given in
    given_on (length c.args.bytes.now) c.loop.counter c.loop.rest.now c.in_ok-given.more.now (given c.in_ok-given.given) (map given c.loop.all.items) (map given c.push.new.self.items) (all_given_at (length c.args.bytes.now) c.args.bytes.now)
    c.loop-test.true some c.in_ok-given.ensures put c.loop.invariant

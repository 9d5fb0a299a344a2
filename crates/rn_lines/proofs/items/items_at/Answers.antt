use Rattle.std.proofs.Common.{◌<◌, length, map, ap, ◌∙◌, rules}
use Rattle.std.proofs.lemmas.Result.{err_from_is_err_and}
use Rattle.std.proofs.lemmas.List.{map_push}
use Rattle.rn_lines.specs.LineReading.{items_at}
use Rattle.rn_lines.specs.link.LinesSeen.{item}
use Rattle.rn_lines.proofs.ItemReadings.{item_on, item_ends}
use Rattle.rn_lines.proofs.items.items_at.Goals as goal

pub returns-in_err-item : goal.returns-in_err-item
returns-in_err-item c =
    let p = err_from_is_err_and c.from_residual.result c.from_residual.ensures.1 in
    let some : 0 < length c.loop.rest.now = search rules in
    rw (p.1, p.2) (item_ends c.in_err-item.field-0.0 (length c.args.bytes.now) c.loop.counter c.loop.rest.now (map item c.loop.items.items) (items_at (length c.args.bytes.now) c.args.bytes.now)
    c.loop-test.true some c.in_err-item.ensures c.loop.invariant)

pub loop-preserved : goal.loop-preserved
loop-preserved c =
    let some : 0 < length c.loop.rest.now = search rules in
    let put = ap (map item) c.in_ok-push.ensures.items ∙ map_push item c.loop.items.items c.in_ok-item.item in
    item_on (length c.args.bytes.now) c.loop.counter c.loop.rest.now c.in_ok-item.more.now (item c.in_ok-item.item) (map item c.loop.items.items) (map item c.push.new.self.items) (items_at (length c.args.bytes.now) c.args.bytes.now)
    c.loop-test.true some c.in_ok-item.ensures put c.loop.invariant

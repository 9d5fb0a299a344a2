use Rattle.std.proofs.Common.{◌≡◌, true, rules}
use Rattle.std.specs.Prelude.{None, Some, slice_get}
use Rattle.rn_items.proofs.Lists.{is_past}
use Rattle.rn_parted.proofs.PlaceLemmas.{avoid_further, avoid_past, not_same}
use Rattle.rn_parted.proofs.places.others_avoid.Goals as goal

pub loop-other-preserved : goal.loop-other-preserved
loop-other-preserved c =
    let xs = c.args.inst.now.places in
    let i = c.loop-other.other in
    let is : slice_get xs i ≡ Some c.in-Some.bag.now = search rules in
    let avoids : c.place_avoids.result ≡ true = search rules in
    avoid_further xs c.args.place c.args.found.now.keys c.args.but i c.in-Some.bag.now
    c.loop-other.invariant is
    (λ apart v has. c.place_avoids.ensures avoids (not_same i c.args.place apart) v has)

pub returns-in_default : goal.returns-in_default
returns-in_default c told =
    let xs = c.args.inst.now.places in
    let i = c.loop-other.other in
    let none : slice_get xs i ≡ None = search rules in
    avoid_past xs c.args.place c.args.found.now.keys c.args.but i c.loop-other.invariant
    (is_past xs i none)

use Rattle.std.proofs.Common.{◌≡◌, rules}
use Rattle.rn_parted.proofs.PlaceLemmas.{beside_same}
use Rattle.rn_parted.proofs.places.is_same_beside.Goals as goal

pub returns : goal.returns
returns c told =
    let was = c.args.before.now in
    let is = c.args.after.now in
    let number : was.number ≡ is.number = search rules in
    let net : was.net ≡ is.net = search rules in
    beside_same was is c.args.place number net (c.others_same.ensures.long told)
    (c.others_same.ensures.same told)

use Rattle.std.proofs.Common.{◌≡◌, true, length, rules}
use Rattle.std.specs.Prelude.{is_none}
use Rattle.rn_parted.specs.Parting.{askers_at}
use Rattle.rn_parted.proofs.AskLemmas.{at_most_one}
use Rattle.rn_parted.proofs.parting.asks_at_most_one.Goals as goal

pub returns : goal.returns
returns c all =
    let t = c.args.transition.now in
    let one : length (askers_at t c.args.place) ≡ 1 = search rules in
    let none : is_none t.uplink ≡ true = search rules in
    let each = c.all_ask_one.ensures in
    at_most_one t c.args.place one none (search rules)

use Rattle.std.proofs.Common.{rules, ◌≡◌, Some, option_map}
use Rattle.rn_calc.specs.Readings.{seen}
use Rattle.rn_calc.proofs.OneValue.{one_value}
use Rattle.rn_calc.proofs.reading.are_one.Goals as goal

pub returns-in-Some-Some : goal.returns-in-Some-Some
returns-in-Some-Some c =
    let one : option_map seen c.args.one.now ≡ Some c.get.result.now = search rules in
    let other : option_map seen c.args.other.now ≡ Some c.get-in-Some-Some.result.now =
    search rules in
    one_value c.same.result _ _ _ _ one other c.same.ensures

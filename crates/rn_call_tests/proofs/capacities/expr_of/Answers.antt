-- None of them has an operand.
use Rattle.rn_call_tests.proofs.PlainInscriptions.{none_in_list, none_in_unit, none_in_var}
use Rattle.rn_call_tests.proofs.capacities.expr_of.Goals as goal

pub returns-in-One : goal.returns-in-One
returns-in-One c = none_in_unit c.new.result c.new.ensures

pub returns-in_ok-push-in-Listed : goal.returns-in_ok-push-in-Listed
returns-in_ok-push-in-Listed c =
    none_in_list c.push.new.self c.new-parts.result c.new-in-Listed.result
    c.in_ok-push-in-Listed.ensures.ok c.new-parts.ensures c.new-in-Listed.ensures

pub returns-in-Awaited : goal.returns-in-Awaited
returns-in-Awaited c = none_in_var 0

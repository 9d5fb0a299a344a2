use Rattle.std.proofs.Common.{◌<◌, [], arith}
use Rattle.std.specs.Prelude.{unwrap_or}
use Rattle.std.specs.Option.{option_copied}
use Rattle.rn_model.specs.Lists.{count_of}
use Rattle.rn_arcs.proofs.TokenLemmas.{holds_more, not_all}
use Rattle.rn_arcs.proofs.fitting.are_left.Goals as goal

pub returns-then-count_in-count_among : goal.returns-then-count_in-count_among
returns-then-count_in-count_among c =
    not_all (λ v. count_of v c.args.taken.now
    < count_of v (unwrap_or (option_copied c.args.bag) []))
    c.args.tested.now c.loop-value.value-index c.value-item.result c.loop-value-test.true
    c.value-item.is (λ more. omega (arith, more))

pub loop-value-preserved : goal.loop-value-preserved
loop-value-preserved c =
    holds_more (λ v. count_of v c.args.taken.now
    < count_of v (unwrap_or (option_copied c.args.bag) []))
    c.args.tested.now c.loop-value.value-index c.value-item.result c.loop-value-test.true
    c.value-item.is c.loop-value.invariant (omega arith)

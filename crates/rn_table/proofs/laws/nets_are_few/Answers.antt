use Rattle.std.proofs.Common.{arith}
use Rattle.rn_table.proofs.laws.nets_are_few.Goals as goal

pub returns : goal.returns
returns c = λ system good. omega (arith, good.few_nets)

use Rattle.std.proofs.Common.{◌≡◌, ◌++◌, take, map}
use Rattle.rn_model.specs.Systems.{net_at}
use Rattle.rn_record.proofs.naming.push_created.Given as goal

abbrev pub invariant-loop-creation : goal.invariant-loop-creation
invariant-loop-creation l = l.names ≡ l.initial.names ++ map (λ c. (net_at l.system c.net).name) (take l.creation-index l.creations)

use Rattle.rn_net.proofs.Names.{◌≡◌, var_of}
use Rattle.std.proofs.Common.{take}
use Rattle.std.specs.Prelude.{map}
use Rattle.rn_net.proofs.declaration_reader.vars_of.Given as goal

abbrev pub invariant-loop-name : goal.invariant-loop-name
invariant-loop-name l = l.vars.items ≡ map (var_of l.kind) (take l.name-index l.names)

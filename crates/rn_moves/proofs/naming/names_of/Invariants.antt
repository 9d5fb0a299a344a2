use Rattle.std.proofs.Common.{◌≡◌, take}
use Rattle.rn_moves.specs.MovesText.{names_of}
use Rattle.rn_moves.proofs.naming.names_of.Given as goal

abbrev pub invariant-loop-net : goal.invariant-loop-net
invariant-loop-net l = l.names ≡ names_of l.system (take l.net-index l.nets)

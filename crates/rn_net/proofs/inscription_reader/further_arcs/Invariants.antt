use Rattle.rn_net.proofs.Names.{◌≡◌, further_arc}
use Rattle.std.proofs.Common.{map}
use Rattle.rn_net.proofs.inscription_reader.further_arcs.Given as goal

abbrev pub invariant-loop-inscription : goal.invariant-loop-inscription
invariant-loop-inscription l = l.arcs ≡ map (further_arc l.kind l.place) l.yielded

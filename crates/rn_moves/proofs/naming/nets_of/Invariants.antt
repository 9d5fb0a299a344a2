use Rattle.std.proofs.Common.{◌≡◌, ◌∷◌, take}
use Rattle.std.specs.List.{flat_map}
use Rattle.rn_model.specs.Systems.{main_net}
use Rattle.rn_moves.specs.MovesText.{nets_in}
use Rattle.rn_moves.proofs.naming.nets_of.Given as goal

abbrev pub invariant-loop-entry : goal.invariant-loop-entry
invariant-loop-entry l =
    l.nets.items ≡ main_net l.system ∷ flat_map (nets_in l.system) (take l.entry-index l.entries)

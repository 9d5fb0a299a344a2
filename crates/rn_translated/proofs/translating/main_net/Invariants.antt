use Rattle.std.proofs.Common.{◌≡◌, map, take}
use Rattle.rn_translated.specs.Translation.{plain_place}
use Rattle.rn_translated.proofs.translating.main_net.Given as goal

abbrev pub invariant-loop-place : goal.invariant-loop-place
invariant-loop-place l = l.places.items ≡ map plain_place (take l.place-index l.place-items)

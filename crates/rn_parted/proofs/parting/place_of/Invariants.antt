use Rattle.std.proofs.Common.{◌≡◌, true}
use Rattle.std.specs.Prelude.{IfSome}
use Rattle.rn_parted.specs.Parting.{parts}
use Rattle.rn_parted.proofs.parting.place_of.Given as goal

abbrev pub invariant-loop-place : goal.invariant-loop-place
invariant-loop-place l = IfSome l.best (λ place. parts l.system l.net place ≡ true)

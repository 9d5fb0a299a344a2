-- That the condition of the calls holds where they are made.
use Rattle.std.specs.Prelude.{ℕ, ◌≡◌, ◌<◌, ◌^◌, Some, length}
use Rattle.rn_model.specs.declared.system.System.{System}
use Rattle.rn_model.specs.Good.{Good}
use Rattle.rn_model.specs.Markings.{Marking, IsMarking, Instance, instance_at}

-- at a marking of a good system each instance has fewer than 2^32 places
abbrev pub PlacesAreFew : Type 0
PlacesAreFew = (system : System) (m : Marking) → Good system → IsMarking system m →
    (n : ℕ) (i : Instance) → instance_at m n ≡ Some i → length i.places < 2 ^ 32

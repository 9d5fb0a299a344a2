-- Instances that are there or are made. This only connects the code to instances of bindings.
use Rattle.rn_value.specs.declared.value.InstRef.{InstRef}
use Rattle.rn_value.specs.declared.value.InstRef.TheVariants.{Old, New}
use Rattle.rn_arcs.specs.declared.seat.Seat.{Seat}
use Rattle.rn_arcs.specs.declared.seat.Seat.TheVariants.{There, Made}

-- the instance itself
abbrev pub seat_inst : Seat → InstRef
seat_inst (There n) = Old n
seat_inst (Made path j) = New path.now j

-- Laws over the live part of a marking. Each is the contract of a function that does nothing.
use Rattle.std.specs.Prelude.{◌≡◌, ◌↔◌, List}
use Rattle.rn_model.specs.declared.system.System.{System}
use Rattle.rn_model.specs.declared.log.MarkLine.{MarkLine}
use Rattle.rn_model.specs.Markings.{Marking, IsMarking}
use Rattle.rn_model.specs.Liveness.{LivePart, Stands}

-- some list of lines is the live part of a marking
abbrev pub EachHasItsLivePart : Type 0
EachHasItsLivePart = (system : System) (m : Marking) → IsMarking system m →
    (lines : List MarkLine) × LivePart system m lines

-- and no other list is
abbrev pub LivePartIsUnique : Type 0
LivePartIsUnique = (system : System) (m : Marking) (lines others : List MarkLine) →
    LivePart system m lines → LivePart system m others → lines ≡ others

-- and it is the same at a table that stands for the marking
abbrev pub TablesHaveTheSamePart : Type 0
TablesHaveTheSamePart = (system : System) (table m : Marking) (lines : List MarkLine) →
    Stands system table m → LivePart system table lines ↔ LivePart system m lines

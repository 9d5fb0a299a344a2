-- A state by the fields that keep it.
use Rattle.std.specs.Prelude.{ℕ, ◌≡◌, ◌≤◌, ◌+◌, List, [], ◌∷◌, Option, Some, None}
use Rattle.rn_model.specs.declared.log.Entry.{Entry}
use Rattle.rn_model.specs.declared.log.Entry.TheVariants.{Fire, End}
use Rattle.rn_model.specs.declared.log.Reason.{Reason}
use Rattle.rn_model.specs.Runs.{Firing, entries_of}
use Rattle.rn_table.specs.Tables.{Kept}
use Rattle.rn_fire.specs.declared.setup.Setup.{Setup}
use Rattle.rn_fire.specs.States.{State, IsState}
use Rattle.rn_live.specs.Rooms.{Room}
use Rattle.rn_fire.specs.Nets.{nets_of_entries}
use Rattle.rn_fire.specs.Parts.{HoldsLive}

-- the firings among entries
abbrev pub firings_in : List Entry → List Firing
firings_in [] = []
firings_in (Fire worker binding outs ∷ entries) =
    record { worker = worker; binding = binding; outs = outs } ∷ firings_in entries
firings_in (End reason ∷ entries) = firings_in entries

-- the first end among entries
abbrev pub end_in : List Entry → Option Reason
end_in [] = None
end_in (Fire worker binding outs ∷ entries) = end_in entries
end_in (End reason ∷ entries) = Some reason

-- the state with these entries
abbrev pub state_of : Setup → List Entry → Kept → State
state_of setup entries table =
    record { setup = setup; fired = firings_in entries; ended = end_in entries; table = table }

-- What the entries and the table of a state keep: an end at their end alone, and room for as many
-- firings as there may be and for the end.
pub record KeepsRun (setup : Setup) (entries : List Entry) (room : ℕ) (table : Kept)
    : Type 0 where
  pub state : IsState (state_of setup entries table)
  pub whole : entries ≡ entries_of (firings_in entries) (end_in entries)
  pub enough : setup.options.steps + 1 ≤ room

-- What the fields of a state keep: those, the nets of all instances, and room in which the live
-- instances of the table are marked.
pub record KeepsState (setup : Setup) (entries : List Entry) (room : ℕ) (table : Kept)
    (made : List ℕ) (marked : Room) : Type 0 where
  pub run : KeepsRun setup entries room table
  pub nets : made ≡ nets_of_entries setup.system entries
  pub live : HoldsLive setup.system table.marking.next marked

-- The nets of the instances of a run.
use Rattle.std.specs.Prelude.{ℕ, List, ◌∷◌, flat_map}
use Rattle.rn_model.specs.declared.system.System.{System}
use Rattle.rn_model.specs.declared.log.Entry.{Entry}
use Rattle.rn_model.specs.Systems.{main_net}
use Rattle.rn_spell.specs.Made.{made_in}
use Rattle.rn_fire.specs.States.{State, logged}

-- the net of the instance with which a run starts, and then those of the instances that entries
-- make
abbrev pub nets_of_entries : System → List Entry → List ℕ
nets_of_entries system entries = main_net system ∷ flat_map (made_in system) entries

-- The nets of all instances that were made, by number from 1, also of such that were dropped.
-- Those that the firing of a fault would have made come last.
abbrev pub nets_logged : State → List ℕ
nets_logged s = nets_of_entries s.setup.system (logged s)

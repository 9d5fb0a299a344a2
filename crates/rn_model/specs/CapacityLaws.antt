-- Laws over the capacities of places. Each is the contract of a function that does nothing.
use Rattle.std.specs.Prelude.{ℕ, ◌≡◌, ◌≤◌, List, length, Some, Ok}
use Rattle.rn_model.specs.declared.system.System.{System}
use Rattle.rn_model.specs.declared.binding.Binding.{Binding}
use Rattle.rn_model.specs.Systems.{capacity}
use Rattle.rn_model.specs.Good.{Good}
use Rattle.rn_model.specs.Markings.{Marking, IsMarking, net_of, tokens_at, initial_marking}
use Rattle.rn_model.specs.SoundTokens.{HasSoundTokens}
use Rattle.rn_model.specs.Enabling.{Enabled}
use Rattle.rn_model.specs.Firing.{Fired, fire}
use Rattle.rn_model.specs.Runs.{Firing, Run, end_of}

-- each place with a capacity holds no more tokens
abbrev pub KeepsCapacities : System → Marking → Type 0
KeepsCapacities system m = (n net place most : ℕ) → net_of m n ≡ Some net →
    capacity system net place ≡ Some most → length (tokens_at m n place) ≤ most

-- so it is at the initial marking of a good system
abbrev pub InitialKeepsCapacities : Type 0
InitialKeepsCapacities = (system : System) → Good system →
    KeepsCapacities system (initial_marking system)

-- the firing of an enabled binding keeps it so
abbrev pub FiringsKeepCapacities : Type 0
FiringsKeepCapacities = (system : System) (m : Marking) (b : Binding) (depth step : ℕ) (f : Fired) →
    Good system → IsMarking system m → HasSoundTokens system m → KeepsCapacities system m →
    Enabled system m b depth → fire system m b step ≡ Ok f → KeepsCapacities system f.marking

-- and so it is at the end of each run
abbrev pub RunsKeepCapacities : Type 0
RunsKeepCapacities = (system : System) (depth : ℕ) (fs : List Firing) → Good system →
    Run system depth fs → KeepsCapacities system (end_of system fs)

-- Laws over markings. Each is the contract of a function that does nothing.
use Rattle.std.specs.Prelude.{ℕ, ◌≡◌, List, Ok}
use Rattle.rn_model.specs.declared.system.System.{System}
use Rattle.rn_model.specs.declared.binding.Binding.{Binding}
use Rattle.rn_model.specs.Good.{Good}
use Rattle.rn_model.specs.Markings.{Marking, IsMarking, initial_marking}
use Rattle.rn_model.specs.SoundTokens.{HasSoundTokens}
use Rattle.rn_model.specs.Enabling.{Enabled}
use Rattle.rn_model.specs.Firing.{Fired, fire}
use Rattle.rn_model.specs.Runs.{Firing, Run, end_of}

-- the initial marking of a good system is one
abbrev pub InitialIsMarking : Type 0
InitialIsMarking = (system : System) → Good system → IsMarking system (initial_marking system)

-- the firing of an enabled binding leads from a marking to one
abbrev pub FiringsKeepMarkings : Type 0
FiringsKeepMarkings = (system : System) (m : Marking) (b : Binding) (depth step : ℕ) (f : Fired) →
    Good system → IsMarking system m → Enabled system m b depth → fire system m b step ≡ Ok f →
    IsMarking system f.marking

-- and so each run of a good system ends in one
abbrev pub RunsEndInMarkings : Type 0
RunsEndInMarkings = (system : System) (depth : ℕ) (fs : List Firing) → Good system →
    Run system depth fs → IsMarking system (end_of system fs)

-- the initial tokens of a good system are sound
abbrev pub InitialTokensAreSound : Type 0
InitialTokensAreSound = (system : System) → Good system →
    HasSoundTokens system (initial_marking system)

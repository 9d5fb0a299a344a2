-- What may be searched: whose tokens fit.
use Rattle.rn_model.specs.declared.system.System.{System}
use Rattle.rn_model.specs.Good.{Good}
use Rattle.rn_model.specs.Liveness.{Stands}
use Rattle.rn_model.specs.Markings.{Marking, initial_marking}
use Rattle.rn_model.specs.SoundTokens.{HasSoundTokens}
use Rattle.rn_search.specs.Problems.{HasFitTokens}

-- the initial tokens of a good system
abbrev pub InitialTokensFit : Type 0
InitialTokensFit = (system : System) → Good system → HasFitTokens system (initial_marking system)

-- the tokens of a table that stands for a marking whose tokens are sound, as at each end of a run
abbrev pub StandingTokensFit : Type 0
StandingTokensFit = (system : System) (table m : Marking) → HasSoundTokens system m →
    Stands system table m → HasFitTokens system table

-- What is true of each state of a least run.
use Rattle.rn_least.specs.LeastRuns.{LeastLog}
use Rattle.rn_fire.specs.States.{State}

-- its log is a least log of its system and options
abbrev pub HasLeastLog : State → Type 0
HasLeastLog s = LeastLog s.setup.system s.setup.options s.fired s.ended

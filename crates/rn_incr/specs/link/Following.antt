-- A run whose lists of bindings are kept up to date. It only connects the code to the definitions.
use Rattle.std.specs.Prelude.{◌≡◌, ◌≢◌, Bool, true, false}
use Rattle.rn_model.specs.declared.log.Reason.{Reason}
use Rattle.rn_model.specs.declared.log.Reason.TheVariants.{Memory}
use Rattle.rn_model.specs.Runs.{Firing}
use Rattle.rn_fire.specs.Commits.{HasFired}
use Rattle.rn_fire.specs.Ends.{with_end}
use Rattle.rn_fire.specs.States.{State, end_marking}
use Rattle.rn_incr.specs.Lists.{AreListsOf, Listed}

-- The table of a state has dropped nothing, and the lists are those of its end, within its depth.
pub record IsFollowed (s : State) (l : Listed) : Type 0 where
  pub whole : s.table.marking ≡ end_marking s
  pub at : l.marking ≡ end_marking s
  pub depth : l.depth ≡ s.setup.options.depth
  pub lists : AreListsOf s.setup.system l

-- a log that hasn't ended got a firing, or else an end that isn't want of memory
abbrev pub Advances : State → Bool → State → Type 0
Advances old true new = (f : Firing) × HasFired old f new
Advances old false new = (reason : Reason) × (reason ≢ Memory) × (new ≡ with_end reason old)

-- the same, and after a firing the lists are those of the new end
abbrev pub AdvancesListed : State → Bool → State → Listed → Type 0
AdvancesListed old true new lists = (f : Firing) × HasFired old f new × IsFollowed new lists
AdvancesListed old false new lists = Advances old false new

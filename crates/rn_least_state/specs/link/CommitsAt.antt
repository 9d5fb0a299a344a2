-- The answer of the commit beneath.
use Rattle.rn_fire.specs.declared.committing.Commit.{Commit}
use Rattle.rn_fire.specs.declared.committing.Commit.TheVariants as Was
use Rattle.rn_least_state.specs.declared.committing.CommitAt.{CommitAt}
use Rattle.rn_least_state.specs.declared.committing.CommitAt.TheVariants.{Fired, Late, Faulted, Ended}
use Rattle.rn_least_state.specs.declared.committing.CommitAt.TheVariants.{NoMemory}

-- the answer of the commit beneath
abbrev pub answer_at : Commit → CommitAt
answer_at (Was.Fired step) = Fired step
answer_at (Was.Conflict at now) = Late at now
answer_at Was.Faulted = Faulted
answer_at Was.Ended = Ended
answer_at (Was.NoMemory refused) = NoMemory refused

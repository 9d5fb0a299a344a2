-- The least run of a net text.
use Rattle.std.specs.Prelude.{ℕ, List, Some}
use Rattle.rn_model.specs.declared.log.Options.{Options}
use Rattle.rn_least.specs.LeastRuns.{LeastLog}
use Rattle.rn_answering.specs.declared.answer.Answer.{Answer}
use Rattle.rn_commands.specs.Runs.{RunsTo}

-- What `run` comes to where each firing is by the first binding that is enabled: what it comes to else,
-- and what is written is a least log.
pub record RunsLeastTo (options : Options) (bytes : List ℕ) (a : Answer) : Type 0 where
  pub runs : RunsTo options bytes a
  pub least : LeastLog runs.run.system options runs.run.firings (Some runs.reason)

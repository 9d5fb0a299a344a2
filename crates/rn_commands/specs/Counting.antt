-- What `counts` comes to on a net text.
use Rattle.std.specs.Prelude.{ℕ, suc, ◌≡◌, ◌≢◌, List, [], ◌∷◌, ◌++◌, Some, length, codes}
use Rattle.rn_value.specs.Text.{numeral}
use Rattle.rn_model.specs.declared.system.System.{System}
use Rattle.rn_model.specs.declared.log.Options.{Options}
use Rattle.rn_model.specs.declared.log.Reason.{Reason}
use Rattle.rn_model.specs.declared.log.Reason.TheVariants.{Memory}
use Rattle.rn_model.specs.Runs.{Firing}
use Rattle.rn_least.specs.LeastRuns.{LeastLog}
use Rattle.rn_incr.specs.Counts.{AreCounts}
use Rattle.rn_answering.specs.declared.answer.Answer.{Answer}
use Rattle.rn_answering.specs.NetTexts.{Accepted}
use Rattle.rn_commands.specs.Ends.{end_line, end_message, end_status}

-- the line of a number of firings and of how many bindings are enabled after them, as `3 2`
abbrev pub count_line : ℕ → ℕ → List ℕ
count_line fired count = numeral fired ++ codes " " ++ numeral count ++ codes "\n"

-- a line for each number of bindings, the first of them after so many firings
abbrev pub count_lines : ℕ → List ℕ → List ℕ
count_lines fired [] = []
count_lines fired (count ∷ counts) = count_line fired count ++ count_lines (suc fired) counts

-- The text says of the least run of the system of these bytes how many bindings are enabled before
-- its first firing and after each, and its end: the first line of it, as in a record. The end isn't
-- out of memory.
pub record CountsText (options : Options) (bytes text : List ℕ) (reason : Reason) : Type 0 where
  pub system : System
  pub accepted : Accepted bytes system
  pub firings : List Firing
  pub log : LeastLog system options firings (Some reason)
  pub memory : reason ≢ Memory
  pub counts : List ℕ
  pub counted : AreCounts system options.depth firings counts
  pub lines : text ≡ count_lines 0 counts ++ end_line reason

-- What `counts` comes to on a net text: the counts of its least run, with the status and the line
-- of the end of that.
pub record CountsTo (options : Options) (bytes : List ℕ) (a : Answer) : Type 0 where
  pub reason : Reason
  pub counts : CountsText options bytes a.text reason
  pub status : a.status ≡ end_status reason
  pub line : a.line ≡ end_message reason (suc (length counts.firings))

-- The status and the line of an end, and what is written of a run.
use Rattle.std.specs.Prelude.{ℕ, ◌≡◌, ◌≢◌, List, [], codes}
use Rattle.rn_outside.specs.Bytes.{Appends, AppendsPrefix, IsCalledSeldom}
use Rattle.rn_outside.specs.Faults.{risen}
use Rattle.rn_pour.specs.Flows.{Standing}
use Rattle.rn_answering.specs.Writing.{TakesLine}
use Rattle.rn_answering.specs.declared.status.TheConstants.{DONE, FAULTED, NO_MEMORY, WRITE_FAULT}
use Rattle.rn_commands.specs.declared.closing.Closing.{Closing}
use Rattle.rn_commands.specs.declared.closing.Closing.TheVariants.{Done, Memory, Fault}
use Rattle.rn_commands.specs.Ends.{fault_line}

-- the status of an end
abbrev pub closing_status : Closing → ℕ
closing_status Done = DONE
closing_status Memory = NO_MEMORY
closing_status (Fault cause step) = FAULTED

-- its line
abbrev pub closing_line : Closing → List ℕ
closing_line Done = []
closing_line Memory = codes "memory\n"
closing_line (Fault cause step) = fault_line cause step

-- the line of an end is written, and this status is returned
pub record TellsEnd {E : Type 0} (closing : Closing) (status : ℕ) (err err_after : Standing)
    (sink sink_after : E) : Type 0 where
  pub own : status ≢ WRITE_FAULT → status ≡ closing_status closing
  pub told : status ≢ WRITE_FAULT → status ≢ NO_MEMORY →
      Appends err.held (closing_line closing) err_after.held × (err_after.faults ≡ err.faults)
  pub memory : status ≡ NO_MEMORY →
      TakesLine err.held err_after.held err.faults err_after.faults (closing_line closing)
  pub nothing : closing_line closing ≡ [] → sink_after ≡ sink
  pub failed : status ≡ WRITE_FAULT → (closing_status closing ≢ NO_MEMORY)
      × AppendsPrefix err.held (closing_line closing) err_after.held
      × (err_after.faults ≡ risen err.faults)
  pub seldom : IsCalledSeldom err.held err_after.held err.writes err_after.writes
  pub none_empty : err_after.empty_writes ≡ err.empty_writes

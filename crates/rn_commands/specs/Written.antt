-- What is written of a run.
use Rattle.std.specs.Prelude.{ℕ, ◌≡◌, ◌≢◌, ◌≤◌, ◌⊎◌, [], length}
use Rattle.rn_outside.specs.Bytes.{Appends, AppendsPrefix, IsCalledSeldom}
use Rattle.rn_outside.specs.Faults.{risen}
use Rattle.rn_window.specs.Windows.{top}
use Rattle.rn_pour.specs.Flows.{Standing}
use Rattle.rn_answering.specs.declared.answer.Answer.{Answer}
use Rattle.rn_answering.specs.declared.status.TheConstants.{NO_MEMORY, WRITE_FAULT}
use Rattle.rn_answering.specs.Writing.{TakesLine}
use Rattle.rn_commands.specs.declared.jobs.Job.{Job}
use Rattle.rn_commands.specs.Jobs.{JobComesTo}

-- An answer is written, its text and then its line, and this status is returned: its own, unless a
-- write failed. Memory that ran out stays reported where the line fails. Each sink is called at
-- most once for each byte that it takes, and once more, and never for none.
pub record WritesAnswer {E : Type 0} (a : Answer) (status : ℕ)
    (out out_after err err_after : Standing) (sink sink_after : E) : Type 0 where
  pub written : status ≢ WRITE_FAULT → (status ≡ a.status)
      × Appends out.held a.text out_after.held × (out_after.faults ≡ out.faults)
  pub told : status ≢ WRITE_FAULT → status ≢ NO_MEMORY →
      Appends err.held a.line err_after.held × (err_after.faults ≡ err.faults)
  pub memory : status ≡ NO_MEMORY →
      TakesLine err.held err_after.held err.faults err_after.faults a.line
  pub nothing : a.line ≡ [] → sink_after ≡ sink
  pub failed : status ≡ WRITE_FAULT → a.status ≢ WRITE_FAULT →
      (AppendsPrefix out.held a.text out_after.held × (out_after.faults ≡ risen out.faults)
      × (sink_after ≡ sink))
      ⊎ ((a.status ≢ NO_MEMORY) × Appends out.held a.text out_after.held
      × (out_after.faults ≡ out.faults) × AppendsPrefix err.held a.line err_after.held
      × (err_after.faults ≡ risen err.faults))
  pub seldom : IsCalledSeldom out.held out_after.held out.writes out_after.writes
      × IsCalledSeldom err.held err_after.held err.writes err_after.writes
  pub none_empty : (out_after.empty_writes ≡ out.empty_writes)
      × (err_after.empty_writes ≡ err.empty_writes)

-- one of these answers is written
abbrev pub Tells : {E : Type 0} → (Answer → Type 0) → ℕ →
    Standing → Standing → Standing → Standing → E → E → Type 0
Tells Is status out out_after err err_after sink sink_after =
    (a : Answer) × Is a × WritesAnswer a status out out_after err err_after sink sink_after

-- one of these answers has a text of 2^64 - 1 bytes or more, which no memory holds
abbrev pub HasEndless : (Answer → Type 0) → Type 0
HasEndless Is = (a : Answer) × Is a × (top ≤ length a.text)

-- a run comes to an answer of 2^64 - 1 bytes or more
abbrev pub IsEndless : Job → Type 0
IsEndless job = HasEndless (JobComesTo job)

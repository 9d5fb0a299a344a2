-- The record of a state in a sink.
use Rattle.std.specs.Prelude.{ℕ, ◌≡◌, ◌≤◌, List, length}
use Rattle.rn_outside.specs.Bytes.{Appends, AppendsPrefix, IsCalledSeldom}
use Rattle.rn_outside.specs.Faults.{Rose, risen}
use Rattle.rn_pour.specs.Flows.{Standing}
use Rattle.rn_window.specs.Windows.{top}
use Rattle.rn_fire.specs.States.{State}
use Rattle.rn_state_record.specs.Written.{IsRecordOf}

-- a sink took the record of a state
pub record TakesRecord (format : ℕ) (s : State) (out out_after : Standing) : Type 0 where
  pub bytes : List ℕ
  pub is_record : IsRecordOf format s bytes
  pub text : Appends out.held bytes out_after.held
  pub faults : out_after.faults ≡ out.faults
  pub calls : IsCalledSeldom out.held out_after.held out.writes out_after.writes
  pub none_empty : out_after.empty_writes ≡ out.empty_writes

-- a sink failed before the end of the record of a state
pub record BreaksRecord (format : ℕ) (s : State) (out out_after : Standing) : Type 0 where
  pub bytes : List ℕ
  pub is_record : IsRecordOf format s bytes
  pub text : AppendsPrefix out.held bytes out_after.held
  pub faults : out_after.faults ≡ risen out.faults
  pub cause : Rose out.faults out_after.faults
  pub calls : IsCalledSeldom out.held out_after.held out.writes out_after.writes
  pub none_empty : out_after.empty_writes ≡ out.empty_writes

-- the record of a state has 2^64 - 1 bytes or more, which no memory holds
pub record HasEndlessRecord (format : ℕ) (s : State) : Type 0 where
  pub bytes : List ℕ
  pub is_record : IsRecordOf format s bytes
  pub endless : top ≤ length bytes

-- What `gen` reports of a run of the workload text.
use Rattle.std.specs.Prelude.{ℕ, suc, ◌≡◌, ◌-◌, ◌↔◌, List, ◌++◌, Some, All, Contains, length, codes}
use Rattle.std.specs.List.Sorted.{IsStrictlyIncreasing}
use Rattle.rn_value.specs.Text.{numeral}
use Rattle.rn_model.specs.declared.system.System.{System}
use Rattle.rn_model.specs.declared.log.Options.{Options}
use Rattle.rn_model.specs.declared.log.Reason.{Reason}
use Rattle.rn_model.specs.Markings.{Marking}
use Rattle.rn_model.specs.Runs.{Firing, Log, end_of}
use Rattle.rn_model.specs.Liveness.{IsLive}
use Rattle.rn_gen.specs.Workload.{workload}
use Rattle.rn_answering.specs.declared.answer.Answer.{Answer}
use Rattle.rn_answering.specs.NetTexts.{Accepted}
use Rattle.rn_commands.specs.Ends.{end_status, end_message, end_line}
use Rattle.rn_commands.specs.Runs.{IsOfWorkers}

-- a word and a number, as `steps 10`
abbrev pub counted_line : List ℕ → ℕ → List ℕ
counted_line word n = word ++ codes " " ++ numeral n ++ codes "\n"

-- the four lines: the firings, the instances ever made, those that are live, and the end
abbrev pub tally_text : ℕ → ℕ → ℕ → Reason → List ℕ
tally_text fired made live reason =
    counted_line (codes "steps") fired ++ counted_line (codes "made") made
    ++ counted_line (codes "live") live ++ end_line reason

-- so many instances are live
pub record CountsLive (system : System) (m : Marking) (count : ℕ) : Type 0 where
  pub numbers : List ℕ
  pub ascending : IsStrictlyIncreasing numbers
  pub just : (n : ℕ) → Contains numbers n ↔ IsLive system m n
  pub counted : length numbers ≡ count

-- What `gen` comes to: it reports a run of the workload text of so many workers.
pub record GensTo (copies : ℕ) (options : Options) (a : Answer) : Type 0 where
  pub system : System
  pub accepted : Accepted (workload copies) system
  pub firings : List Firing
  pub workers : All (IsOfWorkers options.workers) firings
  pub reason : Reason
  pub log : Log system options firings (Some reason)
  pub live : ℕ
  pub counted : CountsLive system (end_of system firings) live
  pub text : a.text
      ≡ tally_text (length firings) ((end_of system firings).next - 1) live reason
  pub status : a.status ≡ end_status reason
  pub line : a.line ≡ end_message reason (suc (length firings))

-- The texts of least runs.
use Rattle.std.specs.Prelude.{ℕ, ◌≡◌, ◌≢◌, List, Some, map}
use Rattle.rn_model.specs.declared.system.System.{System}
use Rattle.rn_model.specs.declared.log.MarkLine.{MarkLine}
use Rattle.rn_model.specs.declared.log.Options.{Options}
use Rattle.rn_model.specs.declared.log.Reason.{Reason}
use Rattle.rn_model.specs.declared.log.Reason.TheVariants.{Memory}
use Rattle.rn_model.specs.Liveness.{LivePart}
use Rattle.rn_model.specs.Runs.{Firing, end_of}
use Rattle.rn_least.specs.Laws.{HaveTheSameLimits}
use Rattle.rn_least.specs.LeastRuns.{LeastLog}
use Rattle.rn_commands.specs.Runs.{run_text}

-- the same firing, by this worker
abbrev pub firing_by : ℕ → Firing → Firing
firing_by worker f = record { worker = worker; binding = f.binding; outs = f.outs }

-- the same firings, all by this worker
abbrev pub all_by : ℕ → List Firing → List Firing
all_by worker = map (firing_by worker)

-- Two records of least runs of one system, depth and step limit that don't end for want of memory
-- are the same but for the workers: with one number in place of each worker's they are the same bytes.
abbrev pub LeastTextsAreOne : Type 0
LeastTextsAreOne = (format : ℕ) (system : System) (options others : Options) (fs gs : List Firing)
    (reason end : Reason) (marks lines : List MarkLine) (worker : ℕ) →
    HaveTheSameLimits options others →
    LeastLog system options fs (Some reason) → LeastLog system others gs (Some end) →
    reason ≢ Memory → end ≢ Memory →
    LivePart system (end_of system fs) marks → LivePart system (end_of system gs) lines →
    run_text format system (all_by worker fs) reason marks
    ≡ run_text format system (all_by worker gs) end lines

-- The end of a log, as the program reports it.
use Rattle.std.specs.Prelude.{ℕ, List, [], codes}
use Rattle.rn_model.specs.declared.log.FaultKind.{FaultKind}
use Rattle.rn_model.specs.declared.log.FaultKind.TheVariants.{Action, Instances}
use Rattle.rn_model.specs.declared.log.Reason.{Reason}
use Rattle.rn_model.specs.declared.log.Reason.TheVariants.{Dead, Steps, Fault, Memory}
use Rattle.rn_answering.specs.declared.status.TheConstants.{DONE, FAULTED, NO_MEMORY}
use Rattle.rn_answering.specs.Lines.{number_line}

-- the status of a run whose log ended so
abbrev pub end_status : Reason → ℕ
end_status Dead = DONE
end_status Steps = DONE
end_status (Fault cause b) = FAULTED
end_status Memory = NO_MEMORY

-- the line of a firing that is undefined, which would have been the one with this number
abbrev pub fault_line : FaultKind → ℕ → List ℕ
fault_line Action step = number_line (codes "F1") step
fault_line Instances step = number_line (codes "F2") step

-- the line on `err` of a run whose log ended so; the next firing would have this number
abbrev pub end_message : Reason → ℕ → List ℕ
end_message Dead step = []
end_message Steps step = []
end_message (Fault cause b) step = fault_line cause step
end_message Memory step = codes "memory\n"

-- the first line of the end in a record
abbrev pub end_line : Reason → List ℕ
end_line Dead = codes "end dead\n"
end_line Steps = codes "end steps\n"
end_line Memory = codes "end memory\n"
end_line (Fault Action b) = codes "end fault action\n"
end_line (Fault Instances b) = codes "end fault instances\n"

-- the end in one word
abbrev pub end_word : Reason → List ℕ
end_word Dead = codes "dead"
end_word Steps = codes "steps"
end_word (Fault cause b) = codes "fault"
end_word Memory = codes "memory"

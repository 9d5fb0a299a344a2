-- What a session has done so far.
use Rattle.std.specs.Prelude.{ℕ, List, [], ◌∷◌, ◌++◌, Option, Some, None}
use Rattle.rn_value.specs.declared.value.Value.{Value}
use Rattle.rn_model.specs.declared.system.System.{System}
use Rattle.rn_model.specs.declared.binding.Binding.{Binding}
use Rattle.rn_model.specs.declared.log.Entry.{Entry}
use Rattle.rn_model.specs.declared.log.FaultKind.{FaultKind}
use Rattle.rn_model.specs.declared.log.Reason.{Reason}
use Rattle.rn_model.specs.declared.log.Reason.TheVariants.{Fault}
use Rattle.rn_model.specs.Markings.{Marking}
use Rattle.rn_model.specs.Runs.{Firing, end_of, entries_of}
use Rattle.rn_record.specs.RecordText.{first_names, names_at_end}

-- The firings so far, and the end by which a firing that is undefined ended the run.
pub record Entries : Type 0 where
  pub fired : List Firing
  pub ended : Option Reason

-- nothing yet
abbrev pub nothing : Entries
nothing = record { fired = []; ended = None }

-- the entries in order, an end as one
abbrev pub all_of : Entries → List Entry
all_of so_far = entries_of so_far.fired so_far.ended

-- the marking after the firings
abbrev pub marking_of : System → Entries → Marking
marking_of system so_far = end_of system so_far.fired

-- the names of the nets of all instances made so far
abbrev pub names_of : System → Entries → List (List ℕ)
names_of system so_far = names_at_end system first_names (entries_of so_far.fired None)

-- one firing more, by worker 1
abbrev pub with_firing : Binding → List Value → Entries → Entries
with_firing b outs so_far = record {
  fired = so_far.fired ++ (record { worker = 1; binding = b; outs = outs }) ∷ [];
  ended = None;
}

-- the end by a firing that is undefined
abbrev pub with_fault : FaultKind → Binding → Entries → Entries
with_fault cause b so_far = record { fired = so_far.fired; ended = Some (Fault cause b) }

-- The firings of a record.
use Rattle.std.specs.Prelude.{ℕ, ◌+◌, List, ◌++◌, length, Option, Some, None}
use Rattle.rn_value.specs.declared.value.Value.{Value}
use Rattle.rn_model.specs.declared.system.System.{System}
use Rattle.rn_model.specs.declared.log.Entry.{Entry}
use Rattle.rn_model.specs.declared.log.Entry.TheVariants.{Fire}
use Rattle.rn_lines.specs.LineText.{LineSaid}
use Rattle.rn_lookup.specs.declared.refusal.Refusal.TheVariants.{Form}
use Rattle.rn_record_reader.specs.declared.role.Role.TheVariants.{Firing}
use Rattle.rn_record_reader.specs.Nodes.{Placed, Stop, binding_lines}
use Rattle.rn_record_reader.specs.Called.{BadAt, nets_made, nodes_fault}
use Rattle.rn_record_reader.specs.Bindings.{told_binding}
use Rattle.rn_record_reader.specs.Prints.{PrintsEnd, prints_from}

-- what is read of a firing: its entry, the nets of the instances made by then, how many lines it
-- has and those after them; or its first bad line
pub data FiringRead : Type 0 where
  fired : Entry → List ℕ → ℕ → List (Option LineSaid) → FiringRead
  broken : BadAt → FiringRead

-- what is read of a firing with these nodes, by its printed values
abbrev pub with_prints : System → List ℕ → List ℕ → ℕ → List Placed → List Value × PrintsEnd →
    FiringRead
with_prints system made all worker nodes (outs, PrintsEnd.over lines) =
    FiringRead.fired (Fire worker (told_binding system (length made) nodes) outs) all
    (length nodes + length outs) lines
with_prints system made all worker nodes (outs, PrintsEnd.refused refusal) =
    FiringRead.broken (record { before = length nodes + length outs; refusal = refusal })

-- what is read of a firing by the nodes at its start, where they are whole
abbrev pub after_nodes : System → List ℕ → List ℕ → ℕ → ℕ → List Placed → Stop → FiringRead
after_nodes system made all step worker nodes (Stop.whole lines) =
    with_prints system made all worker nodes (prints_from system all step worker lines)
after_nodes system made all step worker nodes _ =
    FiringRead.broken (record { before = length nodes; refusal = Form })

-- what is read of a firing by the nodes at its start, and by what is wrong with these
abbrev pub firing_by : System → List ℕ → List ℕ → ℕ → ℕ → List Placed × Stop → Option BadAt →
    FiringRead
firing_by system made all step worker read (Some bad) = FiringRead.broken bad
firing_by system made all step worker read None =
    after_nodes system made all step worker read.0 read.1

-- the nets of the instances made by then, with those that nodes make
abbrev pub made_with : System → List ℕ → List Placed × Stop → List ℕ
made_with system made read = made ++ nets_made system read.0

-- What is read of a firing with this step and worker, whose lines are at the start of these: its
-- nodes, and then its printed values.
abbrev pub firing_read : System → List ℕ → ℕ → ℕ → List (Option LineSaid) → FiringRead
firing_read system made step worker lines =
    firing_by system made (made_with system made (binding_lines system (Firing step worker) lines))
    step worker (binding_lines system (Firing step worker) lines)
    (nodes_fault system (made_with system made (binding_lines system (Firing step worker) lines))
    (binding_lines system (Firing step worker) lines))

-- Bindings, by the nodes that their lines have. A firing's own creations are called by the numbers
-- that it gives them, and are read as the creations that they are.
use Rattle.std.specs.Prelude.{ℕ, ◌-◌, List, map, nat_le, flat_map, slice_get, if◌then◌else◌}
use Rattle.std.specs.List.{enumerate_from}
use Rattle.std.specs.Option.{option_map_or}
use Rattle.rn_value.specs.declared.value.InstRef.{InstRef}
use Rattle.rn_value.specs.declared.value.InstRef.TheVariants.{Old, New}
use Rattle.rn_model.specs.declared.system.System.{System}
use Rattle.rn_model.specs.declared.binding.Node.{Node}
use Rattle.rn_model.specs.declared.binding.Binding.{Binding}
use Rattle.rn_model.specs.Systems.{transition_at}
use Rattle.rn_model.specs.Firing.{renamed_value}
use Rattle.rn_record_reader.specs.Nodes.{Placed}
use Rattle.rn_record_reader.specs.declared.maker.Maker.{Maker}

-- what makes each instance of a node: its path, and the number of the creation
abbrev pub makers_by : System → Placed → List Maker
makers_by system x =
    map (λ c. record { path = x.path; index = c.0 })
    (enumerate_from 0 (transition_at system x.net x.transition).creations)

-- what makes each instance of nodes, in the order of their numbers
abbrev pub makers_of : System → List Placed → List Maker
makers_of system = flat_map (makers_by system)

-- an instance by its number, where so many were made before the firing, and its own come after
abbrev pub reference : List Maker → ℕ → ℕ → InstRef
reference makers count number =
    if nat_le number count then Old number
    else option_map_or (λ m. New m.path m.index)
    (slice_get makers (number - count - 1)) (Old number)

-- an instance that a text names, which is by its number
abbrev pub unnumbered : List Maker → ℕ → InstRef → InstRef
unnumbered makers count (Old number) = reference makers count number
unnumbered makers count (New path j) = New path j

-- a node of a binding
abbrev pub told_node : List Maker → ℕ → Placed → Node
told_node makers count x = record {
  path = x.path;
  inst = reference makers count x.said.inst.number;
  net = x.net;
  transition = x.transition;
  values = map (λ g. renamed_value g.value (unnumbered makers count)) x.said.given;
}

-- the binding of nodes, where so many instances were made before
abbrev pub told_binding : System → ℕ → List Placed → Binding
told_binding system count nodes =
    record { nodes = map (told_node (makers_of system nodes) count) nodes }

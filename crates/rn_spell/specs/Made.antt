-- The nets of the instances that bindings make.
use Rattle.std.specs.Prelude.{ℕ, List, [], map, flat_map}
use Rattle.rn_model.specs.declared.system.System.{System}
use Rattle.rn_model.specs.declared.binding.Node.{Node}
use Rattle.rn_model.specs.declared.binding.Binding.{Binding}
use Rattle.rn_model.specs.declared.log.Reason.{Reason}
use Rattle.rn_model.specs.declared.log.Reason.TheVariants.{Fault}
use Rattle.rn_model.specs.declared.log.Entry.{Entry}
use Rattle.rn_model.specs.declared.log.Entry.TheVariants.{Fire, End}
use Rattle.rn_model.specs.Systems.{net_at, transition_of}

-- the nets of the instances that a node makes
abbrev pub nets_by : System → Node → List ℕ
nets_by system node = map (λ c. c.net) (transition_of system node).creations

-- the nets of the instances that a binding makes, in order
abbrev pub nets_made : System → Binding → List ℕ
nets_made system b = flat_map (nets_by system) b.nodes

-- the nets of the instances that an end's binding would make: the one of a fault
abbrev pub made_at_end : System → Reason → List ℕ
made_at_end system (Fault cause b) = nets_made system b
made_at_end system _ = []

-- the nets of the instances that an entry's binding makes, or would make
abbrev pub made_in : System → Entry → List ℕ
made_in system (Fire worker b outs) = nets_made system b
made_in system (End reason) = made_at_end system reason

-- the names of nets
abbrev pub names_of_nets : System → List ℕ → List (List ℕ)
names_of_nets system nets = map (λ net. (net_at system net).name) nets

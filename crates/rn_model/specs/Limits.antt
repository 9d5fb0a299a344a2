-- The limits of systems, of bindings and of runs.
use Rattle.std.specs.Prelude.{ℕ}

-- how many bytes a name has at most
abbrev pub longest_name : ℕ
longest_name = 64

-- how deep brackets nest at most, in a kind, a token, an expression or a guard
abbrev pub most_nested : ℕ
most_nested = 64

-- how many parts a tuple has at most, and how many arguments a channel
abbrev pub most_parts : ℕ
most_parts = 16

-- how many inscriptions a transition has at most
abbrev pub most_inscriptions : ℕ
most_inscriptions = 200

-- with how many tokens a place begins at most
abbrev pub most_initial : ℕ
most_initial = 10000

-- the greatest capacity of a place
abbrev pub greatest_capacity : ℕ
greatest_capacity = 1000000

-- how many variables a net has at most
abbrev pub most_vars : ℕ
most_vars = 200

-- how many places a net has at most
abbrev pub most_places : ℕ
most_places = 1000

-- how many transitions a net has at most
abbrev pub most_transitions : ℕ
most_transitions = 1000

-- how many nets a system has at most
abbrev pub most_nets : ℕ
most_nets = 1000

-- how many channels a system has at most
abbrev pub most_channels : ℕ
most_channels = 1000

-- how many nodes a binding has at most
abbrev pub most_nodes : ℕ
most_nodes = 16777216

-- the greatest number of an instance
abbrev pub greatest_instance : ℕ
greatest_instance = 1000000

-- how many workers there are at most
abbrev pub most_workers : ℕ
most_workers = 64

-- how many firings a run has at most
abbrev pub most_steps : ℕ
most_steps = 200000

-- the greatest number of a firing that is tried: the next one at the end of a longest run
abbrev pub greatest_step : ℕ
greatest_step = 200001

-- how deep bindings may be at most
abbrev pub greatest_depth : ℕ
greatest_depth = 16

-- after how many firings of its own, at most, a worker drops instances that aren't live
abbrev pub greatest_sweep : ℕ
greatest_sweep = 200000

-- The limits of weighted nets that are theirs alone. Names, places, transitions and initial tokens
-- have the limits of systems of nets.
use Rattle.std.specs.Prelude.{ℕ}

-- how many arcs a transition has at most
abbrev pub most_arcs : ℕ
most_arcs = 200

-- the greatest weight of an arc
abbrev pub greatest_weight : ℕ
greatest_weight = 1000

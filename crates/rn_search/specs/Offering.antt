-- How many alternatives a point has.
use Rattle.std.specs.Prelude.{ℕ, ◌-◌, List, [], option_map}
use Rattle.std.specs.Prelude.{option_and_then, unwrap_or, slice_get, length}
use Rattle.rn_growing.specs.declared.decision.Decision.{Decision}
use Rattle.rn_growing.specs.Decisions.{transition_in}
use Rattle.rn_channel.specs.Answering.{answering}
use Rattle.rn_search.specs.declared.point.Point.{Point}
use Rattle.rn_search.specs.declared.point.Point.TheVariants as P
use Rattle.rn_search.specs.declared.point.Called.{Called}
use Rattle.rn_search.specs.Sought.{Sought}
use Rattle.rn_search.specs.Points.{node_of, tokens_of, net_called}

-- the transitions that answer a downlink of a node, of those of the called instance's net
abbrev pub answers : Sought → List Decision → ℕ → ℕ → Called → List ℕ
answers sought ds node i called =
    unwrap_or
    (option_and_then
    (λ net. option_map (λ d. answering sought.system net d.channel)
    (slice_get (transition_in sought.system (node_of sought ds node)).downlinks i))
    (net_called sought ds called)) []

-- The alternatives of a point are the numbers below this one.
abbrev pub alternatives : Sought → List Decision → Point → ℕ
alternatives sought ds P.Start = 1
alternatives sought ds (P.Token node arc from) =
    length (tokens_of sought (node_of sought ds node) arc) - from
alternatives sought ds (P.List node arc) = 1
alternatives sought ds (P.Result node k n) = 1
alternatives sought ds (P.Call node i called) = length (answers sought ds node i called)

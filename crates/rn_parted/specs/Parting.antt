-- Places that part bindings: each binding that starts in an instance asks such a place of it for
-- one token at most.
use Rattle.std.specs.Prelude.{ℕ, Bool, true, false, not, ◌&&◌, List, [], ◌∷◌, is_none, nat_eq}
use Rattle.std.specs.Prelude.{filter}
use Rattle.std.specs.List.{list_all}
use Rattle.rn_model.specs.declared.system.System.{System}
use Rattle.rn_model.specs.declared.system.Transition.{Transition}
use Rattle.rn_model.specs.declared.system.NetArc.{NetArc}
use Rattle.rn_model.specs.declared.system.ArcKind.{ArcKind}
use Rattle.rn_model.specs.declared.system.ArcKind.TheVariants.{Input, Test, Reserve}
use Rattle.rn_model.specs.Systems.{net_at, capacity, is_output}

-- whether an arc asks its place for one token and for nothing else
abbrev pub asks_one : ArcKind → Bool
asks_one Input = true
asks_one Test = true
asks_one Reserve = true
asks_one _ = false

-- the arcs of a transition at a place that do more than put
abbrev pub askers_at : Transition → ℕ → List NetArc
askers_at t place = filter (λ x. nat_eq x.place place && not (is_output x.kind)) t.arcs

-- whether these are none; or one that asks for a token, of a transition without uplink
abbrev pub ask_at_most_one : Transition → List NetArc → Bool
ask_at_most_one t [] = true
ask_at_most_one t (x ∷ []) = is_none t.uplink && asks_one x.kind
ask_at_most_one t _ = false

-- whether a place parts the bindings that start in an instance of a net: it has no capacity, and no
-- transition asks more of it
abbrev pub parts : System → ℕ → ℕ → Bool
parts system net place =
    is_none (capacity system net place)
    && list_all (λ t. ask_at_most_one t (askers_at t place)) (net_at system net).transitions

-- Runs of a weighted net. A marking is a number of black tokens for each place, in their order.
use Rattle.std.specs.Prelude.{ℕ, ◌+◌, ◌-◌, ◌≡◌, ◌<◌, ◌≤◌, List, [], ◌∷◌, length, map}
use Rattle.std.specs.Prelude.{sum_by, slice_index, slice_get, unwrap_or, nat_eq, if◌then◌else◌}
use Rattle.std.specs.Prelude.{All, ⊤}
use Rattle.std.specs.List.{enumerate_from}
use Rattle.rn_model.specs.declared.system.ArcKind.{ArcKind}
use Rattle.rn_model.specs.declared.system.ArcKind.TheVariants.{Input, Output, Inhibit}
use Rattle.rn_weighted.specs.declared.weighted.Weighted.{Weighted}
use Rattle.rn_weighted.specs.declared.weighted.WTransition.{WTransition}

-- what an arc of this kind and weight takes of its place
abbrev pub taken : ArcKind → ℕ → ℕ
taken Input weight = weight
taken _ weight = 0

-- what it puts there
abbrev pub put : ArcKind → ℕ → ℕ
put Output weight = weight
put _ weight = 0

-- the sum over the arcs of a transition at a place
abbrev pub total : (ArcKind → ℕ → ℕ) → WTransition → ℕ → ℕ
total part t place =
    sum_by (λ arc. if nat_eq arc.place place then part arc.kind arc.weight else 0) t.arcs

-- A transition is enabled where each place has at least the sum of its in weights, and no place of
-- an inhibitor arc has a token.
pub record WEnabled (t : WTransition) (m : List ℕ) : Type 0 where
  pub enough : (place : ℕ) → total taken t place ≤ slice_index m place
  pub absent : All (λ arc. arc.kind ≡ Inhibit → slice_index m arc.place ≡ 0) t.arcs

-- its firing subtracts the in weights at each place, and adds the out weights
abbrev pub w_after : WTransition → List ℕ → List ℕ
w_after t m = map (λ e. (e.1 - total taken t e.0) + total put t e.0) (enumerate_from 0 m)

-- the transition of a number
abbrev pub w_transition : Weighted → ℕ → WTransition
w_transition net t =
    unwrap_or (slice_get net.transitions t) (record { name = []; arcs = [] })

-- the number of tokens with which each place begins
abbrev pub w_initial : Weighted → List ℕ
w_initial net = map (λ place. place.initial) net.places

-- transitions one after another from a marking: each is there, and enabled where it fires
abbrev pub WRunFrom : Weighted → List ℕ → List ℕ → Type 0
WRunFrom net m [] = ⊤
WRunFrom net m (t ∷ ts) =
    (t < length net.transitions) × WEnabled (w_transition net t) m
    × WRunFrom net (w_after (w_transition net t) m) ts

-- the marking after transitions one after another
abbrev pub w_end_from : Weighted → List ℕ → List ℕ → List ℕ
w_end_from net m [] = m
w_end_from net m (t ∷ ts) = w_end_from net (w_after (w_transition net t) m) ts

-- a run of a weighted net, as the list of its transitions' numbers
abbrev pub WRun : Weighted → List ℕ → Type 0
WRun net ts = WRunFrom net (w_initial net) ts

-- the marking at its end
abbrev pub WEnd : Weighted → List ℕ → List ℕ
WEnd net ts = w_end_from net (w_initial net) ts

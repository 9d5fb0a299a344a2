-- What a weighted net has to be.
use Rattle.std.specs.Prelude.{ℕ, ◌≡◌, ◌≢◌, ◌⊎◌, ◌<◌, ◌≤◌, length, All, AllPairs}
use Rattle.rn_model.specs.declared.system.ArcKind.{ArcKind}
use Rattle.rn_model.specs.declared.system.ArcKind.TheVariants.{Input, Output, Inhibit}
use Rattle.rn_model.specs.Limits.{most_places, most_transitions, most_initial}
use Rattle.rn_model.specs.Names.{IsGoodName}
use Rattle.rn_weighted.specs.Limits.{most_arcs, greatest_weight}
use Rattle.rn_weighted.specs.declared.weighted.Weighted.{Weighted}
use Rattle.rn_weighted.specs.declared.weighted.WPlace.{WPlace}
use Rattle.rn_weighted.specs.declared.weighted.WTransition.{WTransition}
use Rattle.rn_weighted.specs.declared.weighted.WArc.{WArc}

-- An arc takes, puts or inhibits.
abbrev pub IsWArcKind : ArcKind → Type 0
IsWArcKind kind = (kind ≡ Input) ⊎ (kind ≡ Output) ⊎ (kind ≡ Inhibit)

-- An arc of a net with so many places has one of these kinds, one of these places, and a weight
-- from 1 to the greatest. An inhibitor arc's weight is 1.
pub record IsWArc (places : ℕ) (arc : WArc) : Type 0 where
  pub kind : IsWArcKind arc.kind
  pub place : arc.place < places
  pub some : 1 ≤ arc.weight
  pub bounded : arc.weight ≤ greatest_weight
  pub inhibits : arc.kind ≡ Inhibit → arc.weight ≡ 1

-- A place has a name, and not too many tokens.
pub record IsWPlace (place : WPlace) : Type 0 where
  pub name : IsGoodName place.name
  pub tokens : place.initial ≤ most_initial

-- A transition of a net with so many places has a name, and arcs, which aren't too many.
pub record IsWTransition (places : ℕ) (t : WTransition) : Type 0 where
  pub name : IsGoodName t.name
  pub arcs : All (IsWArc places) t.arcs
  pub few : length t.arcs ≤ most_arcs

-- A net's places and transitions are as they have to be, are named apart, and aren't too many.
pub record IsWeighted (net : Weighted) : Type 0 where
  pub places : All IsWPlace net.places
  pub transitions : All (IsWTransition (length net.places)) net.transitions
  pub places_distinct : AllPairs (λ p q. p.name ≢ q.name) net.places
  pub transitions_distinct : AllPairs (λ s t. s.name ≢ t.name) net.transitions
  pub few_places : length net.places ≤ most_places
  pub few_transitions : length net.transitions ≤ most_transitions

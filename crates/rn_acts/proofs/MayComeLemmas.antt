-- The change of an enabled binding's firing may come to a table that stands for the marking.
use Rattle.std.proofs.Common.{◌≡◌, ℕ, ◌+◌, ◌<◌, ◌≤◌, List, [], ◌++◌, length, map, refl, sym, ap, ◌∙◌, subst, inl, inr, arith, append-nil}
use Rattle.std.specs.Prelude.{Option, Some, None, All, unwrap_or, option_and_then, slice_get, flat_map}
use Rattle.std.proofs.lemmas.List.{length-map}
use Rattle.std.proofs.lemmas.List.Elements.{All-from_recursion}
use Rattle.rn_value.specs.declared.value.InstRef.TheVariants.{Old}
use Rattle.rn_value.specs.declared.value.Value.{Value}
use Rattle.rn_model.specs.declared.system.System.{System}
use Rattle.rn_model.specs.declared.binding.Binding.{Binding}
use Rattle.rn_model.specs.Lists.{IsWithin, count_of}
use Rattle.rn_model.specs.Good.{Good}
use Rattle.rn_model.specs.Demands.{taken_at, cleared_at}
use Rattle.rn_model.specs.Markings.{Marking, Instance, IsMarking, IsThere, instance_at, tokens_at}
use Rattle.rn_model.specs.Liveness.{Stands}
use Rattle.rn_model.specs.SoundTokens.{HasSoundTokens}
use Rattle.rn_model.specs.Enabling.{Enabled, PlaceFits}
use Rattle.rn_model.specs.Firing.{creations_of, named}
use Rattle.rn_model.proofs.DeadInstances.{below_next}
use Rattle.rn_model.proofs.EachElement.{each_map}
use Rattle.rn_model.proofs.MarkingsOfRuns.{made_of_nets}
use Rattle.rn_model.proofs.NumberedDemands.{numbering_keeps_demands}
use Rattle.rn_model.proofs.StandingTables.{as_in_table, tables_enable_the_same}
use Rattle.rn_table.proofs.ChangeLemmas.{count_append}
use Rattle.rn_table.proofs.InstanceLemmas.{numbered_kept}
use Rattle.rn_table.specs.Changes.{MayCome, ArePlaced, new_from, values_at, with_made}
use Rattle.rn_table.specs.Laws.{LeavesNew}
use Rattle.rn_table.specs.declared.change.Change.{Change}
use Rattle.rn_table.specs.declared.change.Row.{Row}
use Rattle.rn_acts.specs.Acted.{AreOfArcs}
use Rattle.rn_acts.specs.Laws.{IsOfFiring, FiringsMayCome}
use Rattle.rn_acts.proofs.NewAskNothing.{nothing_taken, nothing_cleared}
use Rattle.rn_acts.proofs.PlacedNodes.{rows_placed}

abbrev all_of : List (List Value) → List Value
all_of lists = flat_map (λ vs. vs) lists

-- what a place that fits is asked for is there
asked_is_there : (system : System) (m : Marking) (b : Binding) (n place : ℕ) →
    PlaceFits system m b (Old n) place →
    IsWithin (taken_at system b (Old n) place ++ all_of (cleared_at system b (Old n) place))
    (tokens_at m n place)
asked_is_there system m b n place fits v =
    let taken = taken_at system b (Old n) place in
    let cleared = cleared_at system b (Old n) place in
    let held = tokens_at m n place in
    let both = count_append v taken (all_of cleared) in
    let enough = fits.enough v in
    elim fits.whole as (λ _. count_of v (taken ++ all_of cleared) ≤ count_of v held) [
      | inl none ↦
          let no_more : count_of v (all_of cleared) ≡ 0 = ap (λ vss. count_of v (all_of vss)) none in
          omega (arith, both, enough, no_more)
      | inr one ↦
          let all : count_of v (all_of cleared) ≡ count_of v held =
          ap (λ vss. count_of v (all_of vss)) one.0 ∙ ap (count_of v) (append-nil held) in
          let nothing : count_of v taken ≡ 0 = ap (count_of v) one.1 in
          omega (arith, both, all, nothing)
    ]

module _ (system : System) (table m : Marking) (b : Binding) (depth : ℕ) (change : Change)
    (good : Good system) (form : IsMarking system m) (sound : HasSoundTokens system m)
    (stands : Stands system table m) (enabled : Enabled system m b depth)
    (of : IsOfFiring system b table.next change) where
  at_table : Enabled system table b depth
  at_table = (tables_enable_the_same system table m b depth sound stands).1 enabled

  abbrev taken : ℕ → ℕ → List Value
  taken n place = values_at change.taken n place

  abbrev cleared : ℕ → ℕ → List Value
  cleared n place = values_at change.cleared n place

  nothing_of : (n place : ℕ) → ¬ IsThere table n → (taken n place ≡ []) × (cleared n place ≡ [])
  nothing_of n place apart = (
    of.taken n place
        ∙ nothing_taken system table b table.next n place at_table.fits apart,
    of.cleared n place
        ∙ nothing_cleared system table b table.next n place at_table.fits apart,
  )

  pub leaves_new : LeavesNew change table.next
  leaves_new n place high = nothing_of n place (λ there.
      let low = below_next system table n stands.form there in
      omega (arith, low, high))

  abbrev Asked : ℕ → ℕ → List Value → Type 0
  Asked n place held = IsWithin (taken n place ++ cleared n place) held

  of_old : (n place : ℕ) (i : Instance) → instance_at table n ≡ Some i →
      (taken n place ≡ taken_at system b (Old n) place)
      × (cleared n place ≡ all_of (cleared_at system b (Old n) place))
  of_old n place i e =
      let there : IsThere m n = (i, as_in_table system table m stands n i e) in
      let stay = numbering_keeps_demands system m b depth n place form sound enabled there in
      let next = stands.next in (
        of.taken n place
            ∙ ap (λ k. taken_at system (named system b k) (Old n) place) next ∙ stay.0,
        of.cleared n place
            ∙ ap (λ k. all_of (cleared_at system (named system b k) (Old n) place)) next
            ∙ ap all_of stay.1,
      )

  asked_there : (n place : ℕ) (o : Option Instance) → instance_at table n ≡ o →
      Asked n place (tokens_at (with_made system change.made table) n place)
  asked_there n place None e =
      let none = nothing_of n place (λ there. let no : None ≡ Some there.0 = sym e ∙ there.1 in absurd (let no : ⊥ = cc in no)) in
      subst (λ xs. IsWithin (xs ++ cleared n place) (tokens_at (with_made system change.made table) n place)) (sym none.0)
      (subst (λ xs. IsWithin ([] ++ xs) (tokens_at (with_made system change.made table) n place)) (sym none.1) (λ v. omega arith))
  asked_there n place (Some i) e =
      let are = of_old n place i e in
      let held : tokens_at (with_made system change.made table) n place ≡ tokens_at table n place =
      ap (λ o. unwrap_or (option_and_then (λ (i : Instance). slice_get i.places place) o) [])
      (numbered_kept n table.instances (new_from system table.next change.made) i e ∙ sym e) in
      subst (Asked n place) (sym held)
      (subst (λ xs. IsWithin (xs ++ cleared n place) (tokens_at table n place)) (sym are.0)
      (subst (λ xs. IsWithin (taken_at system b (Old n) place ++ xs) (tokens_at table n place)) (sym are.1)
      (asked_is_there system table b n place (at_table.fits.places (Old n) place))))

  of_nets : All (λ net. net < length system.nets) change.made
  of_nets =
      subst (All (λ net. net < length system.nets)) (sym of.made)
      (All-from_recursion (λ net. net < length system.nets) (map (λ c. c.net) (creations_of system b))
      (each_map (λ net. net < length system.nets) (λ c. c.net) (creations_of system b)
      (made_of_nets system b good enabled.shape.nodes)))

  placed : (rows : List Row) → AreOfArcs system (named system b table.next).nodes rows →
      ArePlaced (with_made system change.made table) rows
  placed rows are =
      subst (λ nets. ArePlaced (with_made system nets table) rows) (sym of.made)
      (rows_placed system table b depth good stands.form at_table rows are)

  pub may_come : table.next + length (creations_of system b) ≤ 1000001 → MayCome system change table
  may_come few =
      let count : length change.made ≡ length (creations_of system b) = ap length of.made ∙ length-map (creations_of system b) (λ c. c.net) in
      record {
        there = λ n place. asked_there n place (instance_at table n) refl;
        nets = of_nets;
        taken = placed change.taken of.taken_arcs;
        cleared = placed change.cleared of.cleared_arcs;
        put = placed change.put of.put_arcs;
        room = omega (arith, few, count);
      }

-- the change of an enabled binding may come to a table that stands for the marking
pub firings_may_come : FiringsMayCome
firings_may_come system table m b depth change good form sound stands enabled of few = (
  may_come system table m b depth change good form sound stands enabled of few,
  leaves_new system table m b depth change good form sound stands enabled of,
)

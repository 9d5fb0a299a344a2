-- No place holds more tokens than its capacity.
use Rattle.std.proofs.Common.{◌≡◌, ℕ, suc, ◌+◌, ◌-◌, ◌≤◌, Bool, true, false, List, [], ◌∷◌}
use Rattle.std.proofs.Common.{length, refl, sym, ap, ◌∙◌, subst, inl, inr, arith}
use Rattle.std.specs.Prelude.{Option, Some, None, Ok, slice_get, unwrap_or, option_map, flat_map}
use Rattle.std.specs.Prelude.{option_and_then, nat_eq, codes}
use Rattle.std.specs.List.{list_any}
use Rattle.std.specs.Ordering.{is_eq}
use Rattle.std.specs.Cmp.{Equal-is}
use Rattle.std.specs.Cmp.Lexicographic.{pointwise}
use Rattle.std.proofs.lemmas.Bool.{eqb-true}
use Rattle.std.proofs.lemmas.List.{append-nil}
use Rattle.std.proofs.lemmas.List.Elements.{All-contains}
use Rattle.std.proofs.lemmas.Option.{same_Some, option_and_then_some, slice_get_within}
use Rattle.std.proofs.lemmas.Option.{slice_get-map}
use Rattle.rn_value.specs.Order.{inst_cmp}
use Rattle.rn_value.specs.link.OrderLaws.{insts_apart}
use Rattle.rn_value.specs.declared.value.InstRef.TheVariants.{Old, New}
use Rattle.rn_value.specs.declared.value.Value.{Value}
use Rattle.rn_model.specs.declared.system.System.{System}
use Rattle.rn_model.specs.declared.system.Place.{Place}
use Rattle.rn_model.specs.declared.binding.Binding.{Binding}
use Rattle.rn_model.specs.Lists.{ordered_values}
use Rattle.rn_model.specs.Systems.{net_at, main_net, capacity}
use Rattle.rn_model.specs.Demands.{taken_at, cleared_at, filled_at}
use Rattle.rn_model.specs.Markings.{Marking, IsMarking, net_of, tokens_at, initial_marking}
use Rattle.rn_model.specs.SoundTokens.{HasSoundTokens}
use Rattle.rn_model.specs.Enabling.{Enabled, PlaceFits, HasRoom, MadeHasRoom}
use Rattle.rn_model.specs.Firing.{Effects, Fired, fire, effects, creations_of}
use Rattle.rn_model.specs.FiringLaws.{IsMadeOf, put_by}
use Rattle.rn_model.specs.Good.{Good, IsGoodPlace}
use Rattle.rn_model.specs.Runs.{Firing, RunFrom, after_firing, end_from}
use Rattle.rn_model.specs.CapacityLaws.{KeepsCapacities, InitialKeepsCapacities}
use Rattle.rn_model.specs.CapacityLaws.{FiringsKeepCapacities, RunsKeepCapacities}
use Rattle.rn_model.proofs.CountsAfterFiring.{instances_after_firing, new_tokens_after_firing}
use Rattle.rn_model.proofs.DeadInstances.{fired_as}
use Rattle.rn_model.proofs.EachElement.{at_place}
use Rattle.rn_model.proofs.FilledPlaces.{put_bound, none_filled}
use Rattle.rn_model.proofs.InitialTokens.{initial_tokens_are_sound}
use Rattle.rn_model.proofs.LengthsByCounts.{within_length, ordered_length, joined_length}
use Rattle.rn_model.proofs.LengthsByCounts.{moved_length}
use Rattle.rn_model.proofs.LiveByRounds.{any_contained}
use Rattle.rn_model.proofs.MarkingsOfRuns.{good_net, place_within, firings_keep_markings}
use Rattle.rn_model.proofs.MarkingsOfRuns.{initial_is_marking}
use Rattle.rn_model.proofs.NumberedDemands.{firings_move_tokens}
use Rattle.rn_model.proofs.SoundAfter.{firings_keep_tokens_sound}
use Rattle.rn_model.proofs.StandingNodes.{old_comes, made_comes}

-- A place with a capacity is there.
abbrev pub HasPlace : System → ℕ → ℕ → ℕ → Type 0
HasPlace system net place most =
    (p : Place) × (slice_get (net_at system net).places place ≡ Some p) × (p.max ≡ Some most)

place_of : (system : System) (net place most : ℕ) → capacity system net place ≡ Some most →
    HasPlace system net place most
place_of system net place most has =
    option_and_then_some (λ place. place.max) (slice_get (net_at system net).places place) most has
    (λ p at max. (p, at, max))

-- At the initial marking.
module _ (system : System) (good : Good system) where
  abbrev main : ℕ
  main = main_net system

  initial_of : (place : ℕ) (o : Option Place) → slice_get (net_at system main).places place ≡ o →
      (most : ℕ) → option_and_then (λ place. place.max) o ≡ Some most →
      length (unwrap_or (option_map (λ p. ordered_values p.initial) o) []) ≤ most
  initial_of place None e most has = absurd (let no : ⊥ = cc in no)
  initial_of place (Some p) e most has =
      let there = place_within (λ net. pointwise nat_eq net.name (codes "main")) system.nets
      good.main in
      let own = at_place IsGoodPlace (net_at system main).places place p
      (good_net system main good there).places e in
      let few = (own.max most has).1 in
      let many = ordered_length p.initial in
      omega (arith, few, many)

  initial_keeps : (n net place most : ℕ) (first : Bool) → nat_eq 1 n ≡ first →
      net_of (initial_marking system) n ≡ Some net → capacity system net place ≡ Some most →
      length (tokens_at (initial_marking system) n place) ≤ most
  initial_keeps n net place most true is there has =
      let number : 1 ≡ n = eqb-true 1 n is in
      let at_one : Some main ≡ Some net =
      subst (λ k. net_of (initial_marking system) k ≡ Some net) (sym number) there in
      let own : capacity system main place ≡ Some most =
      ap (λ k. capacity system k place) (same_Some main net at_one) ∙ has in
      let places = (net_at system main).places in
      let initial : Place → List Value = λ p. ordered_values p.initial in
      let few = initial_of place (slice_get places place) refl most own in
      let tokens : length (tokens_at (initial_marking system) 1 place)
      ≡ length (unwrap_or (option_map initial (slice_get places place)) []) =
      ap (λ o. length (unwrap_or o [])) (slice_get-map initial places place) in
      subst (λ k. length (tokens_at (initial_marking system) k place) ≤ most) number
      (omega (arith, few, tokens))
  initial_keeps n net place most false is there has =
      let none : None ≡ Some net = rw is at there in absurd (let no : ⊥ = cc in no)

pub initial_keeps_capacities : InitialKeepsCapacities
initial_keeps_capacities system good n net place most there has =
    initial_keeps system good n net place most (nat_eq 1 n) refl there has

-- what a place holds after a firing, by what it held before and what was taken, cleared and put
room_left : (after taken cleared before put filled most : ℕ) →
    after + taken + cleared ≡ before + put → taken + cleared ≤ before → put ≤ filled →
    (before - (taken + cleared)) + filled ≤ most → after ≤ most
room_left after taken cleared before put filled most moved enough few room =
    omega (arith, moved, enough, few, room)

module _ (system : System) (m : Marking) (b : Binding) (depth step : ℕ) (f : Fired)
    (acts : Effects) (good : Good system) (is : IsMarking system m)
    (sound : HasSoundTokens system m) (kept : KeepsCapacities system m)
    (enabled : Enabled system m b depth) (fires : fire system m b step ≡ Ok f)
    (are : effects system b m.next step ≡ Some acts) where
  module _ (n net place most : ℕ) (there : net_of m n ≡ Some net)
      (has : capacity system net place ≡ Some most) where
    abbrev before : List Value
    before = tokens_at m n place

    abbrev taken : List Value
    taken = taken_at system b (Old n) place

    abbrev cleared : List Value
    cleared = flat_map (λ vs. vs) (cleared_at system b (Old n) place)

    abbrev put : List Value
    put = put_by system acts n place

    moved : length (tokens_at f.marking n place) + length taken + length cleared
        ≡ length before + length put
    moved =
        let p = place_of system net place most has in
        moved_length (tokens_at f.marking n place) taken cleared before put (λ v.
        firings_move_tokens system m b depth step f acts is sound enabled fires are n net place v
        there (slice_get_within (net_at system net).places place p.0 p.1))

    -- what is taken and cleared is there
    enough : length taken + length cleared ≤ length before
    enough =
        let fits : PlaceFits system m b (Old n) place = enabled.fits.places (Old n) place in
        let few = within_length taken before fits.enough in
        elim fits.whole as (λ _. length taken + length cleared ≤ length before) [
          | inl none ↦
              let no_more : length cleared ≡ 0 =
              ap (λ vss. length (flat_map (λ vs. vs) vss)) none in
              omega (arith, few, no_more)
          | inr one ↦
              let all : length cleared ≡ length before =
              ap (λ vss. length (flat_map (λ vs. vs) vss)) one.0 ∙ ap length (append-nil before) in
              let nothing : length taken ≡ 0 = ap length one.1 in
              omega (arith, all, nothing)
        ]

    few_put : length put ≤ filled_at system b (Old n) place
    few_put =
        put_bound system b m.next step acts (Old n) n place most are
        (old_comes system m b depth good is enabled n net place most there has)

    by_nodes : (stand : Bool) →
        list_any (λ node. is_eq (inst_cmp node.inst (Old n))) b.nodes ≡ stand →
        length (tokens_at f.marking n place) ≤ most
    by_nodes false e =
        let none = none_filled system (Old n) place b e in
        let before_few = kept n net place most there has in
        omega (arith, none, before_few, moved, few_put)
    by_nodes true e =
        let found = any_contained (λ node. is_eq (inst_cmp node.inst (Old n))) b.nodes e in
        let node = found.0 in
        let on : node.inst ≡ Old n =
        insts_apart node.inst (Old n) ((Equal-is (inst_cmp node.inst (Old n))).0 found.2) in
        let own = All-contains (λ node. (n : ℕ) → node.inst ≡ Old n → net_of m n ≡ Some node.net)
        b.nodes node enabled.fits.there found.1 n on in
        let same : net ≡ node.net = same_Some net node.net (sym there ∙ own) in
        let room = All-contains (HasRoom system m b) b.nodes node enabled.fits.room found.1 n place
        most on (ap (λ k. capacity system k place) (sym same) ∙ has) in
        room_left (length (tokens_at f.marking n place)) (length taken) (length cleared)
        (length before) (length put) (filled_at system b (Old n) place) most moved enough few_put
        room

    pub old_kept : length (tokens_at f.marking n place) ≤ most
    old_kept = by_nodes (list_any (λ node. is_eq (inst_cmp node.inst (Old n))) b.nodes) refl

  pub made_kept : (n net place most : ℕ) → IsMadeOf system m b n net →
      capacity system net place ≡ Some most → length (tokens_at f.marking n place) ≤ most
  made_kept n net place most (k, c, at, number, net_is) has =
      let own : capacity system c.net place ≡ Some most =
      ap (λ net. capacity system net place) net_is ∙ has in
      let p = place_of system c.net place most own in
      let held = joined_length (tokens_at f.marking (m.next + k) place) p.0.initial
      (put_by system acts (m.next + k) place) (λ v.
      new_tokens_after_firing system m b step f acts is fires are k c place p.0 v at p.1) in
      let few = put_bound system b m.next step acts (New c.path c.index) (m.next + k) place most are
      (made_comes system m b depth good is enabled k c at place most own) in
      let room = at_place (MadeHasRoom system b) (creations_of system b) k c enabled.fits.made at
      place p.0 most p.1 p.2 in
      subst (λ n. length (tokens_at f.marking n place) ≤ most) number
      (omega (arith, held, few, room))

pub firings_keep_capacities : FiringsKeepCapacities
firings_keep_capacities system m b depth step f good is sound kept enabled fires n net place most
    there has =
    let as_fired = fired_as system m b step f fires in
    elim ((instances_after_firing system m b step f is fires n net).0 there)
    as (λ _. length (tokens_at f.marking n place) ≤ most) [
      | inl was ↦
          old_kept system m b depth step f as_fired.acts good is sound kept enabled fires
          as_fired.are n net place most was has
      | inr made ↦
          made_kept system m b depth step f as_fired.acts good is sound kept enabled fires
          as_fired.are n net place most made has
    ]

keep_from : (system : System) (depth step : ℕ) (m : Marking) (fs : List Firing) → Good system →
    IsMarking system m → HasSoundTokens system m → KeepsCapacities system m →
    RunFrom system depth step m fs → KeepsCapacities system (end_from system step m fs)
keep_from system depth step m [] good is sound kept run = kept
keep_from system depth step m (f ∷ fs) good is sound kept (fires, run) =
    let next = after_firing system step m f in
    let given : Fired = record { marking = next; outs = f.outs } in
    keep_from system depth (suc step) next fs good
    (firings_keep_markings system m f.binding depth step given good is fires.enabled fires.fired)
    (firings_keep_tokens_sound system m f.binding depth step given good is sound fires.enabled
    fires.fired)
    (firings_keep_capacities system m f.binding depth step given good is sound kept fires.enabled
    fires.fired) run

pub runs_keep_capacities : RunsKeepCapacities
runs_keep_capacities system depth fs good run =
    keep_from system depth 1 (initial_marking system) fs good (initial_is_marking system good)
    (initial_tokens_are_sound system good) (initial_keeps_capacities system good) run

-- What a firing makes of the tokens of each place, by what leaves and what comes.
use Rattle.std.proofs.Common.{◌≡◌, ℕ, ◌+◌, ◌-◌, ◌<◌, ◌≤◌, ◌⊎◌, List, [], ◌++◌, length}
use Rattle.std.proofs.Common.{refl, sym, ap, ◌∙◌, subst, inl, inr, arith, append-nil}
use Rattle.std.specs.Prelude.{Option, Some, None, Ok, Contains, slice_get, unwrap_or, option_map}
use Rattle.std.specs.Prelude.{option_and_then, flat_map, nat_eq}
use Rattle.std.specs.Option.{option_map_or}
use Rattle.std.proofs.lemmas.Bool.{cases_lt}
use Rattle.std.proofs.lemmas.List.{length-map}
use Rattle.std.proofs.lemmas.List.Elements.{All-contains}
use Rattle.std.proofs.lemmas.Option.{same_Some, slice_get-map, slice_get_past}
use Rattle.rn_value.specs.declared.value.InstRef.TheVariants.{Old}
use Rattle.rn_value.specs.declared.value.Value.{Value}
use Rattle.rn_model.specs.declared.system.System.{System}
use Rattle.rn_model.specs.declared.system.Place.{Place}
use Rattle.rn_model.specs.declared.binding.Binding.{Binding}
use Rattle.rn_model.specs.Demands.{taken_at, cleared_at}
use Rattle.rn_model.specs.Enabling.{Enabled, PlaceFits}
use Rattle.rn_model.specs.Firing.{Made, Effects, Fired, fire, effects, creations_of}
use Rattle.rn_model.specs.FiringLaws.{taken_by, cleared_by, put_by}
use Rattle.rn_model.specs.Good.{Good}
use Rattle.rn_model.specs.Lists.{IsWithin, count_of, ordered_values}
use Rattle.rn_model.specs.Markings.{Instance, Marking, IsMarking, instance_at, net_of}
use Rattle.rn_model.specs.Markings.{tokens_at}
use Rattle.rn_model.specs.SoundTokens.{HasSoundTokens}
use Rattle.rn_model.specs.Systems.{net_at}
use Rattle.rn_model.proofs.AskedValues.{counted}
use Rattle.rn_model.proofs.CountsAfterFiring.{instances_after_firing, new_tokens_after_firing}
use Rattle.rn_model.proofs.DeadInstances.{below_next, there_of_net}
use Rattle.rn_model.proofs.MarkingsOfRuns.{firings_keep_markings, found_is_there}
use Rattle.rn_model.proofs.NumberedDemands.{numbering_keeps_demands, firings_move_tokens}
use Rattle.rn_table.proofs.ChangeLemmas.{count_append}
use Rattle.rn_table.proofs.InstanceLemmas.{numbered_kept}
use Rattle.rn_table.specs.Changes.{new_from}
use Rattle.rn_acts.proofs.NewAskNothing.{nothing_taken, nothing_cleared}
use Rattle.rn_moves.specs.Moves.{brought_at, come_at, gone_at, nets_by}
use Rattle.rn_moves.proofs.Brought.{brought_below, brought_here, brought_past}
use Rattle.rn_moves.proofs.PlacesMoved.{HasPlace, full, put_placed, found_new, found_later}
use Rattle.rn_items.proofs.Lists.{is_past}

-- what a place that fits is asked for is there (`rn_acts` has the same, and lends it to no other crate)
asked_is_there : (system : System) (m : Marking) (b : Binding) (n place : ℕ) →
    PlaceFits system m b (Old n) place →
    IsWithin (taken_at system b (Old n) place
    ++ flat_map (λ vs. vs) (cleared_at system b (Old n) place)) (tokens_at m n place)
asked_is_there system m b n place fits v =
    let taken = taken_at system b (Old n) place in
    let all_of = λ (lists : List (List Value)). flat_map (λ vs. vs) lists in
    let cleared = cleared_at system b (Old n) place in
    let held = tokens_at m n place in
    let both = count_append v taken (all_of cleared) in
    let enough = fits.enough v in
    elim fits.whole as (λ _. count_of v (taken ++ all_of cleared) ≤ count_of v held) [
      | inl none ↦
          let no_more : count_of v (all_of cleared) ≡ 0 = ap (λ vss. count_of v (all_of vss)) none in
          omega (arith, both, enough, no_more)
      | inr one ↦
          let all : count_of v (all_of cleared) ≡ count_of v held =
          ap (λ vss. count_of v (all_of vss)) one.0 ∙ ap (count_of v) (append-nil held) in
          let nothing : count_of v taken ≡ 0 = ap (count_of v) one.1 in
          omega (arith, both, all, nothing)
    ]

-- an instance that isn't there has no tokens
pub none_there : (m : Marking) (n place : ℕ) → instance_at m n ≡ None → tokens_at m n place ≡ []
none_there m n place e =
    ap (λ o. unwrap_or (option_and_then (λ (i : Instance). slice_get i.places place) o) []) e

-- and neither has one that is, past the last place of its net
pub past_places : (system : System) (m : Marking) (n net place : ℕ) → IsMarking system m →
    net_of m n ≡ Some net → length (net_at system net).places ≤ place → tokens_at m n place ≡ []
past_places system m n net place is has past =
    let found = there_of_net m n net has in
    let placed = All-contains
    (λ i. (i.net < length system.nets)
    × (length i.places ≡ length (net_at system i.net).places)) m.instances found.0 is.placed
    (found_is_there (λ i. nat_eq i.number n) m.instances found.0 found.1) in
    let many : length found.0.places ≡ length (net_at system net).places =
    placed.1 ∙ ap (λ k. length (net_at system k).places) found.2 in
    ap (λ o. unwrap_or (option_and_then (λ (i : Instance). slice_get i.places place) o) []) found.1
    ∙ ap (λ o. unwrap_or o []) (slice_get_past found.0.places place (omega (arith, past, many)))

-- where its net is unknown an instance isn't there
pub no_net : (m : Marking) (n : ℕ) → net_of m n ≡ None → instance_at m n ≡ None
no_net m n e = by (instance_at m n) e
  where
    by : (o : Option Instance) → option_map (λ (i : Instance). i.net) o ≡ None → o ≡ None
    by None e = refl
    by (Some i) e = absurd (let no : ⊥ = cc in no)

-- what holds no value is empty, by counts
pub none_counted : (v : Value) (vs : List Value) → ¬ Contains vs v → count_of v vs ≡ 0
none_counted v vs apart = by (cases_lt 0 (count_of v vs))
  where
    by : (0 < count_of v vs) ⊎ (count_of v vs ≤ 0) → count_of v vs ≡ 0
    by (inl some) = absurd (apart (counted v vs some))
    by (inr none) = omega (arith, none)

module _ (system : System) (m : Marking) (b : Binding) (depth step : ℕ) (f : Fired) (acts : Effects)
    (good : Good system) (is : IsMarking system m) (sound : HasSoundTokens system m)
    (enabled : Enabled system m b depth) (fires : fire system m b step ≡ Ok f)
    (are : effects system b m.next step ≡ Some acts) (n place : ℕ) (v : Value) where
  abbrev nets : List ℕ
  nets = nets_by system b

  abbrev made : List Made
  made = creations_of system b

  abbrev taken : List Value
  taken = taken_by system b m.next n place

  abbrev cleared : List Value
  cleared = cleared_by system b m.next n place

  abbrev brought : List Value
  brought = brought_at system m.next nets n place

  abbrev put : List Value
  put = put_by system acts n place

  abbrev Enough : Type 0
  Enough = count_of v (gone_at system m.next b n place) ≤ count_of v (tokens_at m n place)

  abbrev Moved : Type 0
  Moved = count_of v (tokens_at f.marking n place) + count_of v (gone_at system m.next b n place)
      ≡ count_of v (tokens_at m n place) + count_of v (come_at system m.next b acts n place)

  all_gone : count_of v (gone_at system m.next b n place) ≡ count_of v taken + count_of v cleared
  all_gone = count_append v taken cleared

  all_come : count_of v (come_at system m.next b acts n place) ≡ count_of v brought + count_of v put
  all_come = count_append v brought put

  -- of an instance that isn't there nothing is taken or cleared
  none_gone : instance_at m n ≡ None → count_of v (gone_at system m.next b n place) ≡ 0
  none_gone e =
      let apart = λ (there : (i : Instance) × (instance_at m n ≡ Some i)).
      let no : None ≡ Some there.0 = sym e ∙ there.1 in
      let wrong : ⊥ = cc in wrong in
      let no_taken : count_of v taken ≡ 0 =
      ap (count_of v) (nothing_taken system m b m.next n place enabled.fits apart) in
      let no_cleared : count_of v cleared ≡ 0 =
      ap (count_of v) (nothing_cleared system m b m.next n place enabled.fits apart) in
      all_gone ∙ omega (arith, no_taken, no_cleared)

  enough_of : (o : Option Instance) → instance_at m n ≡ o → Enough
  enough_of None e = let none = none_gone e in omega (arith, none)
  enough_of (Some i) e =
      let keeps = numbering_keeps_demands system m b depth n place is sound enabled (i, e) in
      let there = asked_is_there system m b n place (enabled.fits.places (Old n) place) v in
      let both = count_append v (taken_at system b (Old n) place)
      (flat_map (λ vs. vs) (cleared_at system b (Old n) place)) in
      let same_taken = ap (count_of v) keeps.0 in
      let same_cleared = ap (λ vss. count_of v (flat_map (λ vs. vs) vss)) keeps.1 in
      let parts = all_gone in
      omega (arith, parts, there, both, same_taken, same_cleared)

  pub enough : Enough
  enough = enough_of (instance_at m n) refl

  -- where the place isn't there nothing is put
  none_put : ¬ HasPlace (full system m b depth step acts good is enabled are) n place →
      count_of v put ≡ 0
  none_put apart = none_counted v put (λ has.
      apart (put_placed system m b depth step acts good is enabled are n place v has))

  after_is : IsMarking system f.marking
  after_is = firings_keep_markings system m b depth step f good is enabled fires

  -- nothing was there, is there or moves
  nothing : count_of v (tokens_at f.marking n place) ≡ 0 → count_of v (tokens_at m n place) ≡ 0 →
      count_of v brought ≡ 0 → count_of v put ≡ 0 → Moved
  nothing after before no_brought no_put =
      let some = enough in
      let come = all_come in
      omega (arith, after, before, no_brought, no_put, some, come)

  of_old : (i : Instance) → instance_at m n ≡ Some i → Moved
  of_old i e = by_place (cases_lt place (length (net_at system i.net).places))
    where
      has : net_of m n ≡ Some i.net
      has = ap (option_map (λ i. i.net)) e

      still : net_of f.marking n ≡ Some i.net
      still = (instances_after_firing system m b step f is fires n i.net).1 (inl has)

      old : n < m.next
      old = below_next system m n is (i, e)

      no_brought : count_of v brought ≡ 0
      no_brought = ap (count_of v) (brought_below system place m.next nets n old)

      by_place : (place < length (net_at system i.net).places)
          ⊎ (length (net_at system i.net).places ≤ place) → Moved
      by_place (inl within) =
          let moved = firings_move_tokens system m b depth step f acts is sound enabled fires are n i.net place v has within in
          let keeps = numbering_keeps_demands system m b depth n place is sound enabled (i, e) in
          let same_taken = ap (count_of v) keeps.0 in
          let same_cleared = ap (λ vss. count_of v (flat_map (λ vs. vs) vss)) keeps.1 in
          let gone = all_gone in
          let come = all_come in
          let none = no_brought in
          omega (arith, moved, same_taken, same_cleared, gone, come, none)
      by_place (inr past) =
          let after = ap (count_of v) (past_places system f.marking n i.net place after_is still past) in
          let before = ap (count_of v) (past_places system m n i.net place is has past) in
          nothing after before no_brought (none_put (λ there.
          let placed = All-contains
          (λ i. (i.net < length system.nets)
          × (length i.places ≡ length (net_at system i.net).places)) m.instances i is.placed
          (found_is_there (λ i. nat_eq i.number n) m.instances i e) in
          let kept = numbered_kept n m.instances (new_from system m.next nets) i e in
          let same : there.0 ≡ i = same_Some there.0 i (sym there.1 ∙ kept) in
          let many : length there.0.places ≡ length (net_at system i.net).places =
          ap (λ (j : Instance). length j.places) same ∙ placed.1 in
          let low = there.2 in
          let no : ⊥ = omega (arith, low, many, past) in no))

  -- an instance that is none of the old and has no place there
  of_none : instance_at m n ≡ None → tokens_at f.marking n place ≡ [] → brought ≡ [] →
      ¬ HasPlace (full system m b depth step acts good is enabled are) n place → Moved
  of_none e after no_brought apart =
      nothing (ap (count_of v) after) (ap (count_of v) (none_there m n place e))
      (ap (count_of v) no_brought) (none_put apart)

  -- the new instance of a number
  new_place : instance_at m n ≡ None →
      HasPlace (full system m b depth step acts good is enabled are) n place →
      (k : ℕ) × (net : ℕ) × (slice_get nets k ≡ Some net) × (m.next + k ≡ n)
      × (place < length (net_at system net).places)
  new_place e there =
      let later = found_later n m.instances (new_from system m.next nets) e in
      let new = found_new system m.next nets n there.0 (sym later ∙ there.1) in
      let many : length there.0.places ≡ length (net_at system new.1).places =
      ap (λ (j : Instance). length j.places) new.4
      ∙ length-map (net_at system new.1).places (λ p. ordered_values p.initial) in
      let low = there.2 in
      (new.0, new.1, new.2, new.3, omega (arith, low, many))

  -- the net of a creation, by its index
  net_made : (k : ℕ) (c : Made) → slice_get made k ≡ Some c → slice_get nets k ≡ Some c.net
  net_made k c at = slice_get-map (λ (c : Made). c.net) made k ∙ ap (option_map (λ (c : Made). c.net)) at

  new_number : (k : ℕ) (c : Made) → instance_at m n ≡ None → m.next + k ≡ n →
      slice_get made k ≡ Some c → (p : Option Place) →
      slice_get (net_at system c.net).places place ≡ p → Moved
  new_number k c e number at (Some p) here =
      let now = new_tokens_after_firing system m b step f acts is fires are k c place p v at here in
      let after : count_of v (tokens_at f.marking n place) ≡ count_of v p.initial + count_of v put =
      subst (λ j. count_of v (tokens_at f.marking j place)
      ≡ count_of v p.initial + count_of v (put_by system acts j place)) number now in
      let before : count_of v (tokens_at m n place) ≡ 0 = ap (count_of v) (none_there m n place e) in
      let own : brought ≡ p.initial =
      ap (λ j. brought_at system m.next nets j place) (sym number)
      ∙ brought_here system place m.next nets k c.net (net_made k c at)
      ∙ ap (λ o. option_map_or (λ (p : Place). p.initial) o []) here in
      let initial = ap (count_of v) own in
      let gone = none_gone e in
      let come = all_come in
      omega (arith, after, before, initial, gone, come)
  new_number k c e number at None here =
      let own : brought ≡ [] =
      ap (λ j. brought_at system m.next nets j place) (sym number)
      ∙ brought_here system place m.next nets k c.net (net_made k c at)
      ∙ ap (λ o. option_map_or (λ (p : Place). p.initial) o []) here in
      let still : net_of f.marking n ≡ Some c.net =
      (instances_after_firing system m b step f is fires n c.net).1 (inr (k, c, at, number, refl)) in
      let past : length (net_at system c.net).places ≤ place = is_past (net_at system c.net).places place here in
      of_none e (past_places system f.marking n c.net place after_is still past) own (λ there.
      let new = new_place e there in
      let number_too = new.3 in
      let index : new.0 ≡ k = omega (arith, number, number_too) in
      let net : new.1 ≡ c.net = same_Some new.1 c.net
      (sym new.2 ∙ ap (slice_get nets) index ∙ net_made k c at) in
      let many = ap (λ k. length (net_at system k).places) net in
      let low = new.4 in
      let no : ⊥ = omega (arith, low, many, past) in no)

  -- where the firing makes no instance of this number, nothing is there after it
  none_after : instance_at m n ≡ None →
      ((k : ℕ) (c : Made) → slice_get made k ≡ Some c → m.next + k ≡ n → ⊥) →
      tokens_at f.marking n place ≡ []
  none_after e not_new = by (net_of f.marking n) refl
    where
      by : (o : Option ℕ) → net_of f.marking n ≡ o → tokens_at f.marking n place ≡ []
      by None none = none_there f.marking n place (no_net f.marking n none)
      by (Some net) some =
          elim ((instances_after_firing system m b step f is fires n net).0 some)
          as (λ _. tokens_at f.marking n place ≡ []) [
            | inl was ↦
                let wrong : None ≡ Some net = sym (ap (option_map (λ i. i.net)) e) ∙ was in
                absurd (let no : ⊥ = cc in no)
            | inr new ↦ absurd (not_new new.0 new.1 new.2 new.3)
          ]

  not_made : (k : ℕ) → instance_at m n ≡ None → m.next + k ≡ n → slice_get made k ≡ None → Moved
  not_made k e number at =
      let no_net_made : slice_get nets k ≡ None =
      slice_get-map (λ (c : Made). c.net) made k ∙ ap (option_map (λ (c : Made). c.net)) at in
      let none : brought ≡ [] =
      ap (λ j. brought_at system m.next nets j place) (sym number)
      ∙ brought_past system place m.next nets k no_net_made in
      of_none e (none_after e (λ j c here its_number.
      let index : j ≡ k = omega (arith, number, its_number) in
      let wrong : None ≡ Some c = sym at ∙ ap (slice_get made) (sym index) ∙ here in
      let no : ⊥ = cc in no)) none (λ there.
      let new = new_place e there in
      let number_too = new.3 in
      let index : new.0 ≡ k = omega (arith, number, number_too) in
      let wrong : None ≡ Some new.1 = sym no_net_made ∙ ap (slice_get nets) (sym index) ∙ new.2 in
      let no : ⊥ = cc in no)

  -- one with a number below the next that isn't there
  lower : n < m.next → instance_at m n ≡ None → Moved
  lower low e =
      of_none e (none_after e (λ j c here its_number.
      let no : ⊥ = omega (arith, low, its_number) in no))
      (brought_below system place m.next nets n low) (λ there.
      let new = new_place e there in
      let number_too = new.3 in
      let no : ⊥ = omega (arith, low, number_too) in no)

  of_new : instance_at m n ≡ None → (n < m.next) ⊎ (m.next ≤ n) → Moved
  of_new e (inl low) = lower low e
  of_new e (inr high) = by_made (slice_get made (n - m.next)) refl
    where
      number : m.next + (n - m.next) ≡ n
      number = omega (arith, high)

      by_made : (o : Option Made) → slice_get made (n - m.next) ≡ o → Moved
      by_made None at = not_made (n - m.next) e number at
      by_made (Some c) at =
          new_number (n - m.next) c e number at (slice_get (net_at system c.net).places place) refl

  moved_of : (o : Option Instance) → instance_at m n ≡ o → Moved
  moved_of (Some i) e = of_old i e
  moved_of None e = of_new e (cases_lt n m.next)

  -- What a place holds after a firing, and what left it, is what it held and what came.
  pub moved : Moved
  moved = moved_of (instance_at m n) refl

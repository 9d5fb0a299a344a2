-- Instances, numbers and counts of tokens after a firing.
use Rattle.std.proofs.Common.{◌≡◌, ℕ, zero, suc, ◌+◌, ◌-◌, ◌<◌, ◌≤◌, ◌⊎◌, List, [], ◌∷◌, ◌++◌, map}
use Rattle.std.proofs.Common.{length, refl, sym, ap, ◌∙◌, subst, inl, inr, arith}
use Rattle.std.specs.Prelude.{Option, Some, None, slice_get, unwrap_or, option_map, Ok}
use Rattle.std.specs.Prelude.{option_and_then, nat_eq}
use Rattle.std.proofs.lemmas.List.Elements.{All-contains}
use Rattle.std.proofs.lemmas.Option.{same_Some, slice_get-get_or}
use Rattle.rn_value.specs.declared.value.InstRef.TheVariants.{Old}
use Rattle.rn_value.specs.declared.value.Value.{Value}
use Rattle.rn_model.specs.declared.system.System.{System}
use Rattle.rn_model.specs.declared.system.Place.{Place}
use Rattle.rn_model.specs.declared.binding.Binding.{Binding}
use Rattle.rn_model.specs.Lists.{count_of, ordered_values, without_each}
use Rattle.rn_model.specs.Systems.{net_at}
use Rattle.rn_model.specs.Demands.{rest_at}
use Rattle.rn_model.specs.Markings.{Instance, Marking, IsMarking, instance_at, net_of}
use Rattle.rn_model.specs.Markings.{tokens_at, fresh_instance}
use Rattle.rn_model.specs.Firing.{Made, Effects, Fired, fire, effects, creations_of, named}
use Rattle.rn_model.specs.Firing.{marking_after, instance_after, new_instance, tokens_after}
use Rattle.rn_model.specs.FiringLaws.{NextAfterFiring, InstancesAfterFiring, IsMadeOf, taken_by}
use Rattle.rn_model.specs.FiringLaws.{cleared_by, put_by, OldTokensAfterFiring}
use Rattle.rn_model.specs.FiringLaws.{NewTokensAfterFiring}
use Rattle.rn_model.proofs.AfterFiring.{found_number, was_or_is_new, was_there, is_new}
use Rattle.rn_model.proofs.AfterFiring.{changed_place}
use Rattle.rn_model.proofs.DeadInstances.{FiredAs, fired_as, below_next, there_of_net}
use Rattle.rn_model.proofs.MarkingsOfRuns.{found_is_there}
use Rattle.rn_model.proofs.IndicesInLists.{in_enumerated, from_enumerated}
use Rattle.rn_model.proofs.ValueLists.{ordered_values_stay, others_are_taken}
use Rattle.rn_model.proofs.LengthsByCounts.{joined_counts}

-- a firing gives as many numbers as its binding has creations
pub next_after_firing : NextAfterFiring
next_after_firing system m b step f fires =
    let as_fired = fired_as system m b step f fires in
    sym (ap (λ x. x.next) as_fired.marking)

-- an instance that isn't there yet
pub not_yet : (system : System) (m : Marking) (n : ℕ) → IsMarking system m → m.next ≤ n →
    instance_at m n ≡ None
not_yet system m n is high = by_instance (instance_at m n) refl
  where
    by_instance : (o : Option Instance) → instance_at m n ≡ o → o ≡ None
    by_instance None e = refl
    by_instance (Some i) e =
        let low = below_next system m n is (i, e) in
        absurd (let no : ⊥ = omega (arith, low, high) in no)

module _ (system : System) (m : Marking) (b : Binding) (step : ℕ) (f : Fired)
    (is : IsMarking system m) (fires : fire system m b step ≡ Ok f) where
  abbrev made : List Made
  made = creations_of system b

  abbrev numbered : Binding
  numbered = named system b m.next

  fired : FiredAs system m b step f
  fired = fired_as system m b step f fires

  abbrev after : Effects → Marking
  after acts = marking_after system m made numbered acts

  -- the instance that a creation makes is there
  new_there : (acts : Effects) (k : ℕ) (c : Made) → slice_get made k ≡ Some c →
      instance_at (after acts) (m.next + k)
      ≡ Some (new_instance system numbered acts (m.next + k, c))
  new_there acts k c at =
      is_new system m made numbered acts (m.next + k, c)
      (not_yet system m (m.next + k) is (omega arith)) (in_enumerated m.next made k c at)

  net_after : (acts : Effects) (n net : ℕ) → net_of (after acts) n ≡ Some net →
      (net_of m n ≡ Some net) ⊎ IsMadeOf system m b n net
  net_after acts n net e =
      let found = there_of_net (after acts) n net e in
      elim (was_or_is_new system m made numbered acts n found.0 found.1)
      as (λ _. (net_of m n ≡ Some net) ⊎ IsMadeOf system m b n net) [
        | inl (i, was, same) ↦
            let net_is : i.net ≡ net = sym (ap (λ j. j.net) same) ∙ found.2 in
            inl (ap (option_map (λ i. i.net)) was ∙ ap Some net_is)
        | inr (c, there, none, same) ↦
            let at = from_enumerated m.next made (n, c) there in
            inr (at.0, c, at.2, sym at.1, sym (ap (λ j. j.net) same) ∙ found.2)
      ]

  after_net : (acts : Effects) (n net : ℕ) →
      (net_of m n ≡ Some net) ⊎ IsMadeOf system m b n net → net_of (after acts) n ≡ Some net
  after_net acts n net (inl was) =
      let found = there_of_net m n net was in
      ap (option_map (λ i. i.net)) (was_there system m made numbered acts n found.0 found.1)
      ∙ ap Some found.2
  after_net acts n net (inr (k, c, at, number, net_is)) =
      subst (λ j. net_of (after acts) j ≡ Some net) number
      (ap (option_map (λ i. i.net)) (new_there acts k c at) ∙ ap Some net_is)

  module _ (acts : Effects) (n place : ℕ) (v : Value) where
    abbrev rest : List Value → List Value
    rest vs = rest_at system numbered (Old n) place vs

    abbrev put : List Value
    put = put_by system acts n place

    rest_counted : (vs : List Value) →
        count_of v (rest vs)
        ≡ (count_of v vs - count_of v (taken_by system b m.next n place))
        - count_of v (cleared_by system b m.next n place)
    rest_counted vs =
        let taken = taken_by system b m.next n place in
        let cleared = cleared_by system b m.next n place in
        others_are_taken (without_each vs taken) cleared v
        ∙ ap (λ k. k - count_of v cleared) (others_are_taken vs taken v)

    after_counted : (vs : List Value) →
        count_of v (tokens_after system numbered acts n place vs) ≡ count_of v vs + count_of v put
    after_counted vs = ordered_values_stay (vs ++ put) v ∙ joined_counts v vs put

    -- the tokens of an instance at its place
    held : (x : Marking) (i : Instance) (vs : List Value) → instance_at x n ≡ Some i →
        slice_get i.places place ≡ Some vs → tokens_at x n place ≡ vs
    held x i vs e at =
        ap (λ o. unwrap_or (option_and_then (λ i. slice_get i.places place) o) []) e
        ∙ ap (λ o. unwrap_or o []) at

    old_changed : (i : Instance) (vs : List Value) → i.number ≡ n →
        slice_get i.places place ≡ Some vs →
        slice_get (instance_after system numbered acts i).places place
        ≡ Some (tokens_after system numbered acts n place (rest vs))
    old_changed i vs number at =
        let change = λ (n place : ℕ) (vs : List Value).
        tokens_after system numbered acts n place
        (rest_at system numbered (Old n) place vs) in
        changed_place (change i.number) i place ∙ ap (option_map (change i.number place)) at
        ∙ ap (λ n. Some (change n place vs)) number

    old_counted : (i : Instance) → instance_at m n ≡ Some i → place < length i.places →
        count_of v (tokens_at (after acts) n place)
        ≡ ((count_of v (tokens_at m n place) - count_of v (taken_by system b m.next n place))
        - count_of v (cleared_by system b m.next n place)) + count_of v put
    old_counted i e within =
        let vs = unwrap_or (slice_get i.places place) [] in
        let at : slice_get i.places place ≡ Some vs =
        let got = slice_get-get_or i.places place [] within in
        got ∙ ap (λ o. Some (unwrap_or o [])) (sym got) in
        let number = found_number m.instances n i e in
        let now = held (after acts) (instance_after system numbered acts i)
        (tokens_after system numbered acts n place (rest vs))
        (was_there system m made numbered acts n i e) (old_changed i vs number at) in
        ap (count_of v) now ∙ after_counted (rest vs)
        ∙ ap (λ k. k + count_of v put) (rest_counted vs)
        ∙ ap (λ ws. ((count_of v ws - count_of v (taken_by system b m.next n place))
        - count_of v (cleared_by system b m.next n place)) + count_of v put)
        (sym (held m i vs e at))

  got_mapped : {X Y : Type 0} (g : X → Y) (xs : List X) (k : ℕ) →
      slice_get (map g xs) k ≡ option_map g (slice_get xs k)
  got_mapped g [] k = refl
  got_mapped g (x ∷ xs) zero = refl
  got_mapped g (x ∷ xs) (suc k) = got_mapped g xs k

  new_counted : (acts : Effects) (k : ℕ) (c : Made) (place : ℕ) (p : Place) (v : Value) →
      slice_get made k ≡ Some c → slice_get (net_at system c.net).places place ≡ Some p →
      count_of v (tokens_at (after acts) (m.next + k) place)
      ≡ count_of v p.initial + count_of v (put_by system acts (m.next + k) place)
  new_counted acts k c place p v at here =
      let n = m.next + k in
      let fresh = fresh_instance system n c.net in
      let first = ordered_values p.initial in
      let initial = λ (p : Place). ordered_values p.initial in
      let places = (net_at system c.net).places in
      let got : slice_get fresh.places place ≡ Some first =
      got_mapped initial places place ∙ ap (option_map initial) here in
      let changed = changed_place (tokens_after system numbered acts n) fresh place
      ∙ ap (option_map (tokens_after system numbered acts n place)) got in
      let now = held acts n place v (after acts) (new_instance system numbered acts (n, c))
      (tokens_after system numbered acts n place first) (new_there acts k c at) changed in
      ap (count_of v) now ∙ after_counted acts n place v first
      ∙ ap (λ k. k + count_of v (put_by system acts n place)) (ordered_values_stay p.initial v)

  -- the effects of the firing are those given
  same_acts : (acts : Effects) → effects system b m.next step ≡ Some acts → fired.acts ≡ acts
  same_acts acts are = same_Some fired.acts acts (sym fired.are ∙ are)

  pub marking_is : (acts : Effects) → effects system b m.next step ≡ Some acts →
      marking_after system m (creations_of system b) (named system b m.next) acts ≡ f.marking
  marking_is acts are = ap after (sym (same_acts acts are)) ∙ fired.marking

-- after it just those instances are there that were and those that it makes
pub instances_after_firing : InstancesAfterFiring
instances_after_firing system m b step f is fires n net =
    let as_fired = fired_as system m b step f fires in
    let Has = λ (x : Marking). net_of x n ≡ Some net in (
      λ e. net_after system m b step f is fires as_fired.acts n net
          (subst Has (sym as_fired.marking) e),
      λ from. subst Has as_fired.marking
          (after_net system m b step f is fires as_fired.acts n net from),
    )

pub old_tokens_after_firing : OldTokensAfterFiring
old_tokens_after_firing system m b step f acts is fires are n net place v has within =
    let found = there_of_net m n net has in
    let placed = All-contains
    (λ i. (i.net < length system.nets)
    × (length i.places ≡ length (net_at system i.net).places)) m.instances found.0 is.placed
    (found_is_there (λ i. nat_eq i.number n) m.instances found.0 found.1) in
    let many : length found.0.places ≡ length (net_at system net).places =
    placed.1 ∙ ap (λ k. length (net_at system k).places) found.2 in
    let count = old_counted system m b step f is fires acts n place v found.0 found.1
    (omega (arith, within, many)) in
    sym (ap (λ x. count_of v (tokens_at x n place))
    (marking_is system m b step f is fires acts are))
    ∙ count

-- a place of a new instance holds its initial tokens and what is put there
pub new_tokens_after_firing : NewTokensAfterFiring
new_tokens_after_firing system m b step f acts is fires are k c place p v at here =
    sym (ap (λ x. count_of v (tokens_at x (m.next + k) place))
    (marking_is system m b step f is fires acts are))
    ∙ new_counted system m b step f is fires acts k c place p v at here

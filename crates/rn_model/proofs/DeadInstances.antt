-- An instance that isn't live stays so.
use Rattle.std.proofs.Common.{◌≡◌, ℕ, zero, suc, ◌+◌, ◌<◌, Bool, true, false, ◌||◌, List, [], ◌∷◌, length, refl, sym, ap, ◌∙◌, subst, inl, inr, arith}
use Rattle.std.specs.Prelude.{Option, Some, None, Ok, Contains, IsTrue, nat_le, nat_eq, position, ◌&&◌, slice_get, option_map}
use Rattle.std.specs.Option.{option_map_or}
use Rattle.std.specs.Cmp.Lexicographic.{pointwise}
use Rattle.std.specs.List.{enumerate_from}
use Rattle.std.proofs.lemmas.Bool.Decides.{nat_tests}
use Rattle.std.proofs.lemmas.List.Elements.{All-contains, All-from_recursion}
use Rattle.rn_items.proofs.Bools.{or_true, or_left, or_right}
use Rattle.rn_value.specs.declared.value.InstRef.{InstRef}
use Rattle.rn_value.specs.declared.value.InstRef.TheVariants.{Old, New}
use Rattle.rn_value.specs.declared.value.Value.{Value}
use Rattle.rn_model.specs.declared.system.System.{System}
use Rattle.rn_model.specs.declared.system.Place.{Place}
use Rattle.rn_model.specs.declared.binding.Binding.{Binding}
use Rattle.rn_model.specs.Good.{Good, IsGoodPlace, IsGoodToken}
use Rattle.rn_model.specs.Systems.{net_at}
use Rattle.rn_model.specs.Markings.{Marking, Instance, IsMarking, IsThere, instance_at, net_of}
use Rattle.rn_model.specs.Enabling.{Enabled}
use Rattle.rn_model.specs.Demands.{asked_at, puts}
use Rattle.rn_model.specs.Liveness.{IsLive, starts, held, mentions}
use Rattle.rn_model.specs.SoundTokens.{HasSoundTokens}
use Rattle.rn_model.specs.Firing.{Made, Effects, Fired, fire, firing_result, effects, creations_of, named, numbered_inst, marking_after, instance_after, too_many}
use Rattle.rn_model.specs.LivenessLaws.{DeadStayDead}
use Rattle.rn_model.proofs.EachElement.{at_place}
use Rattle.rn_model.proofs.EnablingLemmas.{not_in_nil}
use Rattle.rn_model.proofs.InitialTokens.{apart}
use Rattle.rn_model.proofs.MarkingsOfRuns.{good_net, made_of_nets, IsOfNet, found_is_there}
use Rattle.rn_model.proofs.LiveByRounds.{live_decided}
use Rattle.rn_model.proofs.PassingInstances.{only_mentions}
use Rattle.rn_model.proofs.DerivedInstances.{inst_passes, value_passes}
use Rattle.rn_model.proofs.LiveBindings.{live_or_new, live_pass_on}
use Rattle.rn_model.proofs.AskedValues.{later}
use Rattle.rn_model.proofs.AfterFiring.{found_number, was_there, token_from}
use Rattle.rn_model.proofs.PutValues.{put_passes}

-- What a firing that is defined gives.
pub record FiredAs (system : System) (m : Marking) (b : Binding) (step : ℕ) (f : Fired) : Type 0 where
  pub acts : Effects
  pub are : effects system b m.next step ≡ Some acts
  pub marking : marking_after system m (creations_of system b) (named system b m.next) acts ≡ f.marking
  pub outs : acts.outs ≡ f.outs

-- each firing that is defined gives that
pub fired_as : (system : System) (m : Marking) (b : Binding) (step : ℕ) (f : Fired) → fire system m b step ≡ Ok f → FiredAs system m b step f
fired_as system m b step f fires = by_effects (effects system b m.next step) (too_many m.next (length (creations_of system b))) refl refl fires
  where
    by_effects : (acts : Option Effects) (many : Bool) → effects system b m.next step ≡ acts → too_many m.next (length (creations_of system b)) ≡ many → firing_result system m b acts ≡ Ok f → FiredAs system m b step f
    by_effects None many e few fires = absurd (let no : ⊥ = cc in no)
    by_effects (Some acts) true e few fires = let undefined = rw few at fires in absurd (let no : ⊥ = cc in no)
    by_effects (Some acts) false e few fires =
        let defined = rw few at fires in
        let given : record { marking = marking_after system m (creations_of system b) (named system b m.next) acts; outs = acts.outs } ≡ f = cc in
        record { acts = acts; are = e; marking = ap (λ g. g.marking) given; outs = ap (λ g. g.outs) given }

-- where a number has a net, an instance of that net is there
pub there_of_net : (m : Marking) (n net : ℕ) → net_of m n ≡ Some net → (i : Instance) × (instance_at m n ≡ Some i) × (i.net ≡ net)
there_of_net m n net e = by_instance (instance_at m n) refl e
  where
    by_instance : (o : Option Instance) → instance_at m n ≡ o → option_map (λ i. i.net) o ≡ Some net → (i : Instance) × (instance_at m n ≡ Some i) × (i.net ≡ net)
    by_instance None is e = absurd (let no : ⊥ = cc in no)
    by_instance (Some i) is e = let same : i.net ≡ net = cc in (i, is, same)

-- a live instance is there
pub live_there : (system : System) (m : Marking) (n : ℕ) → IsLive system m n → IsThere m n
live_there system m n (starts {net = net} there may) = let found = there_of_net m n net there in (found.0, found.1)
live_there system m n (held place live contained said there) = there

-- an instance that is there has a number below the next one
pub below_next : (system : System) (m : Marking) (n : ℕ) → IsMarking system m → IsThere m n → n < m.next
below_next system m n is (i, e) =
    let numbered = All-contains (λ i. (0 < i.number) × (i.number < m.next)) m.instances i is.numbered (found_is_there (λ i. nat_eq i.number n) m.instances i e) in
    let number = found_number m.instances n i e in
    omega (arith, numbered.1, number)

pub made_of : (k : ℕ) (made : List Made) (p : ℕ × Made) → Contains (enumerate_from k made) p → Contains made p.1
made_of k [] p there = absurd (not_in_nil p there)
made_of k (c ∷ made) p (zero, h, e) = (0, omega arith, ap (λ q. q.1) e)
made_of k (c ∷ made) p (suc j, h, e) = later c p.1 made (made_of (k + 1) made p (j, omega (arith, h), e))

-- an initial token of a net that a binding makes instances of is good
pub first_token : (system : System) (b : Binding) (depth k : ℕ) (m : Marking) (n : ℕ) (c : Made) (place : ℕ) (p : Place) (v : Value) → Good system → Enabled system m b depth → Contains (enumerate_from k (creations_of system b)) (n, c) →
    slice_get (net_at system c.net).places place ≡ Some p → Contains p.initial v → IsGoodToken p.kind v
first_token system b depth k m n c place p v good enabled new place_is has =
    let net : c.net < length system.nets = All-contains (IsOfNet system) (creations_of system b) c (All-from_recursion (IsOfNet system) (creations_of system b) (made_of_nets system b good enabled.shape.nodes)) (made_of k (creations_of system b) (n, c) new) in
    All-contains (IsGoodToken p.kind) p.initial v (at_place IsGoodPlace (net_at system c.net).places place p (good_net system c.net good net).places place_is).initial has

-- live ones, those that get their numbers from this one on, and all that have none
abbrev pub live_or_later : (ℕ → Bool) → ℕ → InstRef → Bool
live_or_later live next (Old n) = live n || nat_le next n
live_or_later live next (New path j) = true

from_next : (next k : ℕ) → nat_le next (next + k) ≡ true
from_next next k = grind (arith, nat_tests)

module _ (system : System) (m : Marking) (b : Binding) (depth step : ℕ) (f : Fired) (good : Good system) (is : IsMarking system m) (sound : HasSoundTokens system m) (enabled : Enabled system m b depth) (fires : fire system m b step ≡ Ok f) where
  abbrev fired : FiredAs system m b step f
  fired = fired_as system m b step f fires

  abbrev made : List Made
  made = creations_of system b

  abbrev after : Marking
  after = marking_after system m made (named system b m.next) fired.acts

  numbers_pass : (live : ℕ → Bool) (path : List ℕ) (j : ℕ) (place : Option ℕ) → live_or_later live m.next (option_map_or (λ k. Old (m.next + k)) place (New path j)) ≡ true
  numbers_pass live path j None = refl
  numbers_pass live path j (Some k) = or_right (live (m.next + k)) (nat_le m.next (m.next + k)) (from_next m.next k)

  renames : (live : ℕ → Bool) (i : InstRef) → live_or_new live i ≡ true → live_or_later live m.next (numbered_inst made m.next i) ≡ true
  renames live (Old n) e = or_left (live n) (nat_le m.next n) e
  renames live (New path j) e = numbers_pass live path j (position (λ c. pointwise nat_eq c.path path && nat_eq c.index j) made)

  -- an instance that was there and that a put token names is live
  put_live : (h place n : ℕ) (v : Value) → Contains (asked_at puts system fired.acts.read (Old h) place) v → IsTrue (mentions v n) → IsThere m n → IsLive system m n
  put_live h place n v put said there =
      let live = live_decided system m in
      let passes = live_pass_on system m b depth sound enabled live.0 live.1 in
      let passing = put_passes system b m.next step fired.acts fired.are (live_or_new live.0) (live_or_later live.0 m.next) (renames live.0)
      (inst_passes system m b (live_or_new live.0) depth enabled passes) (value_passes system m b (live_or_new live.0) depth enabled passes good) (Old h) place v put in
      elim (or_true (live.0 n) (nat_le m.next n) (only_mentions (live_or_later live.0 m.next) v passing n said)) as (λ _. IsLive system m n) [
        | inl lives ↦ live.1.sound n lives
        | inr high ↦ let low = below_next system m n is there in absurd (let no : ⊥ = grind (arith, nat_tests) in no)
      ]

  was_live : (n : ℕ) → IsLive system after n → IsThere m n → IsLive system m n
  was_live n (starts {net = net} there_after may) there =
      let found = there_of_net after n net there_after in
      let same : Some found.0 ≡ Some (instance_after system (named system b m.next) fired.acts there.0) = sym found.1 ∙ was_there system m made (named system b m.next) fired.acts n there.0 there.1 in
      let inst : found.0 ≡ instance_after system (named system b m.next) fired.acts there.0 = cc in
      starts {net = net} (ap (option_map (λ i. i.net)) there.1 ∙ ap (λ i. Some i.net) (sym inst) ∙ ap Some found.2) may
  was_live n (held {holder = h} {token = token} place live has said there_after) there =
      let holder = live_there system after h live in
      elim (token_from system m made (named system b m.next) fired.acts h place token holder.0 holder.1 has) as (λ _. IsLive system m n) [
        | inl (i, found, before) ↦ held place (was_live h live (i, found)) before said there
        | inr other ↦ elim other as (λ _. IsLive system m n) [
          | inl (c, p, new, place_is, first) ↦
              let none : mentions token n ≡ false = (apart token (first_token system b depth m.next m h c place p token good enabled new place_is first).apart).1 n in
              let no_name : true ≡ false = sym said ∙ none in
              absurd (let no : ⊥ = cc in no)
          | inr put ↦ put_live h place n token put said there
        ]
      ]

  pub live_before : (n : ℕ) → IsLive system f.marking n → IsThere m n → IsLive system m n
  live_before n live there = was_live n (subst (λ x. IsLive system x n) (sym fired.marking) live) there

pub dead_stay_dead : DeadStayDead
dead_stay_dead system m b depth step f good is sound enabled fires n there dead live = dead (live_before system m b depth step f good is sound enabled fires n live there)

-- Which instances one reaches is decided: beside itself they are those to which an instance refers
-- that is live where it alone may start.
use Rattle.std.proofs.Common.{◌≡◌, ℕ, Bool, true, false, ◌&&◌, ◌||◌, cond, List, [], ◌∷◌, map, refl, sym, ap, ◌∙◌, subst, inl, inr}
use Rattle.std.specs.Prelude.{Option, Some, None, IsTrue, Contains, find, nat_eq, slice_get, unwrap_or, option_map, option_and_then}
use Rattle.std.specs.List.{list_any}
use Rattle.std.specs.Option.{option_map_or}
use Rattle.std.proofs.lemmas.Bool.{eqb-true, eq-eqb}
use Rattle.rn_items.proofs.Bools.{both_true, true_both, or_true, or_left, or_right}
use Rattle.rn_value.specs.declared.value.Value.{Value}
use Rattle.rn_model.specs.declared.system.System.{System}
use Rattle.rn_model.specs.Systems.{may_start, empty_transition}
use Rattle.rn_model.specs.Markings.{Marking, Instance, instance_at, tokens_at, IsThere}
use Rattle.rn_model.specs.Liveness.{IsLive, starts, held, mentions}
use Rattle.rn_model.proofs.EnablingLemmas.{not_in_nil}
use Rattle.rn_model.proofs.MarkingsOfRuns.{found_is_there}
use Rattle.rn_model.proofs.AfterFiring.{found_number}
use Rattle.rn_model.proofs.AskedValues.{contained_mapped}
use Rattle.rn_model.proofs.LiveByRounds.{DecidesLive, live_decided, any_at, any_contained, contained_any, got_any}
use Rattle.rn_reach.specs.Reach.{RefersTo, Reach, itself, further}

-- whether an instance has a token in which another occurs
abbrev refers : Option Instance → ℕ → Bool
refers o k = option_map_or (λ i. list_any (λ vs. list_any (λ v. mentions v k) vs) i.places) o false

abbrev held_by : Option Instance → ℕ → List Value
held_by o place = unwrap_or (option_and_then (λ i. slice_get i.places place) o) []

refers_sound : (m : Marking) (h k : ℕ) (o : Option Instance) → instance_at m h ≡ o → refers o k ≡ true → RefersTo m h k
refers_sound m h k None e named = absurd (let no : ⊥ = cc in no)
refers_sound m h k (Some i) e named =
    let place = any_at (λ vs. list_any (λ v. mentions v k) vs) i.places named in
    let token = any_contained (λ v. mentions v k) place.1 place.3 in
    let tokens : tokens_at m h place.0 ≡ place.1 = ap (λ o. held_by o place.0) e ∙ ap (λ o. unwrap_or o []) place.2 in
    record { place = place.0; token = token.0; there = subst (λ vs. Contains vs token.0) (sym tokens) token.1; occurs = token.2 }

-- what holds a token is there, and refers to what occurs in it
refers_whole : (place k : ℕ) (token : Value) (o : Option Instance) → Contains (held_by o place) token → mentions token k ≡ true →
    (i : Instance) × (o ≡ Some i) × (refers o k ≡ true)
refers_whole place k token None there e = absurd (not_in_nil token there)
refers_whole place k token (Some i) there e = elim (slice_get i.places place) as (λ found. slice_get i.places place ≡ found → Contains (unwrap_or found []) token → (j : Instance) × (Some i ≡ Some j) × (refers (Some i) k ≡ true)) [
  | None ↦ λ is there. absurd (not_in_nil token there)
  | Some vs ↦ λ is there. (i, refl, got_any (λ vs. list_any (λ v. mentions v k) vs) i.places place vs is (contained_any (λ v. mentions v k) vs token there e))
] refl there

-- an instance that is there is among the numbers
numbered : (m : Marking) (k : ℕ) (i : Instance) → instance_at m k ≡ Some i → Contains (map (λ i. i.number) m.instances) k
numbered m k i e =
    subst (Contains (map (λ i. i.number) m.instances)) (found_number m.instances k i e)
    (contained_mapped (λ i. i.number) m.instances i (found_is_there (λ i. nat_eq i.number k) m.instances i e))

-- a system whose net 0 may start, and no other
abbrev starter : System
starter = record { nets = record { name = []; vars = []; places = []; transitions = empty_transition ∷ [] } ∷ []; channels = [] }

module _ (m : Marking) (n : ℕ) where
  abbrev marked : Instance → Instance
  marked i = record i { net = cond (nat_eq i.number n) 0 1 }

  -- the marking in which this instance alone may start
  abbrev started : Marking
  started = record m { instances = map marked m.instances }

  found_marked : (is : List Instance) (k : ℕ) → find (λ i. nat_eq i.number k) (map marked is) ≡ option_map marked (find (λ i. nat_eq i.number k) is)
  found_marked [] k = refl
  found_marked (i ∷ is) k = by_number (nat_eq i.number k) (found_marked is k)
    where
      by_number : (same : Bool) → find (λ i. nat_eq i.number k) (map marked is) ≡ option_map marked (find (λ i. nat_eq i.number k) is) →
          cond same (Some (marked i)) (find (λ i. nat_eq i.number k) (map marked is)) ≡ option_map marked (cond same (Some i) (find (λ i. nat_eq i.number k) is))
      by_number true rest = refl
      by_number false rest = rest

  same_tokens : (h place : ℕ) → tokens_at started h place ≡ tokens_at m h place
  same_tokens h place = ap (λ o. held_by o place) (found_marked m.instances h) ∙ by_instance (instance_at m h)
    where
      by_instance : (o : Option Instance) → held_by (option_map marked o) place ≡ held_by o place
      by_instance None = refl
      by_instance (Some i) = refl

  only_it_starts : (k net : ℕ) (o : Option Instance) → instance_at m k ≡ o → option_map (λ i. i.net) (option_map marked o) ≡ Some net → IsTrue (may_start starter net) → k ≡ n
  only_it_starts k net None e there may = absurd (let no : ⊥ = cc in no)
  only_it_starts k net (Some i) e there may = by_number (nat_eq i.number n) refl there
    where
      by_number : (same : Bool) → nat_eq i.number n ≡ same → Some (cond same 0 1) ≡ Some net → k ≡ n
      by_number true same there = sym (found_number m.instances k i e) ∙ eqb-true i.number n same
      by_number false other there =
          let is : net ≡ 1 = cc in
          let no : false ≡ true = subst (λ w. may_start starter w ≡ true) is may in
          absurd (let none : ⊥ = cc in none)

  live_is_reached : (k : ℕ) → IsLive starter started k → Reach m n k
  live_is_reached k (starts {net = net} there may) =
      let is : k ≡ n = only_it_starts k net (instance_at m k) refl (ap (option_map (λ i. i.net)) (sym (found_marked m.instances k)) ∙ there) may in
      subst (Reach m n) (sym is) itself
  live_is_reached k (held {holder = h} {token = token} place live has said there) =
      further (live_is_reached h live) (record { place = place; token = token; there = subst (λ vs. Contains vs token) (same_tokens h place) has; occurs = said })

  reached_is_live : (k : ℕ) → Reach m n k → IsThere m k → IsLive starter started k
  reached_is_live k itself there =
      let number : nat_eq there.0.number n ≡ true = eq-eqb there.0.number n (found_number m.instances n there.0 there.1) in
      starts {net = 0} (ap (option_map (λ i. i.net)) (found_marked m.instances n ∙ ap (option_map marked) there.1) ∙ ap (λ same. Some (cond same 0 1)) number) refl
  reached_is_live k (further {holder = h} reach refer) there =
      let holder = refers_whole refer.place k refer.token (instance_at m h) refer.there refer.occurs in
      held refer.place (reached_is_live h reach (holder.0, holder.1)) (subst (λ vs. Contains vs refer.token) (sym (same_tokens h refer.place)) refer.there) refer.occurs
      (marked there.0, found_marked m.instances k ∙ ap (option_map marked) there.1)

  module _ (live : ℕ → Bool) (decides : DecidesLive starter started live) where
    abbrev numbers : List ℕ
    numbers = map (λ i. i.number) m.instances

    abbrev reaches : ℕ → Bool
    reaches k = nat_eq k n || list_any (λ h. live h && refers (instance_at m h) k) numbers

    reaches_sound : (k : ℕ) → reaches k ≡ true → Reach m n k
    reaches_sound k e = elim (or_true (nat_eq k n) (list_any (λ h. live h && refers (instance_at m h) k) numbers) e) as (λ _. Reach m n k) [
      | inl same ↦ subst (Reach m n) (sym (eqb-true k n same)) itself
      | inr referred ↦
          let holder = any_contained (λ h. live h && refers (instance_at m h) k) numbers referred in
          let both = both_true (live holder.0) (refers (instance_at m holder.0) k) holder.2 in
          further (live_is_reached holder.0 (decides.sound holder.0 both.0)) (refers_sound m holder.0 k (instance_at m holder.0) refl both.1)
    ]

    reaches_whole : (k : ℕ) → Reach m n k → reaches k ≡ true
    reaches_whole k itself = or_left (nat_eq n n) (list_any (λ h. live h && refers (instance_at m h) n) numbers) (eq-eqb n n refl)
    reaches_whole k (further {holder = h} reach refer) =
        let holder = refers_whole refer.place k refer.token (instance_at m h) refer.there refer.occurs in
        let lives : live h ≡ true = decides.whole h (reached_is_live h reach (holder.0, holder.1)) in
        or_right (nat_eq k n) (list_any (λ h. live h && refers (instance_at m h) k) numbers)
        (contained_any (λ h. live h && refers (instance_at m h) k) numbers h (numbered m h holder.0 holder.1) (true_both (live h) (refers (instance_at m h) k) lives holder.2))

-- A test that the instances pass that one reaches, and no others.
pub record DecidesReach (m : Marking) (n : ℕ) (reaches : ℕ → Bool) : Type 0 where
  pub sound : (k : ℕ) → reaches k ≡ true → Reach m n k
  pub whole : (k : ℕ) → Reach m n k → reaches k ≡ true

-- which instances one reaches is decided
pub reach_decided : (m : Marking) (n : ℕ) → (test : ℕ → Bool) × DecidesReach m n test
reach_decided m n =
    let live = live_decided starter (started m n) in
    (reaches m n live.0 live.1, record { sound = reaches_sound m n live.0 live.1; whole = reaches_whole m n live.0 live.1 })

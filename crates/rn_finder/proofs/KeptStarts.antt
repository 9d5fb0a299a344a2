-- Where a firing may start by a transition of a kept instance.
use Rattle.std.proofs.Common.{◌≡◌, ℕ, suc, ◌<◌, ◌≤◌, ◌+◌, Bool, true, false, List, [], ◌∷◌}
use Rattle.std.proofs.Common.{length, refl, sym, ap, subst, arith}
use Rattle.std.specs.Prelude.{Option, Some, None, Contains, nat_eq, nat_lt, ◌&&◌}
use Rattle.std.specs.Prelude.{option_map, option_and_then, slice_get, unwrap_or}
use Rattle.std.specs.List.{list_any}
use Rattle.std.specs.Option.{option_map_or}
use Rattle.std.proofs.lemmas.Bool.{le-ltb, ne_eqb}
use Rattle.std.proofs.lemmas.Bool.Decides.{nat_tests}
use Rattle.rn_model.specs.declared.system.System.{System}
use Rattle.rn_model.specs.declared.system.NetArc.{NetArc}
use Rattle.rn_model.specs.declared.binding.Binding.{Binding}
use Rattle.rn_model.specs.Derivation.{finds_token}
use Rattle.rn_model.specs.Enabling.{Enabled}
use Rattle.rn_model.specs.Markings.{Marking, Instance, instance_at, net_of}
use Rattle.rn_model.specs.RoomLaws.{takers_at, putters_at, is_plain_at, puts_one}
use Rattle.rn_model.specs.Systems.{net_at, transition_at, capacity}
use Rattle.rn_model.proofs.AfterFiring.{found_number}
use Rattle.rn_search.specs.Missing.{MayStart}
use Rattle.rn_search.specs.Sought.{StartsAt}
use Rattle.rn_search.proofs.Needed.{starts_find_tokens, starts_find_room}
use Rattle.rn_finder.specs.Starting.{IsKept, IsNoStart, is_starved, lacks_token, start_of}
use Rattle.rn_finder.specs.Starting.{MayStartBy, IsNoStartIn, overfills, lacks_room}
use Rattle.rn_finder.proofs.StartingBindings.{may_start_of, may_start_there, none_in}

-- what is found by a number is kept
pub found_kept : (m : Marking) (n : ℕ) (i : Instance) → instance_at m n ≡ Some i → IsKept m i
found_kept m n i is =
    subst (λ k. instance_at m k ≡ Some i) (sym (found_number m.instances n i is)) is

-- its net is that of its number
pub kept_net : (m : Marking) (i : Instance) → IsKept m i → net_of m i.number ≡ Some i.net
kept_net m i kept = ap (option_map (λ (j : Instance). j.net)) kept

none_any : {X : Type 0} (p : X → Bool) (xs : List X) →
    ((x : X) → Contains xs x → p x ≡ false) → list_any p xs ≡ false
none_any p [] none = refl
none_any p (x ∷ xs) none =
    rw (none x (0, omega arith, refl))
    (none_any p xs (λ y (k, within, is). none y (suc k, omega (arith, within), is)))

-- an arc that finds a token where there is one isn't starved
not_starved : (i : Instance) (x : NetArc) →
    (finds_token x.kind ≡ true → 0 < length (unwrap_or (slice_get i.places x.place) [])) →
    is_starved i x ≡ false
not_starved i x some =
    by (finds_token x.kind) (length (unwrap_or (slice_get i.places x.place) [])) some
  where
    by : (finds : Bool) (n : ℕ) → (finds ≡ true → 0 < n) → (finds && nat_eq n 0) ≡ false
    by true n there = let more : 0 < n = there refl in grind (arith, nat_tests)
    by false n there = refl

-- where a binding is enabled that starts with a kept instance, none of its arcs is starved
none_lacks : (system : System) (m : Marking) (depth : ℕ) (i : Instance) (t : ℕ) (b : Binding) →
    IsKept m i → Enabled system m b depth → StartsAt b (start_of i.number i.net t) →
    lacks_token i (transition_at system i.net t) ≡ false
none_lacks system m depth i t b kept enabled starts =
    none_any (is_starved i) (transition_at system i.net t).arcs
    (λ x there. not_starved i x
    (λ finds. subst (λ o. 0 < length (unwrap_or (option_and_then
    (λ (j : Instance). slice_get j.places x.place) o) [])) kept
    (starts_find_tokens system m b depth (start_of i.number i.net t) x enabled starts there finds)))

-- an arc whose place has room for what is put doesn't overfill it
has_room : (puts plain : Bool) (capacity : Option ℕ) (takes held : ℕ) →
    ((most : ℕ) → capacity ≡ Some most → plain ≡ true → held ≤ most + takes) →
    (puts && option_map_or (λ most. plain && nat_lt (most + takes) held) capacity false) ≡ false
has_room false plain capacity takes held room = refl
has_room true plain None takes held room = refl
has_room true false (Some most) takes held room = refl
has_room true true (Some most) takes held room =
    le-ltb (most + takes) held (room most refl refl)

calls_or_not : {X : Type 0} (calls : List X) (overfilled : Bool) →
    (calls ≡ [] → overfilled ≡ false) → (nat_eq (length calls) 0 && overfilled) ≡ false
calls_or_not [] overfilled none = none refl
calls_or_not (call ∷ calls) overfilled none =
    let some : nat_eq (length (call ∷ calls)) 0 ≡ false =
    ne_eqb (length (call ∷ calls)) 0 (λ e. omega arith) in
    rw some refl

-- where a binding is enabled that starts with a kept instance, none of its arcs alone lacks room
none_overfills : (system : System) (m : Marking) (depth : ℕ) (i : Instance) (t : ℕ) (b : Binding) →
    IsKept m i → Enabled system m b depth → StartsAt b (start_of i.number i.net t) →
    lacks_room system i (transition_at system i.net t) ≡ false
none_overfills system m depth i t b kept enabled starts =
    let own = transition_at system i.net t in
    calls_or_not own.downlinks (list_any (overfills system i own) own.arcs) (λ calls.
    none_any (overfills system i own) own.arcs (λ x there.
    has_room (puts_one x.kind) (is_plain_at own x.place) (capacity system i.net x.place)
    (takers_at own x.place)
    (length (unwrap_or (slice_get i.places x.place) []) + putters_at own x.place)
    (λ most has plain. subst (λ o. length (unwrap_or (option_and_then
    (λ (j : Instance). slice_get j.places x.place) o) []) + putters_at own x.place
    ≤ most + takers_at own x.place) kept
    (starts_find_room system m b depth (start_of i.number i.net t) i.number x.place most enabled
    starts refl calls plain has))))

-- a start without uplink that is asked for may start a firing
pub kept_may_start : (system : System) (m : Marking) (i : Instance) (t : ℕ) → IsKept m i →
    t < length (net_at system i.net).transitions →
    (transition_at system i.net t).uplink ≡ None → MayStart system m (start_of i.number i.net t)
kept_may_start system m i t kept there uplink =
    may_start_of system m i.number i.net t (kept_net m i kept) there uplink

-- No enabled binding starts by a transition with an uplink, nor by one that lacks a token or room.
pub none_unless_may : (system : System) (m : Marking) (depth : ℕ) (i : Instance) (t : ℕ) →
    IsKept m i → ¬ MayStartBy system i t → IsNoStart system m depth (start_of i.number i.net t)
none_unless_may system m depth i t kept may_not b enabled starts =
    may_not (
      (may_start_there system m depth b (start_of i.number i.net t) enabled starts).uplink,
      none_lacks system m depth i t b kept enabled starts,
      none_overfills system m depth i t b kept enabled starts,
    )

-- so by none of an instance, where that is so of each of its net
pub none_in_kept : (system : System) (m : Marking) (depth : ℕ) (i : Instance) → IsKept m i →
    ((t : ℕ) → t < length (net_at system i.net).transitions → ¬ MayStartBy system i t) →
    IsNoStartIn system m depth i.number
none_in_kept system m depth i kept none =
    none_in system m depth i.number i.net (kept_net m i kept)
    (λ t there. none_unless_may system m depth i t kept (none t there))

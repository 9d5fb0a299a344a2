-- The arcs of a transition that ask for more than room.
use Rattle.std.proofs.Common.{◌≡◌, ℕ, Bool, true, false, ◌&&◌, ◌||◌, List, [], ◌∷◌, length, cond, refl, arith}
use Rattle.std.specs.Prelude.{not, nat_eq, is_none, filter}
use Rattle.std.specs.List.{list_all}
use Rattle.rn_items.proofs.Bools.{both_true, true_both}
use Rattle.rn_model.specs.declared.system.NetArc.{NetArc}
use Rattle.rn_model.specs.declared.system.Transition.{Transition}
use Rattle.rn_model.specs.Systems.{is_output}
use Rattle.rn_parted.specs.Parting.{ask_at_most_one, askers_at, asks_one}

-- what holds of all that pass holds of those that are kept
kept_by : {X : Type 0} (p q : X → Bool) (x : X) (xs : List X) (b : Bool) → (not b || q x) ≡ true →
    list_all q (filter p xs) ≡ true →
    list_all q (cond b (x ∷ filter p xs) (filter p xs)) ≡ true
kept_by p q x xs true here rest = let no = here in cc
kept_by p q x xs false here rest = rest

kept_all : {X : Type 0} (p q : X → Bool) (xs : List X) →
    list_all (λ x. not (p x) || q x) xs ≡ true → list_all q (filter p xs) ≡ true
kept_all p q [] all = refl
kept_all p q (x ∷ xs) all =
    let both = both_true (not (p x) || q x) (list_all (λ y. not (p y) || q y) xs) all in
    kept_by p q x xs (p x) both.0 (kept_all p q xs both.1)

one_asks : (t : Transition) (xs : List NetArc) → length xs ≡ 1 → is_none t.uplink ≡ true →
    list_all (λ x. asks_one x.kind) xs ≡ true → ask_at_most_one t xs ≡ true
one_asks t [] one none all = refl
one_asks t (x ∷ []) one none all =
    let both = both_true (asks_one x.kind) true all in
    true_both (is_none t.uplink) (asks_one x.kind) none both.0
one_asks t (x ∷ y ∷ xs) one none all = absurd (let no : ⊥ = omega (arith, one) in no)

pub at_most_one : (t : Transition) (place : ℕ) → length (askers_at t place) ≡ 1 →
    is_none t.uplink ≡ true →
    list_all (λ x. not (nat_eq x.place place && not (is_output x.kind)) || asks_one x.kind) t.arcs
    ≡ true → ask_at_most_one t (askers_at t place) ≡ true
at_most_one t place one none all =
    one_asks t (askers_at t place) one none
    (kept_all (λ x. nat_eq x.place place && not (is_output x.kind)) (λ x. asks_one x.kind) t.arcs all)

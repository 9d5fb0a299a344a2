-- The places of an instance by their numbers, and what their tokens mention.
use Rattle.std.proofs.Common.{◌≡◌, ℕ, zero, suc, ◌<◌, Bool, true, false, List, [], ◌∷◌, length, map, refl, sym, ap, ◌∙◌, subst, arith, eq-eqb}
use Rattle.std.specs.Prelude.{Option, Some, None, All, Contains, cond, find, nat_eq, slice_get, unwrap_or, option_and_then}
use Rattle.std.specs.List.{list_any}
use Rattle.std.specs.Option.{option_map_or}
use Rattle.std.proofs.lemmas.Bool.{eqb-true}
use Rattle.std.proofs.lemmas.List.Elements.{All-contains}
use Rattle.rn_value.specs.declared.value.Value.{Value}
use Rattle.rn_model.specs.Liveness.{mentions}
use Rattle.rn_model.specs.Markings.{Marking, Instance, instance_at, tokens_at}
use Rattle.rn_model.proofs.EnablingLemmas.{not_in_nil}
use Rattle.rn_model.proofs.LiveByRounds.{any_at, any_contained, contained_any, got_any}
use Rattle.rn_live.specs.link.Marks.{places_of, holds}

place_got : (o : Option Instance) (k : ℕ) → slice_get (option_map_or (λ i. i.places) o []) k ≡ option_and_then (λ i. slice_get i.places k) o
place_got None k = refl
place_got (Some i) k = refl

-- a place of an instance
pub place_at : (m : Marking) (n k : ℕ) → slice_get (places_of m n) k ≡ option_and_then (λ i. slice_get i.places k) (instance_at m n)
place_at m n k = place_got (instance_at m n) k

pub tokens_are : (m : Marking) (n k : ℕ) → tokens_at m n k ≡ unwrap_or (slice_get (places_of m n) k) []
tokens_are m n k = ap (λ s. unwrap_or s []) (sym (place_at m n k))

abbrev pub any_mentions : ℕ → List Value → Bool
any_mentions n tokens = list_any (λ token. mentions token n) tokens

-- what an instance holds is mentioned by one of its tokens
pub held_by : (m : Marking) (h n : ℕ) → holds m h n ≡ true → (place : ℕ) × (token : Value) × Contains (tokens_at m h place) token × (mentions token n ≡ true)
held_by m h n e =
    let place = any_at (any_mentions n) (places_of m h) e in
    let token = any_contained (λ token. mentions token n) place.1 place.3 in
    let tokens : tokens_at m h place.0 ≡ place.1 = tokens_are m h place.0 ∙ ap (λ s. unwrap_or s []) place.2 in
    (place.0, token.0, subst (λ ts. Contains ts token.0) (sym tokens) token.1, token.2)

-- what a token mentions its instance holds
pub holds_mentioned : (m : Marking) (h n place : ℕ) (token : Value) → Contains (tokens_at m h place) token → mentions token n ≡ true → holds m h n ≡ true
holds_mentioned m h n place token there e = elim (slice_get (places_of m h) place) as (λ found. slice_get (places_of m h) place ≡ found → Contains (unwrap_or found []) token → holds m h n ≡ true) [
  | None ↦ λ is inside. absurd (not_in_nil token inside)
  | Some tokens ↦ λ is inside. got_any (any_mentions n) (places_of m h) place tokens is (contained_any (λ v. mentions v n) tokens token inside e)
] refl (subst (λ ts. Contains ts token) (tokens_are m h place) there)

-- the number of an instance that is there is among the numbers
pub numbered : (is : List Instance) (n : ℕ) (i : Instance) → find (λ i. nat_eq i.number n) is ≡ Some i → Contains (map (λ i. i.number) is) n
numbered [] n i e = absurd (let no : ⊥ = cc in no)
numbered (j ∷ is) n i e = elim (nat_eq j.number n) as (λ same. nat_eq j.number n ≡ same → cond same (Some j) (find (λ i. nat_eq i.number n) is) ≡ Some i → Contains (j.number ∷ map (λ i. i.number) is) n) [
  | true ↦ λ same first. (0, omega arith, eqb-true j.number n same)
  | false ↦ λ other later. let there = numbered is n i later in (suc there.0, omega (arith, there.1), there.2)
] refl e

-- an instance of the list is the one with its number, or another of that number is
pub there_numbered : (is : List Instance) (n : ℕ) → Contains (map (λ i. i.number) is) n → (i : Instance) × (find (λ i. nat_eq i.number n) is ≡ Some i)
there_numbered [] n there = absurd (not_in_nil n there)
there_numbered (j ∷ is) n there = elim (nat_eq j.number n) as (λ same. nat_eq j.number n ≡ same → (i : Instance) × (cond same (Some j) (find (λ i. nat_eq i.number n) is) ≡ Some i)) [
  | true ↦ λ same. (j, refl)
  | false ↦ λ other. there_numbered is n (in_rest j.number (map (λ i. i.number) is) n other there)
] refl
  where
    in_rest : (k : ℕ) (ks : List ℕ) (n : ℕ) → nat_eq k n ≡ false → Contains (k ∷ ks) n → Contains ks n
    in_rest k ks n other (zero, h, is) = absurd (let no : ⊥ = cc (eq-eqb k n is) in no)
    in_rest k ks n other (suc i, h, is) = (i, omega (arith, h), is)

found_in : (is : List Instance) (n : ℕ) (i : Instance) → find (λ i. nat_eq i.number n) is ≡ Some i → Contains is i
found_in [] n i e = absurd (let no : ⊥ = cc in no)
found_in (j ∷ is) n i e = elim (nat_eq j.number n) as (λ same. cond same (Some j) (find (λ i. nat_eq i.number n) is) ≡ Some i → Contains (j ∷ is) i) [
  | true ↦ λ first. (0, omega arith, let same : j ≡ i = cc in same)
  | false ↦ λ later. let there = found_in is n i later in (suc there.0, omega (arith, there.1), there.2)
] e

-- what holds of each instance holds of one that is there
pub of_each : (P : Instance → Type 0) (m : Marking) (n : ℕ) (i : Instance) → All P m.instances → instance_at m n ≡ Some i → P i
of_each P m n i all e = All-contains P m.instances i all (found_in m.instances n i e)

few_of : (o : Option Instance) (most : ℕ) → 0 < most → ((i : Instance) → o ≡ Some i → length i.places < most) → length (option_map_or (λ i. i.places) o []) < most
few_of None most some few = some
few_of (Some i) most some few = few i refl

-- where no instance has too many places, each has few
pub few_places : (m : Marking) (n most : ℕ) → 0 < most → ((n : ℕ) (i : Instance) → instance_at m n ≡ Some i → length i.places < most) → length (places_of m n) < most
few_places m n most some few = few_of (instance_at m n) most some (few n)

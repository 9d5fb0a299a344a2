-- Which instances are live is decided: round by round those come in that tokens of live ones mention.
use Rattle.std.proofs.Common.{◌≡◌, ℕ, zero, suc, ◌+◌, ◌<◌, ◌≤◌, Bool, true, false, ◌&&◌, ◌||◌, cond, List, [], ◌∷◌, map, length, refl, sym, ap, ◌∙◌, subst, inl, inr, arith}
use Rattle.std.specs.Prelude.{Option, Some, None, IsTrue, Contains, is_some, find, nat_eq, nat_le, slice_get, unwrap_or, option_map, option_and_then}
use Rattle.std.specs.List.{list_any}
use Rattle.std.specs.Option.{option_map_or}
use Rattle.std.proofs.lemmas.Bool.{eqb-true}
use Rattle.std.proofs.lemmas.Bool.Decides.{nat_tests}
use Rattle.rn_items.proofs.Bools.{both_true, true_both, or_true, or_left, or_right}
use Rattle.rn_value.specs.declared.value.Value.{Value}
use Rattle.rn_model.specs.declared.system.System.{System}
use Rattle.rn_model.specs.Systems.{may_start}
use Rattle.rn_model.specs.Markings.{Marking, Instance, instance_at, tokens_at, IsThere}
use Rattle.rn_model.specs.Liveness.{IsLive, starts, held, mentions}
use Rattle.rn_model.proofs.EnablingLemmas.{not_in_nil}

-- Some element passes a test.
pub any_at : {X : Type 0} (p : X → Bool) (xs : List X) → list_any p xs ≡ true → (k : ℕ) × (x : X) × (slice_get xs k ≡ Some x) × (p x ≡ true)
any_at p [] e = absurd (let no : ⊥ = cc in no)
any_at {X} p (x ∷ xs) e = elim (or_true (p x) (list_any p xs) e) as (λ _. (k : ℕ) × (y : X) × (slice_get (x ∷ xs) k ≡ Some y) × (p y ≡ true)) [
  | inl here ↦ (0, x, refl, here)
  | inr later ↦ let there = any_at p xs later in (suc there.0, there.1, there.2, there.3)
]

-- then an element of the list passes it
pub any_contained : {X : Type 0} (p : X → Bool) (xs : List X) → list_any p xs ≡ true → (x : X) × Contains xs x × (p x ≡ true)
any_contained p [] e = absurd (let no : ⊥ = cc in no)
any_contained {X} p (x ∷ xs) e = elim (or_true (p x) (list_any p xs) e) as (λ _. (y : X) × Contains (x ∷ xs) y × (p y ≡ true)) [
  | inl here ↦ (x, (0, omega arith, refl), here)
  | inr later ↦ let there = any_contained p xs later in (there.0, (suc there.1.0, omega (arith, there.1.1), there.1.2), there.2)
]

-- and where one of the list passes it, some element does
pub contained_any : {X : Type 0} (p : X → Bool) (xs : List X) (x : X) → Contains xs x → p x ≡ true → list_any p xs ≡ true
contained_any p [] x there e = absurd (not_in_nil x there)
contained_any p (y ∷ xs) x (zero, h, is) e = or_left (p y) (list_any p xs) (ap p is ∙ e)
contained_any p (y ∷ xs) x (suc k, h, is) e = or_right (p y) (list_any p xs) (contained_any p xs x (k, omega (arith, h), is) e)

-- so it does where the one at an index passes it
pub got_any : {X : Type 0} (p : X → Bool) (xs : List X) (k : ℕ) (x : X) → slice_get xs k ≡ Some x → p x ≡ true → list_any p xs ≡ true
got_any p [] k x is e = absurd (let no : ⊥ = cc in no)
got_any p (y ∷ xs) zero x is e = let same : y ≡ x = cc in or_left (p y) (list_any p xs) (ap p same ∙ e)
got_any p (y ∷ xs) (suc k) x is e = or_right (p y) (list_any p xs) (got_any p xs k x is e)

-- How many pass a test.
abbrev how_many : {X : Type 0} → (X → Bool) → List X → ℕ
how_many p [] = 0
how_many p (x ∷ xs) = cond (p x) 1 0 + how_many p xs

one_more : (a b : Bool) → (a ≡ true → b ≡ true) → cond a 1 0 ≤ cond b 1 0
one_more true true f = omega arith
one_more true false f = let no : false ≡ true = f refl in absurd (let no : ⊥ = cc in no)
one_more false b f = omega arith

more_pass : {X : Type 0} (p q : X → Bool) → ((x : X) → p x ≡ true → q x ≡ true) → (xs : List X) → how_many p xs ≤ how_many q xs
more_pass p q f [] = omega arith
more_pass p q f (x ∷ xs) = let first = one_more (p x) (q x) (f x) in let rest = more_pass p q f xs in omega (arith, first, rest)

at_most_all : {X : Type 0} (p : X → Bool) (xs : List X) → how_many p xs ≤ length xs
at_most_all p [] = omega arith
at_most_all p (x ∷ xs) = let rest = at_most_all p xs in let first = one_more (p x) true (λ e. refl) in omega (arith, rest, first)

none_more : (a b : Bool) → cond b 1 0 ≤ cond a 1 0 → b ≡ true → a ≡ true
none_more true b h e = refl
none_more false true h e = absurd (let no : ⊥ = omega (arith, h) in no)
none_more false false h e = e

-- where no more pass the weaker test, each that passes it passes the other
same_pass : {X : Type 0} (p q : X → Bool) → ((x : X) → p x ≡ true → q x ≡ true) → (xs : List X) → how_many q xs ≤ how_many p xs → (x : X) → Contains xs x → q x ≡ true → p x ≡ true
same_pass p q f [] h x there e = absurd (not_in_nil x there)
same_pass p q f (y ∷ xs) h x (zero, low, is) e =
    let rest = more_pass p q f xs in
    let first : cond (q y) 1 0 ≤ cond (p y) 1 0 = omega (arith, h, rest) in
    ap p (sym is) ∙ none_more (p y) (q y) first (ap q is ∙ e)
same_pass p q f (y ∷ xs) h x (suc k, low, is) e =
    let first = one_more (p y) (q y) (f y) in
    same_pass p q f xs (omega (arith, h, first)) x (k, omega (arith, low), is) e

module _ (system : System) (m : Marking) where
  abbrev starts_at : ℕ → Bool
  starts_at n = option_map_or (λ i. may_start system i.net) (instance_at m n) false

  abbrev is_there : ℕ → Bool
  is_there n = is_some (instance_at m n)

  abbrev names : ℕ → ℕ → Bool
  names h n = option_map_or (λ i. list_any (λ vs. list_any (λ v. mentions v n) vs) i.places) (instance_at m h) false

  abbrev numbers : List ℕ
  numbers = map (λ i. i.number) m.instances

  -- one round: those that tokens of these mention
  abbrev grown : (ℕ → Bool) → ℕ → Bool
  grown live n = live n || (is_there n && list_any (λ h. live h && names h n) numbers)

  abbrev live_by : ℕ → ℕ → Bool
  live_by zero = starts_at
  live_by (suc k) = grown (live_by k)

  abbrev AreLive : (ℕ → Bool) → Type 0
  AreLive live = (n : ℕ) → live n ≡ true → IsLive system m n

  start_is_live : (n : ℕ) (o : Option Instance) → instance_at m n ≡ o → option_map_or (λ i. may_start system i.net) o false ≡ true → IsLive system m n
  start_is_live n None e h = absurd (let no : ⊥ = cc in no)
  start_is_live n (Some i) e h = starts {net = i.net} (ap (option_map (λ i. i.net)) e) h

  there_of : (n : ℕ) (o : Option Instance) → instance_at m n ≡ o → is_some o ≡ true → IsThere m n
  there_of n None e h = absurd (let no : ⊥ = cc in no)
  there_of n (Some i) e h = (i, e)

  named_is_live : (h n : ℕ) (o : Option Instance) → instance_at m h ≡ o → IsLive system m h → IsThere m n → option_map_or (λ i. list_any (λ vs. list_any (λ v. mentions v n) vs) i.places) o false ≡ true → IsLive system m n
  named_is_live h n None e live there named = absurd (let no : ⊥ = cc in no)
  named_is_live h n (Some i) e live there named =
      let place = any_at (λ vs. list_any (λ v. mentions v n) vs) i.places named in
      let token = any_contained (λ v. mentions v n) place.1 place.3 in
      let tokens : tokens_at m h place.0 ≡ place.1 = ap (λ o. unwrap_or (option_and_then (λ i. slice_get i.places place.0) o) []) e ∙ ap (λ o. unwrap_or o []) place.2 in
      held place.0 live (subst (λ vs. Contains vs token.0) (sym tokens) token.1) token.2 there

  grown_are_live : (live : ℕ → Bool) → AreLive live → AreLive (grown live)
  grown_are_live live are n e = elim (or_true (live n) (is_there n && list_any (λ h. live h && names h n) numbers) e) as (λ _. IsLive system m n) [
    | inl before ↦ are n before
    | inr new ↦
        let both = both_true (is_there n) (list_any (λ h. live h && names h n) numbers) new in
        let holder = any_contained (λ h. live h && names h n) numbers both.1 in
        let named = both_true (live holder.0) (names holder.0 n) holder.2 in
        named_is_live holder.0 n (instance_at m holder.0) refl (are holder.0 named.0) (there_of n (instance_at m n) refl both.0) named.1
  ]

  all_are_live : (k : ℕ) → AreLive (live_by k)
  all_are_live zero n e = start_is_live n (instance_at m n) refl e
  all_are_live (suc k) n e = grown_are_live (live_by k) (all_are_live k) n e

  abbrev NoneCome : (ℕ → Bool) → Type 0
  NoneCome live = (n : ℕ) → grown live n ≡ true → live n ≡ true

  -- an instance that is there is among the numbers
  numbered : (is : List Instance) (n : ℕ) (i : Instance) → find (λ i. nat_eq i.number n) is ≡ Some i → Contains (map (λ i. i.number) is) n
  numbered [] n i e = absurd (let no : ⊥ = cc in no)
  numbered (j ∷ is) n i e = elim (nat_eq j.number n) as (λ same. nat_eq j.number n ≡ same → cond same (Some j) (find (λ i. nat_eq i.number n) is) ≡ Some i → Contains (j.number ∷ map (λ i. i.number) is) n) [
    | true ↦ λ same first. (0, omega arith, eqb-true j.number n same)
    | false ↦ λ other later. let there = numbered is n i later in (suc there.0, omega (arith, there.1), there.2)
  ] refl e

  none_come : (live : ℕ → Bool) → how_many (grown live) numbers ≤ how_many live numbers → NoneCome live
  none_come live h n e = elim (or_true (live n) (is_there n && list_any (λ h. live h && names h n) numbers) e) as (λ _. live n ≡ true) [
    | inl before ↦ before
    | inr new ↦
        let both = both_true (is_there n) (list_any (λ h. live h && names h n) numbers) new in
        let there = there_of n (instance_at m n) refl both.0 in
        same_pass live (grown live) (λ x e. or_left (live x) (is_there x && list_any (λ h. live h && names h x) numbers) e) numbers h n (numbered m.instances n there.0 there.1) e
  ]

  -- after some round none come
  last_round : (more k : ℕ) → length numbers < how_many (live_by k) numbers + more → (j : ℕ) × NoneCome (live_by j)
  last_round zero k h = let all = at_most_all (live_by k) numbers in absurd (let no : ⊥ = omega (arith, h, all) in no)
  last_round (suc more) k h = elim (nat_le (how_many (live_by (suc k)) numbers) (how_many (live_by k) numbers)) as (λ few. nat_le (how_many (live_by (suc k)) numbers) (how_many (live_by k) numbers) ≡ few → (j : ℕ) × NoneCome (live_by j)) [
    | true ↦ λ few. (k, none_come (live_by k) (grind (arith, nat_tests)))
    | false ↦ λ many. last_round more (suc k) (grind (arith, nat_tests))
  ] refl

  stays : (k n : ℕ) → starts_at n ≡ true → live_by k n ≡ true
  stays zero n e = e
  stays (suc k) n e = or_left (live_by k n) (is_there n && list_any (λ h. live_by k h && names h n) numbers) (stays k n e)

  names_by : (h n place : ℕ) (token : Value) (o : Option Instance) → Contains (unwrap_or (option_and_then (λ i. slice_get i.places place) o) []) token → mentions token n ≡ true →
      (i : Instance) × (o ≡ Some i) × (list_any (λ vs. list_any (λ v. mentions v n) vs) i.places ≡ true)
  names_by h n place token None there e = absurd (not_in_nil token there)
  names_by h n place token (Some i) there e = elim (slice_get i.places place) as (λ found. slice_get i.places place ≡ found → Contains (unwrap_or found []) token → (j : Instance) × (Some i ≡ Some j) × (list_any (λ vs. list_any (λ v. mentions v n) vs) j.places ≡ true)) [
    | None ↦ λ is there. absurd (not_in_nil token there)
    | Some vs ↦ λ is there. (i, refl, got_any (λ vs. list_any (λ v. mentions v n) vs) i.places place vs is (contained_any (λ v. mentions v n) vs token there e))
  ] refl there

  all_come : (j : ℕ) → NoneCome (live_by j) → (n : ℕ) → IsLive system m n → live_by j n ≡ true
  all_come j none n (starts {net = net} there may) = stays j n (start_at n net (instance_at m n) there may)
    where
      start_at : (n net : ℕ) (o : Option Instance) → option_map (λ i. i.net) o ≡ Some net → IsTrue (may_start system net) → option_map_or (λ i. may_start system i.net) o false ≡ true
      start_at n net None e may = absurd (let no : ⊥ = cc in no)
      start_at n net (Some i) e may = let same : i.net ≡ net = cc in ap (may_start system) same ∙ may
  all_come j none n (held {holder = h} {token = token} place live contained mentioned there) =
      let live_h : live_by j h ≡ true = all_come j none h live in
      let named = names_by h n place token (instance_at m h) contained mentioned in
      let named_h : names h n ≡ true = ap (λ o. option_map_or (λ i. list_any (λ vs. list_any (λ v. mentions v n) vs) i.places) o false) named.1 ∙ named.2 in
      let holder : list_any (λ h. live_by j h && names h n) numbers ≡ true = contained_any (λ h. live_by j h && names h n) numbers h (numbered m.instances h named.0 named.1) (true_both (live_by j h) (names h n) live_h named_h) in
      none n (or_right (live_by j n) (is_there n && list_any (λ h. live_by j h && names h n) numbers) (true_both (is_there n) (list_any (λ h. live_by j h && names h n) numbers) (ap is_some there.1) holder))

-- A test that the live instances pass, and no others.
pub record DecidesLive (system : System) (m : Marking) (live : ℕ → Bool) : Type 0 where
  pub sound : (n : ℕ) → live n ≡ true → IsLive system m n
  pub whole : (n : ℕ) → IsLive system m n → live n ≡ true

-- which instances are live is decided
pub live_decided : (system : System) (m : Marking) → (live : ℕ → Bool) × DecidesLive system m live
live_decided system m =
    let last = last_round system m (suc (length (numbers system m))) 0 (omega arith) in
    (live_by system m last.0, record { sound = all_are_live system m last.0; whole = all_come system m last.0 last.1 })

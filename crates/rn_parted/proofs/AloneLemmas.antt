-- Instances and tokens of a marking in which one place of an instance holds these tokens alone.
use Rattle.std.proofs.Common.{◌≡◌, ℕ, zero, suc, Bool, true, false, cond, List, [], ◌∷◌, map, refl}
use Rattle.std.proofs.Common.{sym, ap, ◌∙◌}
use Rattle.std.specs.Prelude.{◌≢◌, Option, Some, None, Contains, find, nat_eq, slice_get, slice_set}
use Rattle.std.specs.Prelude.{unwrap_or, option_map, option_and_then, if◌then◌else◌}
use Rattle.std.proofs.lemmas.Bool.{eqb-true, eq-eqb}
use Rattle.std.proofs.lemmas.List.{set-set}
use Rattle.rn_value.specs.declared.value.Value.{Value}
use Rattle.rn_model.specs.Markings.{Marking, Instance, instance_at, net_of, tokens_at}
use Rattle.rn_model.proofs.EnablingLemmas.{not_in_nil}
use Rattle.rn_model.proofs.AfterFiring.{found_number}
use Rattle.rn_table.specs.Alone.{with_tokens, alone}

-- numbers that the test takes as different are so
pub other_number : (k n : ℕ) → nat_eq k n ≡ false → k ≢ n
other_number k n e is =
    let same : nat_eq k n ≡ true = eq-eqb k n is in
    let no : ⊥ = cc in no

-- what is set stands there, and nothing else is changed
got_other : {X : Type 0} (xs : List X) (k q : ℕ) (x : X) → q ≢ k →
    slice_get (slice_set xs k x) q ≡ slice_get xs q
got_other [] k q x other = refl
got_other (y ∷ xs) zero zero x other = absurd (other refl)
got_other (y ∷ xs) zero (suc q) x other = refl
got_other (y ∷ xs) (suc k) zero x other = refl
got_other (y ∷ xs) (suc k) (suc q) x other = got_other xs k q x (λ e. other (ap suc e))

got_own : {X : Type 0} (xs : List X) (k : ℕ) (x y : X) → slice_get xs k ≡ Some y →
    slice_get (slice_set xs k x) k ≡ Some x
got_own [] k x y e = absurd (let no : ⊥ = cc in no)
got_own (z ∷ xs) zero x y e = refl
got_own (z ∷ xs) (suc k) x y e = got_own xs k x y e

got_none : {X : Type 0} (xs : List (List X)) (k : ℕ) →
    unwrap_or (slice_get (slice_set xs k []) k) [] ≡ []
got_none [] k = refl
got_none (z ∷ xs) zero = refl
got_none (z ∷ xs) (suc k) = got_none xs k

-- the tokens of a place of what may be an instance
abbrev pub held_by : Option Instance → ℕ → List Value
held_by o place = unwrap_or (option_and_then (λ i. slice_get i.places place) o) []

module _ (n place : ℕ) (vs : List Value) where
  -- an instance with these tokens alone in the place, if it has the number
  abbrev pub put : Instance → Instance
  put i = if nat_eq i.number n then with_tokens place vs i else i

  number_by : (same : Bool) (i : Instance) →
      (if same then with_tokens place vs i else i).number ≡ i.number
  number_by true i = refl
  number_by false i = refl

  net_by : (same : Bool) (i : Instance) →
      (if same then with_tokens place vs i else i).net ≡ i.net
  net_by true i = refl
  net_by false i = refl

  by_number : (k : ℕ) (i : Instance) (o p : Option Instance) (same : Bool) → o ≡ option_map put p →
      cond same (Some (put i)) o ≡ option_map put (cond same (Some i) p)
  by_number k i o p true rest = refl
  by_number k i o p false rest = rest

  found_put : (is : List Instance) (k : ℕ) →
      find (λ i. nat_eq i.number k) (map put is) ≡ option_map put (find (λ i. nat_eq i.number k) is)
  found_put [] k = refl
  found_put (i ∷ is) k =
      let later = find (λ i. nat_eq i.number k) (map put is) in
      ap (λ number. cond (nat_eq number k) (Some (put i)) later) (number_by (nat_eq i.number n) i)
      ∙ by_number k i later (find (λ i. nat_eq i.number k) is) (nat_eq i.number k) (found_put is k)

  stays_by : (i : Instance) (same : Bool) → i.number ≢ n → nat_eq i.number n ≡ same →
      (if same then with_tokens place vs i else i) ≡ i
  stays_by i true other e = absurd (other (eqb-true i.number n e))
  stays_by i false other e = refl

  put_own : (i : Instance) → i.number ≡ n → put i ≡ with_tokens place vs i
  put_own i is = ap (λ same. if same then with_tokens place vs i else i) (eq-eqb i.number n is)

  module _ (m : Marking) where
    pub instance_in : (k : ℕ) →
        instance_at (alone n place vs m) k ≡ option_map put (instance_at m k)
    instance_in k = found_put m.instances k

    other_by : (k : ℕ) (o : Option Instance) → k ≢ n → instance_at m k ≡ o → option_map put o ≡ o
    other_by k None other e = refl
    other_by k (Some i) other e =
        ap Some (stays_by i (nat_eq i.number n)
        (λ is. other (sym (found_number m.instances k i e) ∙ is)) refl)

    -- each other instance is the same
    pub same_elsewhere : (k : ℕ) → k ≢ n →
        instance_at (alone n place vs m) k ≡ instance_at m k
    same_elsewhere k other = instance_in k ∙ other_by k (instance_at m k) other refl

    nets_by : (o : Option Instance) →
        option_map (λ i. i.net) (option_map put o) ≡ option_map (λ i. i.net) o
    nets_by None = refl
    nets_by (Some i) = ap Some (net_by (nat_eq i.number n) i)

    -- each instance has the same net
    pub same_net : (k : ℕ) → net_of (alone n place vs m) k ≡ net_of m k
    same_net k = ap (option_map (λ i. i.net)) (instance_in k) ∙ nets_by (instance_at m k)

    places_by : (same : Bool) (i : Instance) (q : ℕ) → q ≢ place →
        slice_get (if same then with_tokens place vs i else i).places q ≡ slice_get i.places q
    places_by true i q other = got_other i.places place q vs other
    places_by false i q other = refl

    held_elsewhere : (o : Option Instance) (q : ℕ) → q ≢ place →
        held_by (option_map put o) q ≡ held_by o q
    held_elsewhere None q other = refl
    held_elsewhere (Some i) q other =
        ap (λ r. unwrap_or r []) (places_by (nat_eq i.number n) i q other)

    -- each other place of an instance holds the same
    pub same_places : (k q : ℕ) → q ≢ place →
        tokens_at (alone n place vs m) k q ≡ tokens_at m k q
    same_places k q other =
        ap (λ o. held_by o q) (instance_in k) ∙ held_elsewhere (instance_at m k) q other

    set_there : (v : Value) (i : Instance) (r : Option (List Value)) →
        slice_get i.places place ≡ r → Contains (unwrap_or r []) v →
        unwrap_or (slice_get (slice_set i.places place vs) place) [] ≡ vs
    set_there v i None e has = absurd (not_in_nil v has)
    set_there v i (Some ws) e has = ap (λ r. unwrap_or r []) (got_own i.places place vs ws e)

    own_by : (v : Value) (o : Option Instance) → instance_at m n ≡ o →
        Contains (held_by o place) v → held_by (option_map put o) place ≡ vs
    own_by v None e has = absurd (not_in_nil v has)
    own_by v (Some i) e has =
        ap (λ i. held_by (Some i) place) (put_own i (found_number m.instances n i e))
        ∙ set_there v i (slice_get i.places place) refl has

    -- where the place holds a token, it then holds these alone
    pub own_tokens : (v : Value) → Contains (tokens_at m n place) v →
        tokens_at (alone n place vs m) n place ≡ vs
    own_tokens v has =
        ap (λ o. held_by o place) (instance_in n) ∙ own_by v (instance_at m n) refl has

module _ (n place : ℕ) (m : Marking) where
  none_by : (o : Option Instance) → instance_at m n ≡ o →
      held_by (option_map (put n place []) o) place ≡ []
  none_by None e = refl
  none_by (Some i) e =
      ap (λ i. held_by (Some i) place) (put_own n place [] i (found_number m.instances n i e))
      ∙ got_none i.places place

  -- an emptied place holds nothing
  pub no_tokens : tokens_at (alone n place [] m) n place ≡ []
  no_tokens =
      ap (λ o. held_by o place) (instance_in n place [] m n) ∙ none_by (instance_at m n) refl

  module _ (vs : List Value) where
    again_by : (i : Instance) (same : Bool) → nat_eq i.number n ≡ same →
        (if same then with_tokens place vs i else i)
        ≡ put n place vs (if same then with_tokens place [] i else i)
    again_by i true e =
        let emptied = with_tokens place [] i in
        ap (λ ps. record { number = i.number; net = i.net; places = ps })
        (sym (set-set i.places place [] vs))
        ∙ sym (ap (λ same. if same then with_tokens place vs emptied else emptied) e)
    again_by i false e = sym (ap (λ same. if same then with_tokens place vs i else i) e)

    each_again : (o : Option Instance) →
        option_map (put n place vs) o ≡ option_map (put n place vs) (option_map (put n place []) o)
    each_again None = refl
    each_again (Some i) = ap Some (again_by i (nat_eq i.number n) refl)

    -- the instance with these tokens there is known from it with none
    pub from_emptied : instance_at (alone n place vs m) n
        ≡ option_map (put n place vs) (instance_at (alone n place [] m) n)
    from_emptied =
        instance_in n place vs m n ∙ each_again (instance_at m n)
        ∙ sym (ap (option_map (put n place vs)) (instance_in n place [] m n))

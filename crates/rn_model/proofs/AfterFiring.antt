-- What a marking after a firing holds at a number and a place.
use Rattle.std.proofs.Common.{◌≡◌, ℕ, zero, suc, ◌+◌, ◌≤◌, ◌⊎◌, Bool, true, false, cond, List, [], ◌∷◌, ◌++◌, map, refl, sym, ap, ◌∙◌, subst, inl, inr, arith}
use Rattle.std.specs.Prelude.{Option, Some, None, Contains, find, nat_eq, slice_get, unwrap_or, option_map, option_and_then, flat_map}
use Rattle.std.specs.List.{enumerate_from}
use Rattle.std.proofs.lemmas.Bool.{eqb-true, eq-eqb}
use Rattle.std.proofs.lemmas.List.Elements.{Contains-append_cases}
use Rattle.std.proofs.lemmas.Option.{same_Some}
use Rattle.rn_value.specs.declared.value.InstRef.TheVariants.{Old}
use Rattle.rn_value.specs.declared.value.Value.{Value}
use Rattle.rn_model.specs.declared.system.System.{System}
use Rattle.rn_model.specs.declared.system.Place.{Place}
use Rattle.rn_model.specs.declared.binding.Binding.{Binding}
use Rattle.rn_model.specs.Lists.{ordered_values}
use Rattle.rn_model.specs.Systems.{net_at}
use Rattle.rn_model.specs.Demands.{asked_at, puts, rest_at, taken_at, cleared_at}
use Rattle.rn_model.specs.Lists.{without_each}
use Rattle.rn_model.specs.Markings.{Instance, Marking, instance_at, tokens_at, fresh_instance}
use Rattle.rn_model.specs.Firing.{Made, Effects, changed_instance, tokens_after, instance_after, new_instance, marking_after}
use Rattle.rn_model.proofs.EnablingLemmas.{not_in_nil}
use Rattle.rn_model.proofs.AskedValues.{later, from_ordered, from_rest}

abbrev pub numbered_by : ℕ → Instance → Bool
numbered_by n i = nat_eq i.number n

-- what is found has the number
pub found_number : (is : List Instance) (n : ℕ) (i : Instance) → find (λ i. nat_eq i.number n) is ≡ Some i → i.number ≡ n
found_number [] n i e = absurd (let no : ⊥ = cc in no)
found_number (j ∷ is) n i e = elim (nat_eq j.number n) as (λ same. nat_eq j.number n ≡ same → cond same (Some j) (find (λ i. nat_eq i.number n) is) ≡ Some i → i.number ≡ n) [
  | true ↦ λ same first. let is_it : j ≡ i = cc in ap (λ k. k.number) (sym is_it) ∙ eqb-true j.number n same
  | false ↦ λ other later. found_number is n i later
] refl e

-- where one of the number is there, one is found
pub some_found : (is : List Instance) (n : ℕ) (i : Instance) → Contains is i → i.number ≡ n → (j : Instance) × (find (λ i. nat_eq i.number n) is ≡ Some j)
some_found [] n i there e = absurd (not_in_nil i there)
some_found (j ∷ is) n i (zero, h, same) e = let is_n : nat_eq j.number n ≡ true = eq-eqb j.number n (ap (λ k. k.number) same ∙ e) in (j, rw is_n refl)
some_found (j ∷ is) n i (suc k, h, same) e = elim (nat_eq j.number n) as (λ first. (x : Instance) × (cond first (Some j) (find (λ i. nat_eq i.number n) is) ≡ Some x)) [
  | true ↦ (j, refl)
  | false ↦ some_found is n i (k, omega (arith, h), same) e
]

abbrev KeepsNumbers : (Instance → Instance) → Type 0
KeepsNumbers change = (i : Instance) → (change i).number ≡ i.number

-- one that is there is found as it is changed
pub found_before : (change : Instance → Instance) → KeepsNumbers change → (is others : List Instance) (n : ℕ) (i : Instance) → find (λ i. nat_eq i.number n) is ≡ Some i → find (λ i. nat_eq i.number n) (map change is ++ others) ≡ Some (change i)
found_before change keeps [] others n i e = absurd (let no : ⊥ = cc in no)
found_before change keeps (j ∷ is) others n i e =
    let number : nat_eq (change j).number n ≡ nat_eq j.number n = ap (λ k. nat_eq k n) (keeps j) in
    ap (λ same. cond same (Some (change j)) (find (λ i. nat_eq i.number n) (map change is ++ others))) number
    ∙ (elim (nat_eq j.number n) as (λ same. cond same (Some j) (find (λ i. nat_eq i.number n) is) ≡ Some i → cond same (Some (change j)) (find (λ i. nat_eq i.number n) (map change is ++ others)) ≡ Some (change i)) [
      | true ↦ λ first. let is_it : j ≡ i = cc in ap (λ k. Some (change k)) is_it
      | false ↦ λ later. found_before change keeps is others n i later
    ] e)

-- and what isn't there is found among the others
pub found_behind : (change : Instance → Instance) → KeepsNumbers change → (is others : List Instance) (n : ℕ) → find (λ i. nat_eq i.number n) is ≡ None → find (λ i. nat_eq i.number n) (map change is ++ others) ≡ find (λ i. nat_eq i.number n) others
found_behind change keeps [] others n e = refl
found_behind change keeps (j ∷ is) others n e =
    let number : nat_eq (change j).number n ≡ nat_eq j.number n = ap (λ k. nat_eq k n) (keeps j) in
    ap (λ same. cond same (Some (change j)) (find (λ i. nat_eq i.number n) (map change is ++ others))) number
    ∙ (elim (nat_eq j.number n) as (λ same. cond same (Some j) (find (λ i. nat_eq i.number n) is) ≡ None → cond same (Some (change j)) (find (λ i. nat_eq i.number n) (map change is ++ others)) ≡ find (λ i. nat_eq i.number n) others) [
      | true ↦ λ first. absurd (let no : ⊥ = cc in no)
      | false ↦ λ later. found_behind change keeps is others n later
    ] e)

-- A creation that receives a number.
pub new_found : (make : ℕ × Made → Instance) → ((p : ℕ × Made) → (make p).number ≡ p.0) → (k : ℕ) (made : List Made) (n : ℕ) (i : Instance) → find (λ i. nat_eq i.number n) (map make (enumerate_from k made)) ≡ Some i →
    (m : Made) × Contains (enumerate_from k made) (n, m) × (i ≡ make (n, m))
new_found make is k [] n i e = absurd (let no : ⊥ = cc in no)
new_found make is k (m ∷ made) n i e = elim (nat_eq (make (k, m)).number n) as (λ same. nat_eq (make (k, m)).number n ≡ same → cond same (Some (make (k, m))) (find (λ i. nat_eq i.number n) (map make (enumerate_from (k + 1) made))) ≡ Some i → (x : Made) × Contains (enumerate_from k (m ∷ made)) (n, x) × (i ≡ make (n, x))) [
  | true ↦ λ same first.
      let number : k ≡ n = sym (is (k, m)) ∙ eqb-true (make (k, m)).number n same in
      let is_it : make (k, m) ≡ i = cc in
      (m, (0, omega arith, ap (λ j. (j, m)) number), sym is_it ∙ ap (λ j. make (j, m)) number)
  | false ↦ λ other rest. let found = new_found make is (k + 1) made n i rest in (found.0, later (k, m) (n, found.0) (enumerate_from (k + 1) made) found.1, found.2)
] refl e

pub at_least : (k : ℕ) (made : List Made) (p : ℕ × Made) → Contains (enumerate_from k made) p → k ≤ p.0
at_least k [] p there = absurd (not_in_nil p there)
at_least k (m ∷ made) p (zero, h, e) = let first : k ≡ p.0 = ap (λ q. q.0) e in omega (arith, first)
at_least k (m ∷ made) p (suc j, h, e) = let rest = at_least (k + 1) made p (j, omega (arith, h), e) in omega (arith, rest)

pub found_new : (make : ℕ × Made → Instance) → ((p : ℕ × Made) → (make p).number ≡ p.0) → (k : ℕ) (made : List Made) (p : ℕ × Made) → Contains (enumerate_from k made) p → find (λ i. nat_eq i.number p.0) (map make (enumerate_from k made)) ≡ Some (make p)
found_new make is k [] p there = absurd (not_in_nil p there)
found_new make is k (m ∷ made) p (zero, h, e) =
    let number : nat_eq (make (k, m)).number p.0 ≡ true = eq-eqb (make (k, m)).number p.0 (is (k, m) ∙ ap (λ q. q.0) e) in
    ap (λ same. cond same (Some (make (k, m))) (find (λ i. nat_eq i.number p.0) (map make (enumerate_from (k + 1) made)))) number ∙ ap (λ q. Some (make q)) e
found_new make is k (m ∷ made) p (suc j, h, e) =
    let there : Contains (enumerate_from (k + 1) made) p = (j, omega (arith, h), e) in
    elim (nat_eq (make (k, m)).number p.0) as (λ same. nat_eq (make (k, m)).number p.0 ≡ same → cond same (Some (make (k, m))) (find (λ i. nat_eq i.number p.0) (map make (enumerate_from (k + 1) made))) ≡ Some (make p)) [
      | true ↦ λ same. let number : k ≡ p.0 = sym (is (k, m)) ∙ eqb-true (make (k, m)).number p.0 same in let high = at_least (k + 1) made p there in absurd (let no : ⊥ = omega (arith, number, high) in no)
      | false ↦ λ other. found_new make is (k + 1) made p there
    ] refl

changed_at : (change : ℕ → List Value → List Value) (k : ℕ) (places : List (List Value)) (j : ℕ) → slice_get (map (λ p. change p.0 p.1) (enumerate_from k places)) j ≡ option_map (change (k + j)) (slice_get places j)
changed_at change k [] j = refl
changed_at change k (vs ∷ places) zero = let first : k ≡ k + 0 = omega arith in ap (λ i. Some (change i vs)) first
changed_at change k (vs ∷ places) (suc j) = let place : (k + 1) + j ≡ k + suc j = omega arith in changed_at change (k + 1) places j ∙ ap (λ i. option_map (change i) (slice_get places j)) place

-- a place of an instance whose places are changed
pub changed_place : (change : ℕ → List Value → List Value) (i : Instance) (j : ℕ) → slice_get (changed_instance change i).places j ≡ option_map (change j) (slice_get i.places j)
changed_place change i j = let place : 0 + j ≡ j = omega arith in changed_at change 0 i.places j ∙ ap (λ k. option_map (change k) (slice_get i.places j)) place

module _ (system : System) (m : Marking) (made : List Made) (b : Binding) (acts : Effects) where
  abbrev after : Instance → Instance
  after = instance_after system b acts

  abbrev new : ℕ × Made → Instance
  new = new_instance system b acts

  abbrev put : ℕ → ℕ → List Value
  put n place = asked_at puts system acts.read (Old n) place

  -- an instance of the marking after a firing was there, or is one that the firing makes
  abbrev pub WasOrIsNew : ℕ → Instance → Type 0
  WasOrIsNew n j =
      ((i : Instance) × (instance_at m n ≡ Some i) × (j ≡ instance_after system b acts i))
      ⊎ ((c : Made) × Contains (enumerate_from m.next made) (n, c) × (instance_at m n ≡ None) × (j ≡ new_instance system b acts (n, c)))

  -- each instance after the firing was there or is new
  pub was_or_is_new : (n : ℕ) (j : Instance) → instance_at (marking_after system m made b acts) n ≡ Some j → WasOrIsNew n j
  was_or_is_new n j e = elim (instance_at m n) as (λ o. instance_at m n ≡ o → WasOrIsNew n j) [
    | Some i ↦ λ is. let same : j ≡ after i = same_Some j (after i) (sym e ∙ found_before after (λ i. refl) m.instances (map new (enumerate_from m.next made)) n i is) in inl (i, is, same)
    | None ↦ λ is.
        let found = new_found new (λ p. refl) m.next made n j (sym (found_behind after (λ i. refl) m.instances (map new (enumerate_from m.next made)) n is) ∙ e) in
        inr (found.0, found.1, is, found.2)
  ] refl

  -- one that was there is found as the firing leaves it
  pub was_there : (n : ℕ) (i : Instance) → instance_at m n ≡ Some i → instance_at (marking_after system m made b acts) n ≡ Some (instance_after system b acts i)
  was_there n i is = found_before after (λ i. refl) m.instances (map new (enumerate_from m.next made)) n i is

  pub is_new : (p : ℕ × Made) → instance_at m p.0 ≡ None → Contains (enumerate_from m.next made) p → instance_at (marking_after system m made b acts) p.0 ≡ Some (new_instance system b acts p)
  is_new p none there = found_behind after (λ i. refl) m.instances (map new (enumerate_from m.next made)) p.0 none ∙ found_new new (λ p. refl) m.next made p there

  -- a token was in a place before, or is put there
  was_or_put : (n place : ℕ) (v : Value) (o : Option (List Value)) → Contains (unwrap_or (option_map (λ vs. tokens_after system b acts n place (rest_at system b (Old n) place vs)) o) []) v → Contains (unwrap_or o []) v ⊎ Contains (put n place) v
  was_or_put n place v None there = absurd (not_in_nil v there)
  was_or_put n place v (Some vs) there =
      let rest = rest_at system b (Old n) place vs in
      elim (Contains-append_cases rest (put n place) v (from_ordered v (rest ++ put n place) there)) as (λ _. Contains vs v ⊎ Contains (put n place) v) [
        | inl left ↦ inl (from_rest v vs (taken_at system b (Old n) place) (from_rest v (without_each vs (taken_at system b (Old n) place)) (flat_map (λ vs. vs) (cleared_at system b (Old n) place)) left))
        | inr puts ↦ inr puts
      ]

  first_or_put : (n place : ℕ) (v : Value) (o : Option (List Value)) → Contains (unwrap_or (option_map (tokens_after system b acts n place) o) []) v → Contains (unwrap_or o []) v ⊎ Contains (put n place) v
  first_or_put n place v None there = absurd (not_in_nil v there)
  first_or_put n place v (Some vs) there = Contains-append_cases vs (put n place) v (from_ordered v (vs ++ put n place) there)

  get_mapped : {X Y : Type 0} (f : X → Y) (xs : List X) (k : ℕ) → slice_get (map f xs) k ≡ option_map f (slice_get xs k)
  get_mapped f [] k = refl
  get_mapped f (x ∷ xs) zero = refl
  get_mapped f (x ∷ xs) (suc k) = get_mapped f xs k

  one_of_place : (o : Option Place) (v : Value) → Contains (unwrap_or (option_map (λ p. ordered_values p.initial) o) []) v → (p : Place) × (o ≡ Some p) × Contains p.initial v
  one_of_place None v there = absurd (not_in_nil v there)
  one_of_place (Some p) v there = (p, refl, from_ordered v p.initial there)

  -- Where a token after the firing comes from.
  abbrev pub TokenFrom : ℕ → ℕ → Value → Type 0
  TokenFrom n place v =
      ((i : Instance) × (instance_at m n ≡ Some i) × Contains (tokens_at m n place) v)
      ⊎ ((c : Made) × (p : Place) × Contains (enumerate_from m.next made) (n, c) × (slice_get (net_at system c.net).places place ≡ Some p) × Contains p.initial v)
      ⊎ Contains (asked_at puts system acts.read (Old n) place) v

  abbrev held_by : Option Instance → ℕ → List Value
  held_by o place = unwrap_or (option_and_then (λ i. slice_get i.places place) o) []

  token_of_old : (n place : ℕ) (v : Value) (i : Instance) → instance_at m n ≡ Some i → i.number ≡ n → Contains (held_by (Some (after i)) place) v → TokenFrom n place v
  token_of_old n place v i is number there =
      let change = λ (place : ℕ) (vs : List Value). tokens_after system b acts i.number place (rest_at system b (Old i.number) place vs) in
      let changed : Contains (unwrap_or (option_map (change place) (slice_get i.places place)) []) v = subst (λ o. Contains (unwrap_or o []) v) (changed_place change i place) there in
      let at_n : Contains (unwrap_or (option_map (λ vs. tokens_after system b acts n place (rest_at system b (Old n) place vs)) (slice_get i.places place)) []) v =
      subst (λ k. Contains (unwrap_or (option_map (λ vs. tokens_after system b acts k place (rest_at system b (Old k) place vs)) (slice_get i.places place)) []) v) number changed in
      elim (was_or_put n place v (slice_get i.places place) at_n) as (λ _. TokenFrom n place v) [
        | inl before ↦ inl (i, is, subst (λ o. Contains (held_by o place) v) (sym is) before)
        | inr puts ↦ inr (inr puts)
      ]

  token_of_new : (n place : ℕ) (v : Value) (c : Made) → Contains (enumerate_from m.next made) (n, c) → Contains (held_by (Some (new (n, c))) place) v → TokenFrom n place v
  token_of_new n place v c new_one there =
      let fresh = fresh_instance system n c.net in
      let changed : Contains (unwrap_or (option_map (tokens_after system b acts n place) (slice_get fresh.places place)) []) v = subst (λ o. Contains (unwrap_or o []) v) (changed_place (tokens_after system b acts n) fresh place) there in
      elim (first_or_put n place v (slice_get fresh.places place) changed) as (λ _. TokenFrom n place v) [
        | inl first ↦
            let places = (net_at system c.net).places in
            let found = one_of_place (slice_get places place) v (subst (λ o. Contains (unwrap_or o []) v) (get_mapped (λ p. ordered_values p.initial) places place) first) in
            inr (inl (c, found.0, new_one, found.1, found.2))
        | inr puts ↦ inr (inr puts)
      ]

  -- each token after the firing was there, is initial, or is put
  pub token_from : (n place : ℕ) (v : Value) (j : Instance) → instance_at (marking_after system m made b acts) n ≡ Some j → Contains (tokens_at (marking_after system m made b acts) n place) v → TokenFrom n place v
  token_from n place v j e there =
      let held : Contains (held_by (Some j) place) v = subst (λ o. Contains (held_by o place) v) e there in
      elim (was_or_is_new n j e) as (λ _. TokenFrom n place v) [
        | inl (i, is, same) ↦ token_of_old n place v i is (found_number m.instances n i is) (subst (λ k. Contains (held_by (Some k) place) v) same held)
        | inr (c, new_one, none, same) ↦ token_of_new n place v c new_one (subst (λ k. Contains (held_by (Some k) place) v) same held)
      ]

-- How often tokens are among those that a change is taken apart into.
use Rattle.std.proofs.Common.{◌≡◌, ℕ, zero, suc, ◌+◌, ◌<◌, Bool, true, false, List, [], ◌∷◌, ◌++◌, cond}
use Rattle.std.proofs.Common.{refl, sym, ap, ◌∙◌, subst, arith}
use Rattle.std.specs.Prelude.{◌&&◌, Contains, nat_eq, slice_get, flat_map}
use Rattle.std.specs.Cmp.{tied_then, unsigned_tied, tied_itself, Equal-is}
use Rattle.std.specs.List.Sorted.{IsSorted, IsPermutation}
use Rattle.std.specs.Option.{option_map_or}
use Rattle.std.specs.Ordering.{is_eq, nat_cmp, ordering_then}
use Rattle.std.proofs.lemmas.List.Sums.{sum_by-append, sum_by-cons}
use Rattle.std.proofs.lemmas.List.Sorted.{sum_by-IsPermutation}
use Rattle.rn_value.specs.Order.{value_cmp}
use Rattle.rn_value.specs.declared.value.Value.{Value}
use Rattle.rn_model.specs.declared.system.System.{System}
use Rattle.rn_model.specs.declared.system.Place.{Place}
use Rattle.rn_model.specs.Lists.{count_of, same_value}
use Rattle.rn_model.specs.Systems.{net_at}
use Rattle.rn_model.proofs.EnablingLemmas.{not_in_nil}
use Rattle.rn_model.proofs.ValueLists.{one_if, count_of-cons}
use Rattle.rn_table.specs.Changes.{values_at}
use Rattle.rn_table.specs.declared.change.Row.{Row}
use Rattle.rn_table.proofs.ChangeLemmas.{count_append, add_hit}
use Rattle.rn_table.proofs.InstanceLemmas.{same_number, other_number}
use Rattle.rn_moves.specs.declared.token.Token.{Token}
use Rattle.rn_moves.specs.link.Connecting.{tokens_at_place, row_tokens, initial_tokens, made_tokens}
use Rattle.rn_moves.specs.Moves.{AreTokens, brought_at, initial_at}
use Rattle.rn_moves.specs.Order.{token_cmp, token_count}
use Rattle.rn_moves.specs.link.OrderLaws.{token_cmp-total}

abbrev token : ℕ → ℕ → Value → Token
token n place v = record { inst = n; place = place; value = v }

-- a token that is listed is counted
pub is_counted : (t : Token) (ts : List Token) → Contains ts t →
    0 < token_count ts t.inst t.place t.value
is_counted t [] there = absurd (not_in_nil t there)
is_counted t (u ∷ ts) (zero, h, e) =
    let one : one_if (is_eq (token_cmp t u)) ≡ 1 =
    ap (λ u. one_if (is_eq (token_cmp t u))) e
    ∙ ap one_if ((Equal-is (token_cmp t t)).1 (tied_itself token_cmp-total t)) in
    let whole = sum_by-cons (λ y. one_if (is_eq (token_cmp t y))) u ts in
    omega (arith, one, whole)
is_counted t (u ∷ ts) (suc k, h, e) =
    let rest = is_counted t ts (k, omega (arith, h), e) in
    let whole = sum_by-cons (λ y. one_if (is_eq (token_cmp t y))) u ts in
    omega (arith, rest, whole)

one_hit : (a b s : Bool) → cond (a && (b && s)) 1 0 ≡ cond (a && b) (one_if s) 0
one_hit true true s = refl
one_hit true false s = refl
one_hit false b s = refl

none_hit : (c : Bool) → ◌≡◌ {A = ℕ} (cond c 0 0) 0
none_hit true = refl
none_hit false = refl

no_second : (c : Bool) (k : ℕ) → cond (c && false) k 0 ≡ 0
no_second true k = refl
no_second false k = refl

only_first : (c : Bool) (k : ℕ) → cond (c && true) k 0 ≡ cond c k 0
only_first true k = refl
only_first false k = refl

module _ (n place : ℕ) (v : Value) where
  abbrev here : ℕ → ℕ → Bool
  here i p = nat_eq n i && nat_eq place p

  token_is : (i p : ℕ) (w : Value) → is_eq (token_cmp (token n place v) (token i p w))
      ≡ nat_eq n i && (nat_eq place p && same_value v w)
  token_is i p w =
      sym (tied_then (nat_cmp n i) (ordering_then (nat_cmp place p) (value_cmp v w)))
      ∙ ap (λ c. is_eq (nat_cmp n i) && c) (sym (tied_then (nat_cmp place p) (value_cmp v w)))
      ∙ ap (λ c. c && (is_eq (nat_cmp place p) && same_value v w)) (unsigned_tied n i)
      ∙ ap (λ c. nat_eq n i && (c && same_value v w)) (unsigned_tied place p)

  token_count-cons : (i p : ℕ) (w : Value) (ts : List Token) →
      token_count (token i p w ∷ ts) n place v
      ≡ cond (here i p) (one_if (same_value v w)) 0 + token_count ts n place v
  token_count-cons i p w ts =
      sum_by-cons (λ t. one_if (is_eq (token_cmp (token n place v) t))) (token i p w) ts
      ∙ ap (λ c. one_if c + token_count ts n place v) (token_is i p w)
      ∙ ap (λ k. k + token_count ts n place v) (one_hit (nat_eq n i) (nat_eq place p) (same_value v w))

  pub token_count-append : (ts us : List Token) →
      token_count (ts ++ us) n place v ≡ token_count ts n place v + token_count us n place v
  token_count-append ts us = sum_by-append (λ t. one_if (is_eq (token_cmp (token n place v) t))) ts us

  values_times : (i p : ℕ) (vs : List Value) →
      token_count (tokens_at_place i p vs) n place v ≡ cond (here i p) (count_of v vs) 0
  values_times i p [] = sym (none_hit (here i p))
  values_times i p (w ∷ vs) =
      token_count-cons i p w (tokens_at_place i p vs)
      ∙ ap (λ k. cond (here i p) (one_if (same_value v w)) 0 + k) (values_times i p vs)
      ∙ add_hit (here i p) (one_if (same_value v w)) (count_of v vs)
      ∙ ap (λ k. cond (here i p) k 0) (sym (count_of-cons v w vs))

  row_count : (c : Bool) (vs : List Value) → cond c (count_of v vs) 0 ≡ count_of v (cond c vs [])
  row_count true vs = refl
  row_count false vs = refl

  -- the tokens of rows are counted by the values of the rows of that place
  pub rows_times : (rows : List Row) →
      token_count (flat_map row_tokens rows) n place v ≡ count_of v (values_at rows n place)
  rows_times [] = refl
  rows_times (row ∷ rows) =
      let own : List Value = cond (here row.inst row.place) row.values [] in
      token_count-append (row_tokens row) (flat_map row_tokens rows)
      ∙ ap (λ k. k + token_count (flat_map row_tokens rows) n place v)
      (values_times row.inst row.place row.values ∙ row_count (here row.inst row.place) row.values)
      ∙ ap (λ k. count_of v own + k) (rows_times rows)
      ∙ sym (count_append v own (values_at rows n place))

-- initial tokens of an instance
module _ (n : ℕ) (v : Value) (i : ℕ) where
  initial_below : (place k : ℕ) (ps : List Place) → place < k →
      token_count (initial_tokens i k ps) n place v ≡ 0
  initial_below place k [] low = refl
  initial_below place k (p ∷ ps) low =
      token_count-append n place v (tokens_at_place i k p.initial) (initial_tokens i (k + 1) ps)
      ∙ ap (λ x. x + token_count (initial_tokens i (k + 1) ps) n place v)
      (values_times n place v i k p.initial
      ∙ ap (λ c. cond (nat_eq n i && c) (count_of v p.initial) 0) (other_number place k (λ e. omega (arith, e, low)))
      ∙ no_second (nat_eq n i) (count_of v p.initial))
      ∙ ap (λ x. 0 + x) (initial_below place (k + 1) ps (omega (arith, low)))

  abbrev initial_in : List Place → ℕ → List Value
  initial_in ps j = option_map_or (λ p. p.initial) (slice_get ps j) []

  initial_times : (k : ℕ) (ps : List Place) (j : ℕ) →
      token_count (initial_tokens i k ps) n (k + j) v ≡ cond (nat_eq n i) (count_of v (initial_in ps j)) 0
  initial_times k [] j = sym (none_hit (nat_eq n i))
  initial_times k (p ∷ ps) zero =
      let place : k + 0 ≡ k = omega arith in
      ap (λ q. token_count (initial_tokens i k (p ∷ ps)) n q v) place
      ∙ token_count-append n k v (tokens_at_place i k p.initial) (initial_tokens i (k + 1) ps)
      ∙ ap (λ x. x + token_count (initial_tokens i (k + 1) ps) n k v)
      (values_times n k v i k p.initial
      ∙ ap (λ c. cond (nat_eq n i && c) (count_of v p.initial) 0) (same_number k)
      ∙ only_first (nat_eq n i) (count_of v p.initial))
      ∙ ap (λ x. cond (nat_eq n i) (count_of v p.initial) 0 + x) (initial_below k (k + 1) ps (omega arith))
      ∙ omega arith
  initial_times k (p ∷ ps) (suc j) =
      let place : k + suc j ≡ (k + 1) + j = omega arith in
      token_count-append n (k + suc j) v (tokens_at_place i k p.initial) (initial_tokens i (k + 1) ps)
      ∙ ap (λ x. x + token_count (initial_tokens i (k + 1) ps) n (k + suc j) v)
      (values_times n (k + suc j) v i k p.initial
      ∙ ap (λ c. cond (nat_eq n i && c) (count_of v p.initial) 0) (other_number (k + suc j) k (λ e. omega (arith, e)))
      ∙ no_second (nat_eq n i) (count_of v p.initial))
      ∙ ap (λ q. 0 + token_count (initial_tokens i (k + 1) ps) n q v) place
      ∙ ap (λ x. 0 + x) (initial_times (k + 1) ps j)
      ∙ omega arith

  -- at a place of a net, by that place
  pub net_times : (system : System) (net place : ℕ) →
      token_count (initial_tokens i 0 (net_at system net).places) n place v
      ≡ cond (nat_eq n i) (count_of v (initial_at system net place)) 0
  net_times system net place =
      let places = (net_at system net).places in
      let same : 0 + place ≡ place = omega arith in
      subst (λ q. token_count (initial_tokens i 0 places) n q v
      ≡ cond (nat_eq n i) (count_of v (initial_in places place)) 0) same (initial_times 0 places place)

-- the initial tokens of new instances
pub made_times : (system : System) (next : ℕ) (nets : List ℕ) (n place : ℕ) (v : Value) →
    token_count (made_tokens system next nets) n place v
    ≡ count_of v (brought_at system next nets n place)
made_times system next [] n place v = refl
made_times system next (net ∷ nets) n place v =
    let own : List Value = cond (nat_eq n next) (initial_at system net place) [] in
    token_count-append n place v (initial_tokens next 0 (net_at system net).places) (made_tokens system (next + 1) nets)
    ∙ ap (λ x. x + token_count (made_tokens system (next + 1) nets) n place v)
    (net_times n v next system net place ∙ row_count n place v (nat_eq n next) (initial_at system net place))
    ∙ ap (λ x. count_of v own + x) (made_times system (next + 1) nets n place v)
    ∙ sym (count_append v own (brought_at system (next + 1) nets n place))

-- sorted tokens are counted as before
pub gathered : (at : ℕ → ℕ → List Value) (ts sorted : List Token) → IsSorted token_cmp sorted →
    IsPermutation ts sorted →
    ((n place : ℕ) (v : Value) → token_count ts n place v ≡ count_of v (at n place)) →
    AreTokens at sorted
gathered at ts sorted up moved counted = record {
  ascending = up;
  counted = λ n place v.
      sum_by-IsPermutation (λ t. one_if (is_eq (token_cmp (token n place v) t))) ts sorted moved
      ∙ counted n place v;
}

-- and so are those of places that are the same
pub same_tokens : (at other : ℕ → ℕ → List Value) (ts : List Token) →
    ((n place : ℕ) → at n place ≡ other n place) → AreTokens at ts → AreTokens other ts
same_tokens at other ts same are = record {
  ascending = are.ascending;
  counted = λ n place v. are.counted n place v ∙ ap (count_of v) (same n place);
}

-- what leaves, from the rows of what is taken and of what is cleared
pub gone_tokens : (taken cleared : List Row) (ts sorted : List Token) →
    ts ≡ flat_map row_tokens taken ++ flat_map row_tokens cleared → IsSorted token_cmp sorted →
    IsPermutation ts sorted →
    AreTokens (λ n place. values_at taken n place ++ values_at cleared n place) sorted
gone_tokens taken cleared ts sorted is up moved =
    gathered (λ n place. values_at taken n place ++ values_at cleared n place) ts sorted up moved (λ n place v.
    ap (λ ts. token_count ts n place v) is
    ∙ token_count-append n place v (flat_map row_tokens taken) (flat_map row_tokens cleared)
    ∙ ap (λ k. k + token_count (flat_map row_tokens cleared) n place v) (rows_times n place v taken)
    ∙ ap (λ k. count_of v (values_at taken n place) + k) (rows_times n place v cleared)
    ∙ sym (count_append v (values_at taken n place) (values_at cleared n place)))

-- what comes, from the nets of new instances and the rows of what is put
pub come_tokens : (system : System) (next : ℕ) (nets : List ℕ) (put : List Row)
    (ts sorted : List Token) → ts ≡ made_tokens system next nets ++ flat_map row_tokens put →
    IsSorted token_cmp sorted → IsPermutation ts sorted →
    AreTokens (λ n place. brought_at system next nets n place ++ values_at put n place) sorted
come_tokens system next nets put ts sorted is up moved =
    gathered (λ n place. brought_at system next nets n place ++ values_at put n place) ts sorted up moved (λ n place v.
    ap (λ ts. token_count ts n place v) is
    ∙ token_count-append n place v (made_tokens system next nets) (flat_map row_tokens put)
    ∙ ap (λ k. k + token_count (flat_map row_tokens put) n place v) (made_times system next nets n place v)
    ∙ ap (λ k. count_of v (brought_at system next nets n place) + k) (rows_times n place v put)
    ∙ sym (count_append v (brought_at system next nets n place) (values_at put n place)))

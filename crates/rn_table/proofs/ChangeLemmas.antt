-- A change by counts: its net steps make of each place what the change says.
use Rattle.std.proofs.Common.{◌≡◌, ℕ, zero, suc, ◌+◌, ◌-◌, ◌<◌, ◌≤◌, nat_eq, Bool, true, false, cond, Some, List, [], ◌∷◌, ◌++◌, length, get_or, map, refl, sym, ap, ◌∙◌, subst, arith}
use Rattle.std.specs.Prelude.{not, filter, ◌&&◌, slice_get, unwrap_or, option_and_then}
use Rattle.std.specs.List.{AllByRecursion, enumerate_from}
use Rattle.std.specs.List.Sorted.{IsSorted}
use Rattle.std.proofs.lemmas.List.Sums.{sum_by-cons, sum_by-append}
use Rattle.std.proofs.lemmas.List.{map-append}
use Rattle.std.proofs.lemmas.List.Elements.{filter-append}
use Rattle.std.proofs.Math.Bool.{and-false}
use Rattle.rn_value.specs.Order.{value_cmp}
use Rattle.rn_value.specs.declared.value.Value.{Value}
use Rattle.rn_value.proofs.SortedLists.{values_by_counts}
use Rattle.rn_model.specs.declared.system.System.{System}
use Rattle.rn_model.specs.Lists.{same_value, count_of, with_value, without_one, without_each, ordered_values, IsWithin}
use Rattle.rn_model.specs.Markings.{Instance, Marking, fresh_instance, instance_at, tokens_at}
use Rattle.rn_model.specs.Firing.{changed_instance}
use Rattle.rn_model.proofs.ValueLists.{ordered_values_ascend, ordered_values_stay, others_are_taken, count_of-cons, one_if}
use Rattle.rn_table.specs.declared.change.Row.{Row}
use Rattle.rn_table.specs.declared.change.Change.{Change}
use Rattle.rn_table.specs.Changes.{changed, changed_tokens, new_from, values_at}
use Rattle.rn_table.specs.link.Leaves.{Ascending, HasSortedPlaces}
use Rattle.rn_table.specs.link.Steps.{Step, AreNet, step_at, after_step, steps_at, after_steps, steps_of, steps_in, all_steps, is_at, step_count, alone_count}
use Rattle.rn_table.specs.Tables.{started, starting_in}
use Rattle.rn_model.specs.Systems.{may_start}
use Rattle.rn_table.proofs.InstanceLemmas.{numbered_at, all_get}
use Rattle.rn_table.proofs.StepLemmas.{step_sorted, with_places}

-- steps, one place at a time
abbrev steps_on : List Step → Instance → Instance
steps_on ss i = changed_instance (steps_at ss i.number) i

no_steps : (k : ℕ) (ps : List (List Value)) → ps ≡ map (λ p. p.1) (enumerate_from k ps)
no_steps k [] = refl
no_steps k (vs ∷ ps) = ap (λ r. vs ∷ r) (no_steps (k + 1) ps)

both_changes : (f g : ℕ → List Value → List Value) (k : ℕ) (ps : List (List Value)) → map (λ p. g p.0 p.1) (enumerate_from k (map (λ p. f p.0 p.1) (enumerate_from k ps))) ≡ map (λ p. g p.0 (f p.0 p.1)) (enumerate_from k ps)
both_changes f g k [] = refl
both_changes f g k (vs ∷ ps) = ap (λ r. g k (f k vs) ∷ r) (both_changes f g (k + 1) ps)

map_none : (is : List Instance) → is ≡ map (steps_on []) is
map_none [] = refl
map_none (i ∷ is) = ap (λ j. j ∷ is) (ap (with_places i) (no_steps 0 i.places)) ∙ ap (λ r. steps_on [] i ∷ r) (map_none is)

map_step : (s : Step) (ss : List Step) (is : List Instance) → map (steps_on ss) (map (after_step s) is) ≡ map (steps_on (s ∷ ss)) is
map_step s ss [] = refl
map_step s ss (i ∷ is) =
    ap (λ j. j ∷ map (steps_on ss) (map (after_step s) is)) (ap (with_places i) (both_changes (step_at s i.number) (steps_at ss i.number) 0 i.places)) ∙ ap (λ r. steps_on (s ∷ ss) i ∷ r) (map_step s ss is)

by_instance : (ss : List Step) (is : List Instance) → after_steps ss is ≡ map (steps_on ss) is
by_instance [] is = map_none is
by_instance (s ∷ ss) is = by_instance ss (map (after_step s) is) ∙ map_step s ss is

-- counts
same_order : (vs : List Value) → IsSorted value_cmp vs → vs ≡ ordered_values vs
same_order vs up = values_by_counts vs (ordered_values vs) up (ordered_values_ascend vs) (λ z. sym (ordered_values_stay vs z))

count_with : (z v : Value) (vs : List Value) → IsSorted value_cmp vs → count_of z (with_value v vs) ≡ one_if (same_value z v) + count_of z vs
count_with z v vs up = ap (λ r. count_of z (with_value v r)) (same_order vs up) ∙ ordered_values_stay (v ∷ vs) z ∙ count_of-cons z v vs

count_without : (z v : Value) (vs : List Value) → count_of z (without_one vs v) ≡ count_of z vs - one_if (same_value z v)
count_without z v vs =
    let taken = others_are_taken vs (v ∷ []) z in
    let one = count_of-cons z v [] in
    omega (arith, taken, one)

abbrev hit : Bool → ℕ → ℕ → Value → Step → ℕ
hit puts n place z s = cond (is_at puts n place z s) 1 0

and_true : (b : Bool) → (b && true) ≡ b
and_true true = refl
and_true false = refl

module _ (n place : ℕ) (z : Value) (s : Step) (vs : List Value) (up : IsSorted value_cmp vs) where
  abbrev Counts : Bool → Bool → Type 0
  Counts here puts =
      cond (here && (same_value z s.value && not puts)) 1 0 ≤ count_of z vs →
      count_of z (cond here (cond puts (with_value s.value vs) (without_one vs s.value)) vs) + cond (here && (same_value z s.value && not puts)) 1 0
      ≡ count_of z vs + cond (here && (same_value z s.value && puts)) 1 0

  count_case : (here puts : Bool) → Counts here puts
  count_case false puts = λ enough. refl
  count_case true true = λ enough.
      let more = count_with z s.value vs up in
      let none : one_if (same_value z s.value && false) ≡ one_if false = ap one_if (and-false (same_value z s.value)) in
      let one : one_if (same_value z s.value && true) ≡ one_if (same_value z s.value) = ap one_if (and_true (same_value z s.value)) in
      omega (arith, more, none, one)
  count_case true false = λ enough.
      let less = count_without z s.value vs in
      let none : one_if (same_value z s.value && false) ≡ one_if false = ap one_if (and-false (same_value z s.value)) in
      let one : one_if (same_value z s.value && true) ≡ one_if (same_value z s.value) = ap one_if (and_true (same_value z s.value)) in
      omega (arith, less, none, one, enough)

  count_step : s.alone ≡ false → hit false n place z s ≤ count_of z vs → count_of z (step_at s n place vs) + hit false n place z s ≡ count_of z vs + hit true n place z s
  count_step plain = subst (λ b. hit false n place z s ≤ count_of z vs → count_of z (cond (nat_eq n s.inst && nat_eq place s.place) (cond s.puts (with_value s.value (cond b [] vs)) (without_one (cond b [] vs) s.value)) vs) + hit false n place z s ≡ count_of z vs + hit true n place z s) (sym plain)
      (count_case (nat_eq n s.inst && nat_eq place s.place) s.puts)

times_more : (puts : Bool) (n place : ℕ) (z : Value) (s : Step) (ss : List Step) → step_count puts n place z (s ∷ ss) ≡ hit puts n place z s + step_count puts n place z ss
times_more puts n place z s ss = sum_by-cons (hit puts n place z) s ss

steps_sorted : (ss : List Step) (n place : ℕ) (vs : List Value) → IsSorted value_cmp vs → IsSorted value_cmp (steps_at ss n place vs)
steps_sorted [] n place vs up = up
steps_sorted (s ∷ ss) n place vs up = steps_sorted ss n place (step_at s n place vs) (step_sorted s n place vs up)

-- steps of which none empties its place
abbrev lone_hit : Step → ℕ
lone_hit s = cond s.alone 1 0

not_alone : (b : Bool) → ◌≡◌ {A = ℕ} (cond b 1 0) 0 → b ≡ false
not_alone true e = absurd (omega (arith, e))
not_alone false e = refl

alone_more : (s : Step) (ss : List Step) → alone_count (s ∷ ss) ≡ lone_hit s + alone_count ss
alone_more s ss = sum_by-cons lone_hit s ss

count_steps : (ss : List Step) (n place : ℕ) (z : Value) (vs : List Value) → alone_count ss ≡ 0 → IsSorted value_cmp vs → step_count false n place z ss ≤ count_of z vs → count_of z (steps_at ss n place vs) + step_count false n place z ss ≡ count_of z vs + step_count true n place z ss
count_steps [] n place z vs plain up enough = refl
count_steps (s ∷ ss) n place z vs plain up enough =
    let lone = alone_more s ss in
    let taken = times_more false n place z s ss in
    let put = times_more true n place z s ss in
    let here = count_step n place z s vs up (not_alone s.alone (omega (arith, lone, plain))) (omega (arith, taken, enough)) in
    let rest = count_steps ss n place z (step_at s n place vs) (omega (arith, lone, plain)) (step_sorted s n place vs up) (omega (arith, taken, enough, here)) in
    omega (arith, taken, put, here, rest)

-- the steps of rows
pub count_append : (z : Value) (xs ys : List Value) → count_of z (xs ++ ys) ≡ count_of z xs + count_of z ys
count_append z xs ys = sum_by-append (λ v. one_if (same_value z v)) xs ys

step_hit : (b h : Bool) (z v : Value) → cond (b && (same_value z v && h)) 1 0 ≡ cond (b && h) (one_if (same_value z v)) 0
step_hit false h z v = refl
step_hit true true z v = ap (λ c. cond c 1 0) (and_true (same_value z v))
step_hit true false z v = ap (λ c. cond c 1 0) (and-false (same_value z v))

pub add_hit : (c : Bool) (a b : ℕ) → cond c a 0 + cond c b 0 ≡ cond c (a + b) 0
add_hit true a b = refl
add_hit false a b = refl

none_hit : (c : Bool) → ◌≡◌ {A = ℕ} 0 (cond c 0 0)
none_hit true = refl
none_hit false = refl

abbrev matches : Bool → Bool → Bool
matches puts q = cond puts q (not q)

abbrev one_step : Bool → Row → Value → Step
one_step q row v = record { inst = row.inst; place = row.place; value = v; puts = q; alone = false }

module _ (puts q : Bool) (n place : ℕ) (z : Value) where
  abbrev of_row : Row → Bool
  of_row row = nat_eq n row.inst && nat_eq place row.place

  values_times : (row : Row) (vs : List Value) → step_count puts n place z (map (one_step q row) vs) ≡ cond (of_row row && matches puts q) (count_of z vs) 0
  values_times row [] = none_hit (of_row row && matches puts q)
  values_times row (v ∷ vs) =
      let h : ℕ = cond (of_row row && matches puts q) (one_if (same_value z v)) 0 in
      let r : ℕ = cond (of_row row && matches puts q) (count_of z vs) 0 in
      times_more puts n place z (one_step q row v) (map (one_step q row) vs)
      ∙ ap (λ k. k + step_count puts n place z (map (one_step q row) vs)) (step_hit (of_row row) (matches puts q) z v)
      ∙ ap (λ k. h + k) (values_times row vs) ∙ add_hit (of_row row && matches puts q) (one_if (same_value z v)) (count_of z vs)
      ∙ ap (λ k. cond (of_row row && matches puts q) k 0) (sym (count_of-cons z v vs))

  row_count : (b h : Bool) (vs : List Value) → cond (b && h) (count_of z vs) 0 ≡ cond h (count_of z (cond b vs [])) 0
  row_count true h vs = refl
  row_count false h vs = none_hit h

  rows_times : (rows : List Row) → step_count puts n place z (steps_in q rows) ≡ cond (matches puts q) (count_of z (values_at rows n place)) 0
  rows_times [] = none_hit (matches puts q)
  rows_times (row ∷ rows) =
      let vs : List Value = cond (of_row row) row.values [] in
      sum_by-append (hit puts n place z) (steps_of q row) (steps_in q rows)
      ∙ ap (λ k. k + step_count puts n place z (steps_in q rows)) (values_times row row.values ∙ row_count (of_row row) (matches puts q) row.values)
      ∙ ap (λ k. cond (matches puts q) (count_of z vs) 0 + k) (rows_times rows)
      ∙ add_hit (matches puts q) (count_of z vs) (count_of z (values_at rows n place))
      ∙ ap (λ k. cond (matches puts q) k 0) (sym (count_append z vs (values_at rows n place)))

all_times : (change : Change) (puts : Bool) (n place : ℕ) (z : Value) → step_count puts n place z (all_steps change) ≡ (step_count puts n place z (steps_in false change.taken) + step_count puts n place z (steps_in false change.cleared)) + step_count puts n place z (steps_in true change.put)
all_times change puts n place z =
    sum_by-append (hit puts n place z) (steps_in false change.taken ++ steps_in false change.cleared) (steps_in true change.put)
    ∙ ap (λ k. k + step_count puts n place z (steps_in true change.put)) (sum_by-append (hit puts n place z) (steps_in false change.taken) (steps_in false change.cleared))

-- none of them empties its place
values_plain : (q : Bool) (row : Row) (vs : List Value) → alone_count (map (one_step q row) vs) ≡ 0
values_plain q row [] = refl
values_plain q row (v ∷ vs) = alone_more (one_step q row v) (map (one_step q row) vs) ∙ ap (λ k. 0 + k) (values_plain q row vs)

rows_plain : (q : Bool) (rows : List Row) → alone_count (steps_in q rows) ≡ 0
rows_plain q [] = refl
rows_plain q (row ∷ rows) =
    sum_by-append lone_hit (steps_of q row) (steps_in q rows) ∙ ap (λ k. k + alone_count (steps_in q rows)) (values_plain q row row.values) ∙ ap (λ k. 0 + k) (rows_plain q rows)

all_plain : (change : Change) → alone_count (all_steps change) ≡ 0
all_plain change =
    sum_by-append lone_hit (steps_in false change.taken ++ steps_in false change.cleared) (steps_in true change.put)
    ∙ ap (λ k. k + alone_count (steps_in true change.put)) (sum_by-append lone_hit (steps_in false change.taken) (steps_in false change.cleared))
    ∙ ap (λ k. (k + alone_count (steps_in false change.cleared)) + alone_count (steps_in true change.put)) (rows_plain false change.taken)
    ∙ ap (λ k. (0 + k) + alone_count (steps_in true change.put)) (rows_plain false change.cleared) ∙ ap (λ k. (0 + 0) + k) (rows_plain true change.put)

-- what the net steps of a change make of a place
place_same : (change : Change) (ss : List Step) (n place : ℕ) (vs : List Value) → AreNet (all_steps change) ss → IsSorted value_cmp vs → IsWithin (values_at change.taken n place ++ values_at change.cleared n place) vs →
    steps_at ss n place vs ≡ changed_tokens change n place vs
place_same change ss n place vs net up within =
    let t : List Value = values_at change.taken n place in
    let c : List Value = values_at change.cleared n place in
    let p : List Value = values_at change.put n place in
    values_by_counts (steps_at ss n place vs) (changed_tokens change n place vs) (steps_sorted ss n place vs up) (ordered_values_ascend (without_each (without_each vs t) c ++ p)) (λ z.
    let taken : step_count false n place z (all_steps change) ≡ (count_of z t + count_of z c) + 0 = all_times change false n place z ∙ ap (λ k. (k + step_count false n place z (steps_in false change.cleared)) + step_count false n place z (steps_in true change.put)) (rows_times false false n place z change.taken)
    ∙ ap (λ k. (count_of z t + k) + step_count false n place z (steps_in true change.put)) (rows_times false false n place z change.cleared) ∙ ap (λ k. (count_of z t + count_of z c) + k) (rows_times false true n place z change.put) in
    let put : step_count true n place z (all_steps change) ≡ (0 + 0) + count_of z p = all_times change true n place z ∙ ap (λ k. (k + step_count true n place z (steps_in false change.cleared)) + step_count true n place z (steps_in true change.put)) (rows_times true false n place z change.taken)
    ∙ ap (λ k. (0 + k) + step_count true n place z (steps_in true change.put)) (rows_times true false n place z change.cleared) ∙ ap (λ k. (0 + 0) + k) (rows_times true true n place z change.put) in
    let inside = within z in
    let both = count_append z t c in
    let fewer = net.fewer n place z in
    let balance = net.balance n place z in
    let plain = all_plain change in
    let lone = net.lone in
    let steps = count_steps ss n place z vs (omega (arith, plain, lone)) up (omega (arith, fewer, taken, inside, both)) in
    let left = others_are_taken (without_each vs t) c z in
    let first = others_are_taken vs t z in
    let joined = count_append z (without_each (without_each vs t) c) p in
    let order = ordered_values_stay (without_each (without_each vs t) c ++ p) z in
    omega (arith, steps, taken, put, balance, left, first, joined, order, inside, both, fewer))

-- and of instances
pub places_same : (f g : ℕ → List Value → List Value) (a : ℕ) (ps : List (List Value)) → ((k : ℕ) (vs : List Value) → k < length ps → vs ≡ get_or ps k vs → f (a + k) vs ≡ g (a + k) vs) → map (λ p. f p.0 p.1) (enumerate_from a ps) ≡ map (λ p. g p.0 p.1) (enumerate_from a ps)
places_same f g a [] same = refl
places_same f g a (vs ∷ ps) same =
    let here : f a vs ≡ g a vs = subst (λ k. f k vs ≡ g k vs) (let e : a + 0 ≡ a = omega arith in e) (same 0 vs (omega arith) refl) in
    ap (λ ws. ws ∷ map (λ p. f p.0 p.1) (enumerate_from (a + 1) ps)) here
    ∙ ap (λ r. g a vs ∷ r) (places_same f g (a + 1) ps (λ k ws inside is. subst (λ j. f j ws ≡ g j ws) (let e : a + suc k ≡ (a + 1) + k = omega arith in e) (same (suc k) ws (omega (arith, inside)) is)))

abbrev FitsIn : Change → Instance → Type 0
FitsIn change i = (k : ℕ) (vs : List Value) → k < length i.places → vs ≡ get_or i.places k vs → IsSorted value_cmp vs × IsWithin (values_at change.taken i.number k ++ values_at change.cleared i.number k) vs

instances_same : (change : Change) (ss : List Step) (is : List Instance) → AreNet (all_steps change) ss → AllByRecursion (FitsIn change) is → map (steps_on ss) is ≡ map (λ i. changed_instance (changed_tokens change i.number) i) is
instances_same change ss [] net fit = refl
instances_same change ss (i ∷ is) net fit =
    let zero_more : (k : ℕ) → 0 + k ≡ k = λ k. omega arith in
    ap (λ j. j ∷ map (steps_on ss) is) (ap (with_places i) (places_same (steps_at ss i.number) (changed_tokens change i.number) 0 i.places (λ k vs inside is_vs.
    subst (λ j. steps_at ss i.number j vs ≡ changed_tokens change i.number j vs) (sym (zero_more k)) (let ok = fit.0 k vs inside is_vs in place_same change ss i.number k vs net ok.0 ok.1))))
    ∙ ap (λ r. changed_instance (changed_tokens change i.number) i ∷ r) (instances_same change ss is net fit.1)

-- each instance fits, where all that is taken and cleared is there
all_by_index : {A : Type 0} (P : A → Type 0) (xs : List A) → ((k : ℕ) (x : A) → k < length xs → x ≡ get_or xs k x → P x) → AllByRecursion P xs
all_by_index P [] each = tt
all_by_index P (x ∷ xs) each = (each 0 x (omega arith) refl, all_by_index P xs (λ k y inside is. each (suc k) y (omega (arith, inside)) is))

got : {A : Type 0} (xs : List A) (k : ℕ) (x : A) → k < length xs → x ≡ get_or xs k x → slice_get xs k ≡ Some x
got [] k x inside is = absurd (omega arith)
got (y ∷ ys) zero x inside is = ap (λ z. Some z) (sym is)
got (y ∷ ys) (suc k) x inside is = got ys k x (omega arith) is

all_fit : (change : Change) (m : Marking) → Ascending m.instances → AllByRecursion HasSortedPlaces m.instances → ((n place : ℕ) → IsWithin (values_at change.taken n place ++ values_at change.cleared n place) (tokens_at m n place)) → AllByRecursion (FitsIn change) m.instances
all_fit change m up sorted there = all_by_index (FitsIn change) m.instances (λ j i inside is k vs within vs_is.
    let found : instance_at m i.number ≡ Some i = numbered_at i.number m.instances j i up inside is refl in
    let held : tokens_at m i.number k ≡ vs = ap (λ o. unwrap_or (option_and_then (λ (x : Instance). slice_get x.places k) o) []) found ∙ ap (λ o. unwrap_or o []) (got i.places k vs within vs_is) in (
      all_get (IsSorted value_cmp) i.places k vs (all_get HasSortedPlaces m.instances j i sorted inside is) within vs_is,
      subst (IsWithin (values_at change.taken i.number k ++ values_at change.cleared i.number k)) held (there i.number k),
    ))

pub changed_by_steps : (change : Change) (m : Marking) (ss : List Step) → AreNet (all_steps change) ss → Ascending m.instances → AllByRecursion HasSortedPlaces m.instances →
    ((n place : ℕ) → IsWithin (values_at change.taken n place ++ values_at change.cleared n place) (tokens_at m n place)) →
    after_steps ss m.instances ≡ map (λ i. changed_instance (changed_tokens change i.number) i) m.instances
changed_by_steps change m ss net up sorted there = by_instance ss m.instances ∙ instances_same change ss m.instances net (all_fit change m up sorted there)

-- the numbers that may start, after a change
module _ (system : System) where
  abbrev starts : Instance → Bool
  starts i = may_start system i.net

  module _ (change : Instance → List (List Value)) where
    change_case : (b : Bool) (i : Instance) (r q : List Instance) → map (λ (j : Instance). j.number) r ≡ map (λ (j : Instance). j.number) q → map (λ (j : Instance). j.number) (cond b (with_places i (change i) ∷ r) r) ≡ map (λ (j : Instance). j.number) (cond b (i ∷ q) q)
    change_case true i r q rest = ap (λ ns. i.number ∷ ns) rest
    change_case false i r q rest = rest

    pub starts_changed : (is : List Instance) → map (λ (j : Instance). j.number) (filter starts (map (λ i. with_places i (change i)) is)) ≡ map (λ (j : Instance). j.number) (filter starts is)
    starts_changed [] = refl
    starts_changed (i ∷ is) = change_case (starts i) i (filter starts (map (λ j. with_places j (change j)) is)) (filter starts is) (starts_changed is)

  new_case : (b : Bool) (i : Instance) (net : ℕ) (r : List Instance) (q : List (ℕ × ℕ)) → map (λ (j : Instance). j.number) r ≡ map (λ (p : ℕ × ℕ). p.0) q → map (λ (j : Instance). j.number) (cond b (i ∷ r) r) ≡ map (λ (p : ℕ × ℕ). p.0) (cond b ((i.number, net) ∷ q) q)
  new_case true i net r q rest = ap (λ ns. i.number ∷ ns) rest
  new_case false i net r q rest = rest

  starts_new : (k : ℕ) (made : List ℕ) → map (λ (j : Instance). j.number) (filter starts (new_from system k made)) ≡ started system k made
  starts_new k [] = refl
  starts_new k (net ∷ made) =
      new_case (may_start system net) (fresh_instance system k net) net (filter starts (new_from system (k + 1) made)) (filter (λ (p : ℕ × ℕ). may_start system p.1) (enumerate_from (k + 1) made)) (starts_new (k + 1) made)

  pub still_of_system : (change : Change) (m : Marking) → starting_in system (changed system change m) ≡ starting_in system m ++ started system m.next change.made
  still_of_system change m =
      starts_changed (λ i. map (λ p. changed_tokens change i.number p.0 p.1) (enumerate_from 0 i.places)) (m.instances ++ new_from system m.next change.made)
      ∙ ap (map (λ (j : Instance). j.number)) (filter-append starts m.instances (new_from system m.next change.made))
      ∙ map-append (λ (j : Instance). j.number) (filter starts m.instances) (filter starts (new_from system m.next change.made))
      ∙ ap (λ r. starting_in system m ++ r) (starts_new m.next change.made)

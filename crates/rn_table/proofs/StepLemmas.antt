-- Steps: what one of them, and some of them, make of places and instances.
use Rattle.std.proofs.Common.{◌≡◌, ◌≢◌, ℕ, zero, suc, ◌+◌, ◌<◌, ◌≤◌, nat_eq, Bool, true, false, cond, Option, Some, List, [], ◌∷◌, length, get_or, set, map, refl, sym, ap, ◌∙◌, subst, arith, inl, inr}
use Rattle.std.specs.Prelude.{filter, ◌&&◌}
use Rattle.std.proofs.lemmas.Bool.{cases_lt}
use Rattle.std.proofs.lemmas.List.{get_or_default, set_past}
use Rattle.std.proofs.Math.Bool.{and-false}
use Rattle.std.specs.List.{AllByRecursion, enumerate_from}
use Rattle.std.specs.Ordering.{is_lt}
use Rattle.std.specs.List.Sorted.{IsSorted}
use Rattle.rn_value.specs.Order.{value_cmp}
use Rattle.rn_value.specs.declared.value.Value.{Value}
use Rattle.rn_value.proofs.SortedLists.{values_by_counts}
use Rattle.rn_model.specs.Lists.{same_value, count_of, with_value, without_one, ordered_values}
use Rattle.rn_model.specs.Markings.{Instance}
use Rattle.rn_model.proofs.ValueLists.{ordered_values_ascend, ordered_values_stay, count_of-cons, one_if}
use Rattle.rn_bag.specs.Cuts.{Ascends}
use Rattle.rn_bag.proofs.AscendingLemmas.{sorted_of}
use Rattle.rn_bag.proofs.CursorLemmas.{ascends_of}
use Rattle.rn_table.specs.link.Leaves.{Ascending, HasSortedPlaces, numbered}
use Rattle.rn_table.specs.link.Steps.{Step, moved, stepped, step_at, after_step, with_step}
use Rattle.rn_table.proofs.InstanceLemmas.{NoneHas, same_number, other_number, all_get}

-- an element that is read through a list of pointers
pub read_map : {A B : Type 0} (f : A → B) (xs : List A) (i : ℕ) (a : A) → i < length xs → a ≡ get_or xs i a → f a ≡ get_or (map f xs) i (f a)
read_map f [] i a inside is = absurd (omega arith)
read_map f (x ∷ xs) zero a inside is = ap f is
read_map f (x ∷ xs) (suc i) a inside is = read_map f xs i a (omega arith) is

-- where a token is taken that isn't there, nothing changes
pub absent_stays : (s : Step) (vs : List Value) → s.puts ≡ false → (0 < count_of s.value vs → ⊥) → vs ≡ moved s vs
absent_stays s vs takes none = sym (ap (λ b. cond b (with_value s.value vs) (without_one vs s.value)) takes ∙ gone s.value vs none)
  where
    gone : (v : Value) (ws : List Value) → (0 < count_of v ws → ⊥) → without_one ws v ≡ ws
    gone v [] none = refl
    gone v (w ∷ ws) none =
        let first = count_of-cons v w ws in
        elim (same_value v w) as (λ b. same_value v w ≡ b → cond b ws (w ∷ without_one ws v) ≡ w ∷ ws) [
          | true ↦ λ e. absurd (none (let one : one_if (same_value v w) ≡ 1 = ap one_if e in omega (arith, first, one)))
          | false ↦ λ e. ap (λ r. w ∷ r) (gone v ws (λ some. none (omega (arith, first, some))))
        ] refl

-- tokens ascend after a step
with_sorted : (v : Value) (vs : List Value) → IsSorted value_cmp vs → IsSorted value_cmp (with_value v vs)
with_sorted v vs up =
    let same : vs ≡ ordered_values vs = values_by_counts vs (ordered_values vs) up (ordered_values_ascend vs) (λ z. sym (ordered_values_stay vs z)) in
    subst (λ r. IsSorted value_cmp (with_value v r)) (sym same) (ordered_values_ascend (v ∷ vs))

all_without : (P : Value → Type 0) (v : Value) (ws : List Value) → AllByRecursion P ws → AllByRecursion P (without_one ws v)
all_without P v [] all = tt
all_without P v (w ∷ ws) all = elim (same_value v w) as (λ b. AllByRecursion P (cond b ws (w ∷ without_one ws v))) [
  | true ↦ all.1
  | false ↦ (all.0, all_without P v ws all.1)
]

without_ascends : (v : Value) (ws : List Value) → Ascends ws → Ascends (without_one ws v)
without_ascends v [] up = tt
without_ascends v (w ∷ ws) up = elim (same_value v w) as (λ b. Ascends (cond b ws (w ∷ without_one ws v))) [
  | true ↦ up.1
  | false ↦ (all_without (λ u. is_lt (value_cmp u w) ≡ false) v ws up.0, without_ascends v ws up.1)
]

moved_sorted : (s : Step) (vs : List Value) → IsSorted value_cmp vs → IsSorted value_cmp (moved s vs)
moved_sorted s vs up = elim (s.puts) as (λ b. IsSorted value_cmp (cond b (with_value s.value vs) (without_one vs s.value))) [
  | true ↦ with_sorted s.value vs up
  | false ↦ sorted_of (without_one vs s.value) (without_ascends s.value vs (ascends_of vs up))
]

pub stepped_sorted : (s : Step) (vs : List Value) → IsSorted value_cmp vs → IsSorted value_cmp (stepped s vs)
stepped_sorted s vs up = moved_sorted s (cond s.alone [] vs) (elim (s.alone) as (λ b. IsSorted value_cmp (cond b [] vs)) [
  | true ↦ sorted_of [] tt
  | false ↦ up
])

pub step_sorted : (s : Step) (n place : ℕ) (vs : List Value) → IsSorted value_cmp vs → IsSorted value_cmp (step_at s n place vs)
step_sorted s n place vs up = elim (nat_eq n s.inst && nat_eq place s.place) as (λ b. IsSorted value_cmp (cond b (stepped s vs) vs)) [
  | true ↦ stepped_sorted s vs up
  | false ↦ up
]

-- a step at its own place, at others, and at other instances
step_here : (s : Step) (n place : ℕ) (vs : List Value) → n ≡ s.inst → place ≡ s.place → step_at s n place vs ≡ stepped s vs
step_here s n place vs inst at =
    ap (λ b. cond (b && nat_eq place s.place) (stepped s vs) vs) (ap (λ m. nat_eq m s.inst) inst ∙ same_number s.inst) ∙ ap (λ b. cond b (stepped s vs) vs) (ap (λ m. nat_eq m s.place) at ∙ same_number s.place)

step_there : (s : Step) (n place : ℕ) (vs : List Value) → place ≢ s.place → step_at s n place vs ≡ vs
step_there s n place vs differ = ap (λ b. cond (nat_eq n s.inst && b) (stepped s vs) vs) (other_number place s.place differ) ∙ ap (λ b. cond b (stepped s vs) vs) (and-false (nat_eq n s.inst))

step_else : (s : Step) (n place : ℕ) (vs : List Value) → nat_eq n s.inst ≡ false → step_at s n place vs ≡ vs
step_else s n place vs differ = ap (λ b. cond (b && nat_eq place s.place) (stepped s vs) vs) differ

-- the places of an instance
module _ (s : Step) (n : ℕ) where
  abbrev places_from : ℕ → List (List Value) → List (List Value)
  places_from k ps = map (λ p. step_at s n p.0 p.1) (enumerate_from k ps)

  others_stay : (k : ℕ) (ps : List (List Value)) → ((j : ℕ) → j < length ps → k + j ≢ s.place) → places_from k ps ≡ ps
  others_stay k [] differ = refl
  others_stay k (vs ∷ ps) differ =
      ap (λ ws. ws ∷ places_from (k + 1) ps) (step_there s n k vs (λ e. differ 0 (omega arith) (omega (arith, e))))
      ∙ ap (λ r. vs ∷ r) (others_stay (k + 1) ps (λ j inside e. differ (j + 1) (omega (arith, inside)) (omega (arith, e))))

  one_changes : (k : ℕ) (ps : List (List Value)) (i : ℕ) (x y : List Value) → n ≡ s.inst → k + i ≡ s.place → i < length ps → x ≡ get_or ps i x → y ≡ stepped s x → set ps i y ≡ places_from k ps
  one_changes k [] i x y inst at inside x_is y_is = absurd (omega arith)
  one_changes k (vs ∷ ps) zero x y inst at inside x_is y_is =
      ap (λ ws. ws ∷ ps) (y_is ∙ ap (stepped s) x_is ∙ sym (step_here s n k vs inst (omega (arith, at))))
      ∙ ap (λ r. step_at s n k vs ∷ r) (sym (others_stay (k + 1) ps (λ j low e. omega (arith, at, e))))
  one_changes k (vs ∷ ps) (suc i) x y inst at inside x_is y_is =
      ap (λ r. vs ∷ r) (one_changes (k + 1) ps i x y inst (omega (arith, at)) (omega arith) x_is y_is) ∙ ap (λ ws. ws ∷ places_from (k + 1) ps) (sym (step_there s n k vs (λ e. omega (arith, at, e))))

  none_changes : (differ : nat_eq n s.inst ≡ false) (k : ℕ) (ps : List (List Value)) → places_from k ps ≡ ps
  none_changes differ k [] = refl
  none_changes differ k (vs ∷ ps) = ap (λ ws. ws ∷ places_from (k + 1) ps) (step_else s n k vs differ) ∙ ap (λ r. vs ∷ r) (none_changes differ (k + 1) ps)

abbrev pub with_places : Instance → List (List Value) → Instance
with_places i ps = record i { places = ps }

place_set : (s : Step) (i : Instance) (k : ℕ) (x y : List Value) → i.number ≡ s.inst → k ≡ s.place → k < length i.places → x ≡ get_or i.places k x → y ≡ stepped s x → with_places i (set i.places k y) ≡ after_step s i
place_set s i k x y inst at inside x_is y_is = ap (with_places i) (one_changes s i.number 0 i.places k x y inst (omega (arith, at)) inside x_is y_is)

no_place : (s : Step) (i : Instance) → length i.places ≤ s.place → i ≡ after_step s i
no_place s i past = ap (with_places i) (sym (others_stay s i.number 0 i.places (λ j inside e. omega (arith, inside, e, past))))

-- the places after a step, and its instance after it
pub step_of_places : (s : Step) (i : Instance) → i.number ≡ s.inst → with_places i (with_step s s.place i.places) ≡ after_step s i
step_of_places s i inst = elim (cases_lt s.place (length i.places)) [
  | inl within ↦ place_set s i s.place (get_or i.places s.place []) (stepped s (get_or i.places s.place [])) inst refl within (get_or_default i.places s.place [] (get_or i.places s.place []) within) refl
  | inr past ↦ ap (with_places i) (set_past i.places s.place (stepped s (get_or i.places s.place [])) past) ∙ no_place s i past
]

pub other_stays : (s : Step) (i : Instance) → nat_eq i.number s.inst ≡ false → after_step s i ≡ i
other_stays s i differ = ap (with_places i) (none_changes s i.number differ 0 i.places)

-- instances of a page
pub none_stay : (s : Step) (is : List Instance) → NoneHas s.inst is → map (after_step s) is ≡ is
none_stay s [] none = refl
none_stay s (i ∷ is) none = ap (λ j. j ∷ map (after_step s) is) (other_stays s i none.0) ∙ ap (λ r. i ∷ r) (none_stay s is none.1)

all_higher : (n m : ℕ) (is : List Instance) → n ≤ m → AllByRecursion (λ i. m < i.number) is → NoneHas n is
all_higher n m [] low all = tt
all_higher n m (i ∷ is) low all = (other_number i.number n (λ e. omega (arith, e, low, all.0)), all_higher n m is low all.1)

pub one_set : (s : Step) (is : List Instance) (k : ℕ) (x y : Instance) → Ascending is → k < length is → x ≡ get_or is k x → x.number ≡ s.inst → y ≡ after_step s x → set is k y ≡ map (after_step s) is
one_set s [] k x y up inside x_is number y_is = absurd (omega arith)
one_set s (i ∷ is) zero x y up inside x_is number y_is =
    let i_is : i.number ≡ s.inst = ap (λ (j : Instance). j.number) (sym x_is) ∙ number in
    ap (λ j. j ∷ is) (y_is ∙ ap (after_step s) x_is) ∙ ap (λ r. after_step s i ∷ r) (sym (none_stay s is (all_higher s.inst i.number is (omega (arith, i_is)) up.0)))
one_set s (i ∷ is) (suc k) x y up inside x_is number y_is =
    let later : i.number < x.number = all_get (λ j. i.number < j.number) is k x up.0 (omega arith) x_is in
    let other : nat_eq i.number s.inst ≡ false = other_number i.number s.inst (λ e. omega (arith, e, later, number)) in
    ap (λ r. i ∷ r) (one_set s is k x y up.1 (omega arith) x_is number y_is) ∙ ap (λ j. j ∷ map (after_step s) is) (sym (other_stays s i other))

-- what an instance keeps
all_places : (s : Step) (n k : ℕ) (ps : List (List Value)) → AllByRecursion (IsSorted value_cmp) ps → AllByRecursion (IsSorted value_cmp) (map (λ p. step_at s n p.0 p.1) (enumerate_from k ps))
all_places s n k [] all = tt
all_places s n k (vs ∷ ps) all = (step_sorted s n k vs all.0, all_places s n (k + 1) ps all.1)

pub keeps_sorted : (s : Step) (i : Instance) → HasSortedPlaces i → HasSortedPlaces (after_step s i)
keeps_sorted s i all = all_places s i.number 0 i.places all

module _ (s : Step) where
  abbrev f : Instance → Instance
  f = after_step s

  pub all_numbers : (P : ℕ → Type 0) (is : List Instance) → AllByRecursion (λ i. P i.number) is → AllByRecursion (λ i. P i.number) (map f is)
  all_numbers P [] all = tt
  all_numbers P (i ∷ is) all = (all.0, all_numbers P is all.1)

  pub ascending_after : (is : List Instance) → Ascending is → Ascending (map f is)
  ascending_after [] up = tt
  ascending_after (i ∷ is) up = (all_numbers (λ m. i.number < m) is up.0, ascending_after is up.1)

  pub sorted_after : (is : List Instance) → AllByRecursion HasSortedPlaces is → AllByRecursion HasSortedPlaces (map f is)
  sorted_after [] all = tt
  sorted_after (i ∷ is) all = (keeps_sorted s i all.0, sorted_after is all.1)

  found_case : (b : Bool) (i x : Instance) (r : Option Instance) (q : Option Instance) → (r ≡ Some x → q ≡ Some (f x)) → cond b (Some i) r ≡ Some x → cond b (Some (f i)) q ≡ Some (f x)
  found_case true i x r q rest e = let is : i ≡ x = cc in ap (λ j. Some (f j)) is
  found_case false i x r q rest e = rest e

  pub numbered_after : (n : ℕ) (is : List Instance) (x : Instance) → numbered n is ≡ Some x → numbered n (map f is) ≡ Some (f x)
  numbered_after n [] x e = absurd (let no : ⊥ = cc in no)
  numbered_after n (i ∷ is) x e = found_case (nat_eq i.number n) i x (numbered n is) (numbered n (map f is)) (numbered_after n is x) e

  filter_case : (b : Bool) (i : Instance) (r q : List Instance) → r ≡ map f q → cond b (f i ∷ r) r ≡ map f (cond b (i ∷ q) q)
  filter_case true i r q rest = ap (λ z. f i ∷ z) rest
  filter_case false i r q rest = rest

  pub filter_after : (T : ℕ → Bool) (is : List Instance) → filter (λ i. T i.number) (map f is) ≡ map f (filter (λ i. T i.number) is)
  filter_after T [] = refl
  filter_after T (i ∷ is) = filter_case (T i.number) i (filter (λ i. T i.number) (map f is)) (filter (λ i. T i.number) is) (filter_after T is)

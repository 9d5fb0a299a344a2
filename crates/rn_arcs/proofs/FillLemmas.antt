-- The joined numbers are how many tokens a binding puts at each place.
use Rattle.std.proofs.Common.{◌≡◌, ℕ, zero, suc, ◌+◌, ◌<◌, ◌≤◌, Bool, true, false, cond, ◌&&◌}
use Rattle.std.proofs.Common.{List, [], ◌∷◌, ◌++◌, length, map, refl, sym, ap, ◌∙◌, inl, inr}
use Rattle.std.proofs.Common.{◌*◌, ◌^◌, take, get_or, arith}
use Rattle.std.specs.Prelude.{⊤, ◌⊎◌, nat_eq, filter, fold}
use Rattle.std.specs.Option.{option_map_or}
use Rattle.std.specs.Ordering.{is_eq}
use Rattle.std.specs.List.{flat_map, sum_by, AllByRecursion}
use Rattle.std.specs.List.Sorted.{IsPermutation, IsSortedByKey}
use Rattle.std.proofs.lemmas.List.{append-nil, length-append, take_more}
use Rattle.std.proofs.lemmas.List.Elements.{All-contains, All-from_recursion, recursion_from_All}
use Rattle.std.proofs.lemmas.List.Folds.{flat_map-map}
use Rattle.std.proofs.lemmas.List.Sorted.{All-permutation}
use Rattle.std.proofs.lemmas.List.Sums.{sum_by-cons}
use Rattle.rn_value.specs.Order.{inst_cmp}
use Rattle.rn_value.specs.declared.value.InstRef.{InstRef}
use Rattle.rn_value.specs.declared.value.Value.{Value}
use Rattle.rn_model.specs.declared.system.System.{System}
use Rattle.rn_model.specs.declared.system.Transition.{Transition}
use Rattle.rn_model.specs.declared.system.NetArc.{NetArc}
use Rattle.rn_model.specs.declared.binding.Node.{Node}
use Rattle.rn_model.specs.declared.binding.Binding.{Binding}
use Rattle.rn_model.specs.Bindings.{env_of}
use Rattle.rn_model.specs.Demands.{Reading, puts, readings, asked_by_arc, asked_by_node, asked_at}
use Rattle.rn_model.specs.Demands.{awaited_by_node, filled_at}
use Rattle.rn_model.specs.Evaluation.{Env, worth}
use Rattle.rn_model.specs.Systems.{transition_of, puts_awaited}
use Rattle.rn_model.proofs.LengthsByCounts.{ordered_length}
use Rattle.rn_model.proofs.EachElement.{each_append}
use Rattle.rn_arcs.specs.Demanded.{HasFills, fill_place, one_count}
use Rattle.rn_arcs.specs.link.Fillings.{known_count, awaited_count, pours_of, arc_pours, node_pours}
use Rattle.rn_arcs.specs.link.Fillings.{binding_pours, pour_place, fill_of, joined_pour, with_pour}
use Rattle.rn_arcs.specs.link.Fillings.{fills_of}
use Rattle.rn_arcs.specs.link.Joining.{Rising}
use Rattle.rn_arcs.specs.Places.{InstPlace, place_cmp, is_at}
use Rattle.rn_arcs.specs.declared.demands.Fill.{Fill}
use Rattle.rn_arcs.specs.declared.filling.Pour.{Pour}
use Rattle.rn_arcs.proofs.Gathering.{at_place, at_place-append, at_place-one, at_place-flat, nil}
use Rattle.rn_arcs.proofs.JoiningItems.{joined_give}
use Rattle.rn_arcs.proofs.PlaceOrder.{at_both}
use Rattle.rn_arcs.proofs.RisingPlaces.{those_at, one_at, OneAt, joined_rise, rising_is_sorted}

-- so many units
abbrev pub units : ℕ → List ⊤
units zero = []
units (suc n) = tt ∷ units n

length_units : (n : ℕ) → length (units n) ≡ n
length_units zero = refl
length_units (suc n) = ap suc (length_units n)

units_more : (m n : ℕ) → units (m + n) ≡ units m ++ units n
units_more zero n =
    let none : 0 + n ≡ n = omega arith in
    ap units none
units_more (suc m) n =
    let one : suc m + n ≡ suc (m + n) = omega arith in
    ap units one ∙ ap (λ us. tt ∷ us) (units_more m n)

crosswise : (a b c d : ℕ) → (a + b) + (c + d) ≡ (a + c) + (b + d)
crosswise a b c d = omega arith

-- lists of which each is as long as two others
module _ {X A B C : Type 0} (f : X → List A) (g : X → List B) (h : X → List C)
    (each : (x : X) → length (f x) ≡ length (g x) + length (h x)) where
  pub lengths_add : (xs : List X) →
      length (flat_map f xs) ≡ length (flat_map g xs) + length (flat_map h xs)
  lengths_add [] = refl
  lengths_add (x ∷ xs) =
      let gs = length-append (g x) (flat_map g xs) in
      let hs = length-append (h x) (flat_map h xs) in
      length-append (f x) (flat_map f xs)
      ∙ ap (λ n. n + length (flat_map f xs)) (each x)
      ∙ ap (λ n. (length (g x) + length (h x)) + n) (lengths_add xs)
      ∙ crosswise (length (g x)) (length (h x)) (length (flat_map g xs)) (length (flat_map h xs))
      ∙ ap (λ n. n + (length (h x) + length (flat_map h xs))) (sym gs)
      ∙ ap (λ n. length (g x ++ flat_map g xs) + n) (sym hs)

-- those of which it holds, one by one
filtered : {X : Type 0} (p : X → Bool) (xs : List X) →
    filter p xs ≡ flat_map (λ x. cond (p x) (x ∷ []) []) xs
filtered p [] = refl
filtered p (x ∷ xs) = by_answer (p x) (filtered p xs)
  where
    by_answer : (holds : Bool) →
        filter p xs ≡ flat_map (λ x. cond (p x) (x ∷ []) []) xs →
        cond holds (x ∷ filter p xs) (filter p xs)
        ≡ cond holds (x ∷ []) [] ++ flat_map (λ x. cond (p x) (x ∷ []) []) xs
    by_answer true e = ap (λ ys. x ∷ ys) e
    by_answer false e = e

one_more : (n : ℕ) → 1 + n ≡ n + 1
one_more n = omega arith

no_more : (n : ℕ) → 0 + n ≡ n + 0
no_more n = omega arith

some_more : (m n : ℕ) → 0 < m → 0 < m + n
some_more m n low = omega (arith, low)

one_by_one : (a b c : ℕ) → a + (b + c) ≡ (a + b) + c
one_by_one a b c = omega arith

module _ (k : InstPlace) where
  abbrev units_in : List Pour → List ⊤
  units_in = at_place pour_place (λ p. units p.count) k

  pours_counted : (inst : InstRef) (place n : ℕ) →
      length (units_in (pours_of inst place n)) ≡ cond (is_at k (inst, place)) n 0
  pours_counted inst place zero = none (is_at k (inst, place))
    where
      none : (here : Bool) → length (nil ⊤) ≡ cond here 0 0
      none true = refl
      none false = refl
  pours_counted inst place (suc n) =
      ap length (at_place-one pour_place (λ p. units p.count) k
      (record { inst = inst; place = place; count = suc n }))
      ∙ some (is_at k (inst, place))
    where
      some : (here : Bool) → length (cond here (units (suc n)) []) ≡ cond here (suc n) 0
      some true = length_units (suc n)
      some false = refl

  by_tests : {A : Type 0} (inst place awaits : Bool) (vs : List A) (arc : NetArc) →
      cond (inst && place) (cond awaits 1 0) 0 + cond (inst && place) (length vs) 0
      ≡ length (cond inst (cond place vs []) [])
      + length (cond inst (cond (place && awaits) (arc ∷ []) []) [])
  by_tests true true true vs arc = one_more (length vs)
  by_tests true true false vs arc = no_more (length vs)
  by_tests true false awaits vs arc = refl
  by_tests false place awaits vs arc = refl

  abbrev known_by : InstRef → Env → NetArc → List Value
  known_by inst env arc = cond (is_eq (inst_cmp inst k.0)) (asked_by_arc puts env k.1 arc) []

  abbrev awaited_by : InstRef → Transition → NetArc → List NetArc
  awaited_by inst t arc =
      cond (is_eq (inst_cmp inst k.0))
      (cond (nat_eq arc.place k.1 && puts_awaited t arc) (arc ∷ []) []) []

  by_arc : (t : Transition) (env : Env) (inst : InstRef) (arc : NetArc) →
      length (units_in (arc_pours t env inst arc))
      ≡ length (known_by inst env arc) + length (awaited_by inst t arc)
  by_arc t env inst arc =
      let awaited = pours_of inst arc.place (awaited_count t arc) in
      let known = pours_of inst arc.place (known_count env arc) in
      ap length (at_place-append pour_place (λ p. units p.count) k awaited known)
      ∙ length-append (units_in awaited) (units_in known)
      ∙ ap (λ n. n + length (units_in known))
      (pours_counted inst arc.place (awaited_count t arc))
      ∙ ap (λ n. cond (is_at k (inst, arc.place)) (awaited_count t arc) 0 + n)
      (pours_counted inst arc.place (known_count env arc))
      ∙ ap (λ here. cond here (awaited_count t arc) 0 + cond here (known_count env arc) 0)
      (at_both k inst arc.place)
      ∙ by_tests (is_eq (inst_cmp inst k.0)) (nat_eq arc.place k.1) (puts_awaited t arc)
      (option_map_or (puts arc.kind) (worth arc.inscription env) []) arc

  by_inst : {A : Type 0} (inst : Bool) (f : NetArc → List A) (arcs : List NetArc) →
      flat_map (λ arc. cond inst (f arc) []) arcs ≡ cond inst (flat_map f arcs) []
  by_inst true f arcs = refl
  by_inst false f [] = refl
  by_inst false f (arc ∷ arcs) = by_inst false f arcs

  abbrev reading : System → Node → Reading
  reading system node = record { node = node; env = env_of system node }

  by_node : (system : System) (node : Node) →
      length (units_in (node_pours system node))
      ≡ length (asked_by_node puts system k.0 k.1 (reading system node))
      + length (awaited_by_node system k.0 k.1 node)
  by_node system node =
      let t = transition_of system node in
      let env = env_of system node in
      let here = is_eq (inst_cmp node.inst k.0) in
      let awaits = λ (arc : NetArc). nat_eq arc.place k.1 && puts_awaited t arc in
      ap length (at_place-flat pour_place (λ p. units p.count) k (arc_pours t env node.inst) t.arcs)
      ∙ lengths_add (λ arc. units_in (arc_pours t env node.inst arc)) (known_by node.inst env)
      (awaited_by node.inst t) (by_arc t env node.inst) t.arcs
      ∙ ap (λ vs. length vs + length (flat_map (awaited_by node.inst t) t.arcs))
      (by_inst here (asked_by_arc puts env k.1) t.arcs)
      ∙ ap (λ arcs. length (cond here (flat_map (asked_by_arc puts env k.1) t.arcs) [])
      + length arcs)
      (by_inst here (λ arc. cond (awaits arc) (arc ∷ []) []) t.arcs
      ∙ ap (λ arcs. cond here arcs []) (sym (filtered awaits t.arcs)))

  -- all that is put at a place
  pub all_counted : (system : System) (b : Binding) →
      length (units_in (binding_pours system b)) ≡ filled_at system b k.0 k.1
  all_counted system b =
      let asked = asked_by_node puts system k.0 k.1 in
      let awaited = flat_map (awaited_by_node system k.0 k.1) b.nodes in
      ap length (at_place-flat pour_place (λ p. units p.count) k (node_pours system) b.nodes)
      ∙ lengths_add (λ node. units_in (node_pours system node))
      (λ node. asked (reading system node)) (awaited_by_node system k.0 k.1) (by_node system)
      b.nodes
      ∙ ap (λ vs. length vs + length awaited) (sym (flat_map-map asked (reading system) b.nodes))
      ∙ ap (λ n. n + length awaited)
      (sym (ordered_length (asked_at puts system (readings system b) k.0 k.1)))

-- each row counts something
abbrev Counts : List Fill → Type 0
Counts = AllByRecursion (λ f. 0 < f.count)

counts_with : (fs : List Fill) (p : Pour) → Counts fs → 0 < p.count → Counts (with_pour fs p)
counts_with [] p all some = (some, tt)
counts_with (f ∷ []) p all some = by_place (is_at (fill_place f) (pour_place p))
  where
    by_place : (here : Bool) → Counts (cond here (joined_pour p f ∷ []) (f ∷ fill_of p ∷ []))
    by_place true = (some_more f.count p.count all.0, tt)
    by_place false = (all.0, (some, tt))
counts_with (f ∷ g ∷ fs) p all some = (all.0, counts_with (g ∷ fs) p all.1 some)

counts_fold : (fs : List Fill) (ps : List Pour) → Counts fs →
    AllByRecursion (λ p. 0 < p.count) ps → Counts (fold with_pour fs ps)
counts_fold fs [] all some = all
counts_fold fs (p ∷ ps) all some =
    counts_fold (with_pour fs p) ps (counts_with fs p all some.0) some.1

-- the numbers together grow by what is added
pub sum_with : (fs : List Fill) (p : Pour) →
    sum_by (λ f. f.count) (with_pour fs p) ≡ sum_by (λ f. f.count) fs + p.count
sum_with [] p = refl
sum_with (f ∷ []) p = by_place (is_at (fill_place f) (pour_place p))
  where
    by_place : (here : Bool) →
        sum_by (λ f. f.count) (cond here (joined_pour p f ∷ []) (f ∷ fill_of p ∷ []))
        ≡ sum_by (λ f. f.count) (f ∷ []) + p.count
    by_place true = one_by_one 0 f.count p.count
    by_place false = refl
sum_with (f ∷ g ∷ fs) p =
    sum_by-cons (λ f. f.count) f (with_pour (g ∷ fs) p)
    ∙ ap (λ n. f.count + n) (sum_with (g ∷ fs) p)
    ∙ one_by_one f.count (sum_by (λ f. f.count) (g ∷ fs)) p.count
    ∙ ap (λ n. n + p.count) (sym (sum_by-cons (λ f. f.count) f (g ∷ fs)))

-- one more that is put
fold_more : (fs : List Fill) (ps : List Pour) (p : Pour) →
    fold with_pour fs (ps ++ p ∷ []) ≡ with_pour (fold with_pour fs ps) p
fold_more fs [] p = refl
fold_more fs (q ∷ ps) p = fold_more (with_pour fs q) ps p

pub fills_next : (ps : List Pour) (i : ℕ) (p : Pour) (fs now : List Fill) → i < length ps →
    p ≡ get_or ps i p → fs ≡ fills_of (take i ps) → now ≡ with_pour fs p →
    now ≡ fills_of (take (i + 1) ps)
fills_next ps i p fs now low is before put =
    put
    ∙ ap (λ gs. with_pour gs p) before
    ∙ sym (fold_more [] (take i ps) p)
    ∙ ap fills_of (sym (take_more ps i p low ∙ ap (λ q. take i ps ++ q ∷ []) (sym is)))

pub sum_next : (fs now : List Fill) (p : Pour) (i : ℕ) → now ≡ with_pour fs p →
    sum_by (λ f. f.count) fs ≤ i * 18446744073709551616 → p.count < 18446744073709551616 →
    sum_by (λ f. f.count) now ≤ (i + 1) * 18446744073709551616
sum_next fs now p i put before few =
    let all : sum_by (λ f. f.count) now ≡ sum_by (λ f. f.count) fs + p.count =
    ap (sum_by (λ f. f.count)) put ∙ sum_with fs p in
    omega (arith, all, before, few)

-- fewer than 2^64 such numbers add up to less than 2^128
pub sum_fits : (sum i n count : ℕ) → sum ≤ i * 18446744073709551616 → i < n →
    n < 18446744073709551616 → count < 18446744073709551616 → sum + count < 2 ^ 128
sum_fits sum i n count all low few one =
    let within : sum + count < 340282366920938463463374607431768211456 =
    omega (arith, all, low, few, one) in
    within

-- rising rows that each count something, with these numbers
module _ (fs : List Fill) (wanted : InstRef → ℕ → ℕ) (r : Rising fill_place fs) (some : Counts fs)
    (are : (k : InstPlace) →
    length (at_place fill_place (λ f. units f.count) k fs) ≡ wanted k.0 k.1) where
  some_count : (n : ℕ) → 0 < n → n ∷ [] ≡ one_count n
  some_count zero low = absurd (let no : ⊥ = omega (arith, low) in no)
  some_count (suc n) low = refl

  by_places : (k : InstPlace) → (those_at fill_place k fs ≡ []) ⊎ OneAt fill_place k fs →
      map (λ f. f.count) (those_at fill_place k fs) ≡ one_count (wanted k.0 k.1)
  by_places k (inl none) =
      ap (map (λ f. f.count)) none
      ∙ ap one_count (sym (ap (λ gs. length (flat_map (λ f. units f.count) gs)) none)
      ∙ are k)
  by_places k (inr (g, there, is, only)) =
      let count : g.count ≡ wanted k.0 k.1 =
      sym (ap length (append-nil (units g.count)) ∙ length_units g.count)
      ∙ sym (ap (λ gs. length (flat_map (λ f. units f.count) gs)) only) ∙ are k in
      let low : 0 < g.count =
      All-contains (λ f. 0 < f.count) fs g
      (All-from_recursion (λ f. 0 < f.count) fs some) there in
      ap (map (λ f. f.count)) only ∙ some_count g.count low ∙ ap one_count count

  pub has_fills : HasFills fs wanted
  has_fills = record {
    ascending = rising_is_sorted fill_place fs r;
    exact = λ inst place. by_places (inst, place) (one_at fill_place (inst, place) fs r);
  }

-- what is put isn't nothing
each_pours : (inst : InstRef) (place n : ℕ) →
    AllByRecursion (λ p. 0 < p.count) (pours_of inst place n)
each_pours inst place zero = tt
each_pours inst place (suc n) = (omega arith, tt)

all_flat : {X Y : Type 0} (P : Y → Type 0) (f : X → List Y) (xs : List X) →
    ((x : X) → AllByRecursion P (f x)) → AllByRecursion P (flat_map f xs)
all_flat P f [] each = tt
all_flat P f (x ∷ xs) each = each_append P (f x) (flat_map f xs) (each x) (all_flat P f xs each)

all_pour : (system : System) (b : Binding) →
    AllByRecursion (λ p. 0 < p.count) (binding_pours system b)
all_pour system b =
    all_flat (λ p. 0 < p.count) (node_pours system) b.nodes
    (λ node. all_flat (λ p. 0 < p.count)
    (arc_pours (transition_of system node) (env_of system node) node.inst)
    (transition_of system node).arcs
    (λ arc. each_append (λ p. 0 < p.count)
    (pours_of node.inst arc.place (awaited_count (transition_of system node) arc))
    (pours_of node.inst arc.place (known_count (env_of system node) arc))
    (each_pours node.inst arc.place (awaited_count (transition_of system node) arc))
    (each_pours node.inst arc.place (known_count (env_of system node) arc))))

pub fills_rise : (sorted : List Pour) → IsSortedByKey pour_place place_cmp sorted →
    Rising fill_place (fills_of sorted)
fills_rise sorted up =
    joined_rise fill_place pour_place fill_of joined_pour (λ p. refl) (λ p f. refl) sorted up

-- the joined rows of what a binding puts, in order, are those that it fills
pub fills_are : (system : System) (b : Binding) (sorted : List Pour) →
    IsSortedByKey pour_place place_cmp sorted →
    ((k : InstPlace) → filter (λ p. is_at k (pour_place p)) sorted
    ≡ filter (λ p. is_at k (pour_place p)) (binding_pours system b)) →
    IsPermutation (binding_pours system b) sorted →
    HasFills (fills_of sorted) (filled_at system b)
fills_are system b sorted up stable same =
    let some : AllByRecursion (λ p. 0 < p.count) sorted =
    recursion_from_All (λ p. 0 < p.count) sorted
    (All-permutation (λ p. 0 < p.count) (binding_pours system b) sorted same
    (All-from_recursion (λ p. 0 < p.count) (binding_pours system b) (all_pour system b))) in
    has_fills (fills_of sorted) (filled_at system b)
    (fills_rise sorted up)
    (counts_fold [] sorted tt some)
    (λ k. ap length (joined_give fill_place pour_place fill_of joined_pour
    (λ f. units f.count) (λ p. units p.count) (λ p. refl) (λ p f. refl) (λ p. refl)
    (λ p f. units_more f.count p.count) k [] sorted
    ∙ ap (flat_map (λ p. units p.count)) (stable k))
    ∙ all_counted k system b)

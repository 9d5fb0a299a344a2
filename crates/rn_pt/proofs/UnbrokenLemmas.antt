-- What is so in a net in which nothing is broken: its numbers fit.
use Rattle.std.proofs.Common.{◌≡◌, ℕ, zero, suc, ◌+◌, ◌<◌, ◌≤◌, Bool, true, false, cond, ◌&&◌, List, [], ◌∷◌, ◌++◌}
use Rattle.std.proofs.Common.{length, map, refl, sym, Option, Some, None, arith}
use Rattle.std.proofs.lemmas.Bool.{leb-true, false≢true}
use Rattle.std.proofs.lemmas.List.{length-map}
use Rattle.std.specs.Prelude.{flat_map, slice_index_or, not, is_none, int_le, pos, negsuc, nat_abs, ℤ}
use Rattle.rn_notation.specs.declared.token.Spot.{Spot}
use Rattle.rn_reading.specs.declared.named.Named.{Named}
use Rattle.rn_reading.specs.declared.named.Numeral.{Numeral}
use Rattle.rn_model.specs.Limits.{most_places, most_transitions}
use Rattle.rn_weighted.specs.Limits.{most_arcs, greatest_weight}
use Rattle.rn_pt.specs.declared.plain.PtArc.{PtArc}
use Rattle.rn_pt.specs.declared.plain.PtTransition.{PtTransition}
use Rattle.rn_pt.specs.declared.plain.PtNet.{PtNet}
use Rattle.rn_pt.specs.declared.fault.Rule.{Rule}
use Rattle.rn_pt.specs.declared.fault.Rule.TheVariants as TheRule
use Rattle.rn_pt.specs.Faults.{broken_if, past_limit}
use Rattle.rn_pt.specs.Meaning.{amount, number_or_first}
use Rattle.rn_pt.specs.Rules.{same_name, number_from, number_among, names_broken, declared_broken}
use Rattle.rn_pt.specs.Rules.{amount_broken, place_broken, arc_broken, transition_broken, place_names, net_broken}

pub none_before : {A : Type 0} (a b : List A) → a ++ b ≡ [] → a ≡ []
none_before [] b e = refl
none_before (x ∷ a) b e = absurd (let no : ⊥ = let h = e in cc in no)

pub none_after : {A : Type 0} (a b : List A) → a ++ b ≡ [] → b ≡ []
none_after [] b e = e
none_after (x ∷ a) b e = absurd (let no : ⊥ = let h = e in cc in no)

-- where nothing is broken in all, nothing is in each
pub each_unbroken : {X A : Type 0} (f : X → List A) (xs : List X) (k : ℕ) (d : X) →
    flat_map f xs ≡ [] → k < length xs → f (slice_index_or xs k d) ≡ []
each_unbroken f [] k d is h = absurd (let no : ⊥ = omega (arith, h) in no)
each_unbroken f (x ∷ xs) zero d is h = none_before (f x) (flat_map f xs) is
each_unbroken f (x ∷ xs) (suc k) d is h =
    each_unbroken f xs k d (none_after (f x) (flat_map f xs) is) (omega (arith, h))

pub not_broken : (b : Bool) (rule : Rule) (spot : Spot) → broken_if b rule spot ≡ [] → b ≡ false
not_broken false rule spot e = refl
not_broken true rule spot e = absurd (let no : ⊥ = let h = e in cc in no)

both-true : (a b : Bool) → not (a && b) ≡ false → (a ≡ true) × (b ≡ true)
both-true true true e = (refl, refl)
both-true true false e = absurd (false≢true (sym e))
both-true false b e = absurd (false≢true (sym e))

-- a number that isn't broken lies between its bounds
pub value_within : (least most : ℕ) (v : ℤ) →
    not (int_le (pos least) v && int_le v (pos most)) ≡ false →
    (least ≤ nat_abs v) × (nat_abs v ≤ most)
value_within least most (pos n) e =
    let both = both-true (int_le (pos least) (pos n)) (int_le (pos n) (pos most)) e in
    (leb-true least n both.0, leb-true n most both.1)
value_within least most (negsuc n) e =
    absurd (false≢true (both-true (int_le (pos least) (negsuc n)) (int_le (negsuc n) (pos most)) e).0)

pub amount_within : (least most absent : ℕ) (number : Option Numeral) → least ≤ absent → absent ≤ most →
    amount_broken least most number ≡ [] →
    (least ≤ amount absent number) × (amount absent number ≤ most)
amount_within least most absent None low high e = (low, high)
amount_within least most absent (Some n) low high e =
    value_within least most n.value (not_broken _ TheRule.Amount n.spot e)

-- names are no more than their limit
pub not_past : (most : ℕ) (spots : List Spot) → past_limit most spots ≡ [] → length spots ≤ most
not_past most [] e = omega arith
not_past zero (s ∷ spots) e = absurd (let no : ⊥ = let h = e in cc in no)
not_past (suc most) (s ∷ spots) e = omega (arith, not_past most spots e)

pub declared_few : (most : ℕ) (names : List Named) → declared_broken most names ≡ [] → length names ≤ most
declared_few most names e =
    omega (
      arith,
      not_past most (map (λ name. name.spot) names)
          (none_after (names_broken [] names) (past_limit most (map (λ name. name.spot) names)) e),
      length-map names (λ name. name.spot),
    )

-- a declared name has a number below how many there are, and another the number 0
pub number_bound : (n : ℕ) (names : List (List ℕ)) (name : List ℕ) →
    number_or_first (number_from n names name) ≤ n + length names
number_bound n [] name = omega arith
number_bound n (x ∷ names) name = by (same_name x name) (number_bound (n + 1) names name)
  where
    by : (b : Bool) → number_or_first (number_from (n + 1) names name) ≤ n + 1 + length names →
        number_or_first (cond b (Some n) (number_from (n + 1) names name)) ≤ n + length (x ∷ names)
    by true h = omega arith
    by false h = omega (arith, h)

pub number_under : (n : ℕ) (names : List (List ℕ)) (name : List ℕ) →
    is_none (number_from n names name) ≡ false →
    number_or_first (number_from n names name) < n + length names
number_under n [] name e = absurd (false≢true (sym e))
number_under n (x ∷ names) name e = by (same_name x name) (number_under (n + 1) names name) e
  where
    by : (b : Bool) → (is_none (number_from (n + 1) names name) ≡ false →
        number_or_first (number_from (n + 1) names name) < n + 1 + length names) →
        is_none (cond b (Some n) (number_from (n + 1) names name)) ≡ false →
        number_or_first (cond b (Some n) (number_from (n + 1) names name)) < n + length (x ∷ names)
    by true h e = omega arith
    by false h e = omega (arith, h e)

-- the parts of a net in which nothing is broken
pub record Unbroken (net : PtNet) : Type 0 where
  pub places : declared_broken most_places (map (λ place. place.name) net.places) ≡ []
  pub initials : flat_map place_broken net.places ≡ []
  pub transitions : declared_broken most_transitions (map (λ t. t.name) net.transitions) ≡ []
  pub arcs : flat_map (transition_broken (place_names net)) net.transitions ≡ []

pub unbroken_parts : (net : PtNet) → net_broken net ≡ [] → Unbroken net
unbroken_parts net e =
    let a = declared_broken most_places (map (λ place. place.name) net.places) in
    let b = flat_map place_broken net.places in
    let c = declared_broken most_transitions (map (λ t. t.name) net.transitions) in
    let d = flat_map (transition_broken (place_names net)) net.transitions in
    let front = none_before (a ++ b ++ c) d e in
    let start = none_before (a ++ b) c front in
    record {
      places = none_before a b start;
      initials = none_after a b start;
      transitions = none_after (a ++ b) c front;
      arcs = none_after (a ++ b ++ c) d e;
    }

pub few_places : (net : PtNet) → net_broken net ≡ [] → length net.places ≤ most_places
few_places net e =
    omega (
      arith,
      declared_few most_places (map (λ place. place.name) net.places) (unbroken_parts net e).places,
      length-map net.places (λ place. place.name),
    )

pub few_transitions : (net : PtNet) → net_broken net ≡ [] → length net.transitions ≤ most_transitions
few_transitions net e =
    omega (
      arith,
      declared_few most_transitions (map (λ t. t.name) net.transitions) (unbroken_parts net e).transitions,
      length-map net.transitions (λ t. t.name),
    )

-- the numbers of the places fit
pub numbers_fit : (net : PtNet) → net_broken net ≡ [] → (name : List ℕ) →
    number_or_first (number_among (place_names net) name) ≤ most_places
numbers_fit net e name =
    omega (
      arith,
      number_bound 0 (place_names net) name,
      few_places net e,
      length-map net.places (λ place. place.name.text),
    )

-- an arc of a net in which nothing is broken
pub arc_unbroken : (net : PtNet) → net_broken net ≡ [] → (k : ℕ) (d : PtTransition) →
    k < length net.transitions → (j : ℕ) (e : PtArc) →
    j < length (slice_index_or net.transitions k d).arcs →
    arc_broken (place_names net) (slice_index_or (slice_index_or net.transitions k d).arcs j e) ≡ []
arc_unbroken net is k d h j e i =
    let t = slice_index_or net.transitions k d in
    let whole = each_unbroken (transition_broken (place_names net)) net.transitions k d (unbroken_parts net is).arcs h in
    each_unbroken (arc_broken (place_names net)) t.arcs j e
    (none_before (flat_map (arc_broken (place_names net)) t.arcs) (past_limit most_arcs (map (λ (arc : PtArc). arc.word.spot) t.arcs)) whole)
    i

pub weight_within : (names : List (List ℕ)) (arc : PtArc) → arc_broken names arc ≡ [] →
    (1 ≤ amount 1 arc.weight) × (amount 1 arc.weight ≤ greatest_weight)
weight_within names arc e =
    amount_within 1 greatest_weight 1 arc.weight (omega arith) (omega arith)
    (none_after (broken_if (is_none (number_among names arc.place.text)) TheRule.Known arc.place.spot)
    (amount_broken 1 greatest_weight arc.weight) e)

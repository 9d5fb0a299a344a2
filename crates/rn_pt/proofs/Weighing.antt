-- A net that a text says, and in which nothing is broken, is as a weighted net has to be.
use Rattle.std.proofs.Common.{◌≡◌, ◌≢◌, ℕ, zero, suc, ◌<◌, ◌≤◌, inl, inr, Bool, true, false, ◌||◌, List, [], ◌∷◌, ◌++◌, length, map, refl, sym, ◌∙◌, ap, subst, arith}
use Rattle.std.specs.Prelude.{AllPairs, not, nat_le, is_none, slice_index_or, Result, Ok, Err, IfOk}
use Rattle.std.specs.List.{list_any, flat_map}
use Rattle.std.specs.Cmp.Lexicographic.{bytes_decides}
use Rattle.std.proofs.lemmas.Bool.{leb-true, false≢true, not-false}
use Rattle.std.proofs.lemmas.List.{length-map}
use Rattle.std.proofs.lemmas.List.Elements.{All-map}
use Rattle.std.proofs.lemmas.List.Kept.{AllPairs-cons}
use Rattle.rn_notation.specs.declared.token.Lexed.{Lexed}
use Rattle.rn_model.specs.Limits.{longest_name, most_places, most_transitions, most_initial}
use Rattle.rn_weighted.specs.Limits.{most_arcs}
use Rattle.rn_weighted.specs.Weighted.{IsWeighted, IsWPlace, IsWTransition, IsWArc}
use Rattle.rn_weighted.specs.declared.weighted.Weighted.{Weighted}
use Rattle.rn_reading.specs.declared.named.Named.{Named}
use Rattle.rn_pt.specs.declared.plain.PtArc.{PtArc}
use Rattle.rn_pt.specs.declared.plain.PtPlace.{PtPlace}
use Rattle.rn_pt.specs.declared.plain.PtTransition.{PtTransition}
use Rattle.rn_pt.specs.declared.plain.PtNet.{PtNet}
use Rattle.rn_pt.specs.declared.fault.PtFault.{PtFault}
use Rattle.rn_pt.specs.declared.fault.Rule.TheVariants as TheRule
use Rattle.rn_pt.specs.Grammar.{inhibits}
use Rattle.rn_pt.specs.Faults.{broken_if, past_limit}
use Rattle.rn_pt.specs.Rules.{same_name, number_among, name_broken, names_broken, place_names, net_broken, arc_broken, transition_broken, place_broken, amount_broken}
use Rattle.rn_pt.specs.Meaning.{amount, wplace_of, warc_of, wtransition_of, weighted_of}
use Rattle.rn_pt.specs.link.Answers.{Comes}
use Rattle.rn_pt.proofs.UnbrokenLemmas.{none_before, none_after, each_unbroken, not_broken, amount_within, not_past, number_under, unbroken_parts, few_places, few_transitions, weight_within}
use Rattle.rn_pt.proofs.Said.{each_at, Names, PlaceIs, TransitionIs, ArcIs, NetIs, net_kept}

-- names of which nothing is broken are short
short : {X : Type 0} (f : X → Named) (before : List (List ℕ)) (xs : List X) (k : ℕ) (d : X) → names_broken before (map f xs) ≡ [] → k < length xs → length (f (slice_index_or xs k d)).text ≤ longest_name
short f before [] k d e h = absurd (let no : ⊥ = omega (arith, h) in no)
short f before (x ∷ xs) zero d e h =
    let own = none_before (name_broken before (f x)) (names_broken (before ++ (f x).text ∷ []) (map f xs)) e in
    let first = none_before (broken_if (not (nat_le (length (f x).text) longest_name)) TheRule.Limit (f x).spot) (broken_if (list_any (λ declared. same_name declared (f x).text) before) TheRule.Once (f x).spot) own in
    leb-true (length (f x).text) longest_name (not-false (nat_le (length (f x).text) longest_name) (not_broken (not (nat_le (length (f x).text) longest_name)) TheRule.Limit (f x).spot first))
short f before (x ∷ xs) (suc k) d e h =
    short f (before ++ (f x).text ∷ []) xs k d (none_after (name_broken before (f x)) (names_broken (before ++ (f x).text ∷ []) (map f xs)) e) (omega (arith, h))

among-front : (name : List ℕ) (a b : List (List ℕ)) → list_any (λ declared. same_name declared name) a ≡ true → list_any (λ declared. same_name declared name) (a ++ b) ≡ true
among-front name [] b e = absurd (false≢true e)
among-front name (x ∷ a) b e = by (same_name x name) (among-front name a b) e
  where
    by : (c : Bool) → (list_any (λ declared. same_name declared name) a ≡ true → list_any (λ declared. same_name declared name) (a ++ b) ≡ true) →
        (c || list_any (λ declared. same_name declared name) a) ≡ true → (c || list_any (λ declared. same_name declared name) (a ++ b)) ≡ true
    by true more e = refl
    by false more e = more e

among-last : (name : List ℕ) (a : List (List ℕ)) → list_any (λ declared. same_name declared name) (a ++ name ∷ []) ≡ true
among-last name [] = ap (λ c. c || false) ((bytes_decides name name).1 refl)
among-last name (x ∷ a) = by (same_name x name) (among-last name a)
  where
    by : (c : Bool) → list_any (λ declared. same_name declared name) (a ++ name ∷ []) ≡ true → (c || list_any (λ declared. same_name declared name) (a ++ name ∷ [])) ≡ true
    by true last = refl
    by false last = last

-- a name among these is none of those that are declared after them, where nothing is broken
differs : {X : Type 0} (f : X → Named) (before : List (List ℕ)) (xs : List X) (k : ℕ) (d : X) (name : List ℕ) → names_broken before (map f xs) ≡ [] → k < length xs →
    list_any (λ declared. same_name declared name) before ≡ true → name ≢ (f (slice_index_or xs k d)).text
differs f before [] k d name e h there = absurd (let no : ⊥ = omega (arith, h) in no)
differs f before (x ∷ xs) zero d name e h there = λ same.
    let own = none_before (name_broken before (f x)) (names_broken (before ++ (f x).text ∷ []) (map f xs)) e in
    let second = none_after (broken_if (not (nat_le (length (f x).text) longest_name)) TheRule.Limit (f x).spot) (broken_if (list_any (λ declared. same_name declared (f x).text) before) TheRule.Once (f x).spot) own in
    let new = not_broken (list_any (λ declared. same_name declared (f x).text) before) TheRule.Once (f x).spot second in
    false≢true (sym new ∙ subst (λ n. list_any (λ declared. same_name declared n) before ≡ true) same there)
differs f before (x ∷ xs) (suc k) d name e h there =
    differs f (before ++ (f x).text ∷ []) xs k d name (none_after (name_broken before (f x)) (names_broken (before ++ (f x).text ∷ []) (map f xs)) e) (omega (arith, h)) (among-front name before ((f x).text ∷ []) there)

-- declared names differ
distinct : {X Y : Type 0} (f : X → Named) (g : X → Y) (n : Y → List ℕ) → ((x : X) → n (g x) ≡ (f x).text) → (before : List (List ℕ)) (xs : List X) → names_broken before (map f xs) ≡ [] → AllPairs (λ p q. n p ≢ n q) (map g xs)
distinct f g n is before [] e = λ i j d less inside. absurd (let no : ⊥ = omega (arith, less, inside) in no)
distinct f g n is before (x ∷ xs) e =
    let later = none_after (name_broken before (f x)) (names_broken (before ++ (f x).text ∷ []) (map f xs)) e in
    AllPairs-cons (λ p q. n p ≢ n q) (g x) (map g xs)
    (All-map (λ q. n (g x) ≢ n q) g xs (λ k d h same.
    differs f (before ++ (f x).text ∷ []) xs k d (f x).text later h (among-last (f x).text before) (sym (is x) ∙ same ∙ is (slice_index_or xs k d))))
    (distinct f g n is (before ++ (f x).text ∷ []) xs later)

arc-weighted : (plain : PtNet) (count : ℕ) (arc : PtArc) → count ≡ length plain.places → arc_broken (place_names plain) arc ≡ [] → ArcIs arc → IsWArc count (warc_of (place_names plain) arc)
arc-weighted plain count arc is e said =
    let known = not_broken (is_none (number_among (place_names plain) arc.place.text)) TheRule.Known arc.place.spot
    (none_before (broken_if (is_none (number_among (place_names plain) arc.place.text)) TheRule.Known arc.place.spot) (amount_broken 1 1000 arc.weight) e) in
    let under = number_under 0 (place_names plain) arc.place.text known in
    let fits = weight_within (place_names plain) arc e in
    let same = length-map plain.places (λ place. place.name.text) in
    record {
      kind = said.0;
      place = omega (arith, under, same, is);
      some = fits.0;
      bounded = fits.1;
      inhibits = λ k. ap (amount 1) (said.1 (ap inhibits k));
    }

place-weighted : (place : PtPlace) → PlaceIs place → length place.name.text ≤ longest_name → place_broken place ≡ [] → IsWPlace (wplace_of place)
place-weighted place name few e = record {
  name = (name, few);
  tokens = (amount_within 0 most_initial 0 place.initial (omega arith) (omega arith) e).1;
}

transition-weighted : (plain : PtNet) (count : ℕ) (t : PtTransition) → count ≡ length plain.places → transition_broken (place_names plain) t ≡ [] → TransitionIs t → length t.name.text ≤ longest_name → IsWTransition count (wtransition_of (place_names plain) t)
transition-weighted plain count t is e said few =
    let spots = map (λ (arc : PtArc). arc.word.spot) t.arcs in
    let past = not_past most_arcs spots (none_after (flat_map (arc_broken (place_names plain)) t.arcs) (past_limit most_arcs spots) e) in
    let a = length-map t.arcs (λ (arc : PtArc). arc.word.spot) in
    let b = length-map t.arcs (warc_of (place_names plain)) in
    record {
      name = (said.0, few);
      arcs = All-map (IsWArc count) (warc_of (place_names plain)) t.arcs (λ j d h.
          arc-weighted plain count (slice_index_or t.arcs j d) is
          (each_unbroken (arc_broken (place_names plain)) t.arcs j d (none_before (flat_map (arc_broken (place_names plain)) t.arcs) (past_limit most_arcs spots) e) h)
          (each_at ArcIs t.arcs j d said.1 h));
      few = omega (arith, past, a, b);
    }

pub is_weighted : (plain : PtNet) → NetIs plain → net_broken plain ≡ [] → IsWeighted (weighted_of plain)
is_weighted plain said e =
    let parts = unbroken_parts plain e in
    let places = map (λ (place : PtPlace). place.name) plain.places in
    let transitions = map (λ (t : PtTransition). t.name) plain.transitions in
    let of_places = none_before (names_broken [] places) (past_limit most_places (map (λ (name : Named). name.spot) places)) parts.places in
    let of_transitions = none_before (names_broken [] transitions) (past_limit most_transitions (map (λ (name : Named). name.spot) transitions)) parts.transitions in
    let count = length-map plain.places wplace_of in
    let few_p = few_places plain e in
    let few_t = few_transitions plain e in
    let many = length-map plain.transitions (wtransition_of (place_names plain)) in
    record {
      places = All-map IsWPlace wplace_of plain.places (λ k d h.
          place-weighted (slice_index_or plain.places k d) (each_at PlaceIs plain.places k d said.0 h)
          (short (λ (place : PtPlace). place.name) [] plain.places k d of_places h)
          (each_unbroken place_broken plain.places k d parts.initials h));
      transitions = All-map (IsWTransition (length (map wplace_of plain.places))) (wtransition_of (place_names plain)) plain.transitions (λ k d h.
          transition-weighted plain (length (map wplace_of plain.places)) (slice_index_or plain.transitions k d) count
          (each_unbroken (transition_broken (place_names plain)) plain.transitions k d parts.arcs h)
          (each_at TransitionIs plain.transitions k d said.1 h)
          (short (λ (t : PtTransition). t.name) [] plain.transitions k d of_transitions h));
      places_distinct = distinct (λ (place : PtPlace). place.name) wplace_of (λ p. p.name) (λ x. refl) [] plain.places of_places;
      transitions_distinct = distinct (λ (t : PtTransition). t.name) (wtransition_of (place_names plain)) (λ t. t.name) (λ x. refl) [] plain.transitions of_transitions;
      few_places = omega (arith, count, few_p);
      few_transitions = omega (arith, many, few_t);
    }

-- a net that was read is as it has to be
pub settled_weighted : (lexed : Lexed) (r : Result Weighted PtFault) → Names lexed.tokens → Comes lexed r → IfOk r (λ net. IsWeighted net)
settled_weighted lexed (Ok net) names (inl x) = subst IsWeighted (sym x.2.1) (is_weighted x.0 (net_kept lexed.tokens x.0 [] names x.1.whole).0 x.2.0)
settled_weighted lexed (Ok net) names (inr x) = absurd (let no : ⊥ = let e = x.2 in cc in no)
settled_weighted lexed (Err why) names x = tt

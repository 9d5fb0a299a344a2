-- The lines of the live instances, in order, are the live part.
use Rattle.std.proofs.Common.{◌≡◌, ℕ, zero, suc, ◌+◌, ◌<◌, ◌≤◌, ◌^◌, List, [], ◌∷◌, ◌++◌, length}
use Rattle.std.proofs.Common.{refl, sym, ap, ◌∙◌, subst, inl, inr, arith}
use Rattle.std.specs.Prelude.{◌↔◌, Option, Some, None, ◌≢◌, Contains, flat_map, slice_get, take, unwrap_or}
use Rattle.std.specs.List.{AllByRecursion}
use Rattle.std.specs.Option.{option_map_or}
use Rattle.std.specs.List.Sorted.{IsStrictlyIncreasing}
use Rattle.std.proofs.lemmas.List.{append-nil, append_assoc}
use Rattle.std.proofs.lemmas.List.Elements.{All-from_recursion}
use Rattle.std.proofs.lemmas.List.Elements.{Contains-append_left, Contains-append_right}
use Rattle.rn_value.specs.declared.value.Value.{Value}
use Rattle.rn_model.specs.declared.system.System.{System}
use Rattle.rn_model.specs.declared.log.MarkLine.{MarkLine}
use Rattle.rn_model.specs.Markings.{Marking, Instance, instance_at, net_of, tokens_at}
use Rattle.rn_model.specs.Liveness.{IsLive, ComesBefore, IsMarkOf, LivePart}
use Rattle.rn_model.proofs.EachElement.{each_append, each_weaker}
use Rattle.rn_model.proofs.EnablingLemmas.{not_in_nil}
use Rattle.rn_model.proofs.LiveBindings.{live_is_there}
use Rattle.rn_model.proofs.MarkingsStay.{Increases, from_strict}
use Rattle.rn_model.proofs.LivePartIsThere.{Ascend, ascend_joined, to_adjacent, below_later}
use Rattle.rn_live.specs.link.Marks.{places_of}
use Rattle.rn_live.proofs.HolderLemmas.{tokens_are}
use Rattle.rn_end_marking.specs.link.Lines.{line_of, lines_from, lines_at}

-- Of one instance.
module _ (n net : ℕ) where
  abbrev IsFrom : ℕ → MarkLine → Type 0
  IsFrom k line = (line.inst ≡ n) × (k ≤ line.place)

  line_is_from : (k : ℕ) (vs : List Value) → AllByRecursion (IsFrom k) (line_of n net k vs)
  line_is_from k [] = tt
  line_is_from k (v ∷ vs) = ((refl, omega arith), tt)

  lines_are_from : (k : ℕ) (places : List (List Value)) →
      AllByRecursion (IsFrom k) (lines_from n net k places)
  lines_are_from k [] = tt
  lines_are_from k (vs ∷ places) =
      each_append (IsFrom k) (line_of n net k vs) (lines_from n net (k + 1) places)
      (line_is_from k vs)
      (each_weaker (IsFrom (k + 1)) (IsFrom k) (λ line from. (from.0, omega (arith, from.1)))
      (lines_from n net (k + 1) places) (lines_are_from (k + 1) places))

  line_before : (k : ℕ) (vs : List Value) (lines : List MarkLine) →
      AllByRecursion (IsFrom (k + 1)) lines →
      AllByRecursion (λ x. AllByRecursion (ComesBefore x) lines) (line_of n net k vs)
  line_before k [] lines from = tt
  line_before k (v ∷ vs) lines from =
      let line : MarkLine = record { inst = n; net = net; place = k; values = v ∷ vs } in (
        each_weaker (IsFrom (k + 1)) (ComesBefore line)
            (λ later from. inr (sym from.0, omega (arith, from.1))) lines from,
        tt,
      )

  line_ascends : (k : ℕ) (vs : List Value) → Ascend (line_of n net k vs)
  line_ascends k [] = tt
  line_ascends k (v ∷ vs) = (tt, tt)

  lines_ascend : (k : ℕ) (places : List (List Value)) → Ascend (lines_from n net k places)
  lines_ascend k [] = tt
  lines_ascend k (vs ∷ places) =
      ascend_joined (line_of n net k vs) (lines_from n net (k + 1) places) (line_ascends k vs)
      (lines_ascend (k + 1) places)
      (line_before k vs (lines_from n net (k + 1) places) (lines_are_from (k + 1) places))

  abbrev HasLine : ℕ → List MarkLine → Type 0
  HasLine place lines =
      (line : MarkLine) × Contains lines line × (line.inst ≡ n) × (line.place ≡ place)

  has_line : (k : ℕ) (places : List (List Value)) (j : ℕ) (v : Value) (vs : List Value) →
      slice_get places j ≡ Some (v ∷ vs) → HasLine (k + j) (lines_from n net k places)
  has_line k [] j v vs at = absurd (let no : ⊥ = cc in no)
  has_line k (ws ∷ places) zero v vs at =
      let same : ws ≡ v ∷ vs = cc in
      let here : k ≡ k + 0 = omega arith in
      let line : MarkLine = record { inst = n; net = net; place = k; values = v ∷ vs } in
      subst (λ ws. HasLine (k + 0) (lines_from n net k (ws ∷ places))) (sym same)
      (line, (0, omega arith, refl), refl, here)
  has_line k (ws ∷ places) (suc j) v vs at =
      let found = has_line (k + 1) places j v vs at in
      let place : (k + 1) + j ≡ k + suc j = omega arith in (
        found.0,
        Contains-append_right (line_of n net k ws) (lines_from n net (k + 1) places) found.0
            found.1,
        found.2,
        found.3 ∙ place,
      )

  -- one place more
  pub one_more : (k place : ℕ) (places : List (List Value)) (vs : List Value) →
      slice_get places place ≡ Some vs →
      lines_from n net k (take (place + 1) places)
      ≡ lines_from n net k (take place places) ++ line_of n net (k + place) vs
  one_more k place [] vs at = absurd (let no : ⊥ = cc in no)
  one_more k zero (ws ∷ places) vs at =
      let same : ws ≡ vs = cc in
      let here : k ≡ k + 0 = omega arith in
      append-nil (line_of n net k ws) ∙ ap (line_of n net k) same
      ∙ ap (λ j. line_of n net j vs) here
  one_more k (suc place) (ws ∷ places) vs at =
      let next : suc place + 1 ≡ suc (place + 1) = omega arith in
      let there : (k + 1) + place ≡ k + suc place = omega arith in
      ap (λ i. lines_from n net k (take i (ws ∷ places))) next
      ∙ ap (λ lines. line_of n net k ws ++ lines) (one_more (k + 1) place places vs at)
      ∙ sym (append_assoc (line_of n net k ws) (lines_from n net (k + 1) (take place places))
      (line_of n net ((k + 1) + place) vs))
      ∙ ap (λ j. lines_from n net k (ws ∷ take place places) ++ line_of n net j vs) there

-- Of a marking.
module _ (m : Marking) where
  abbrev IsOf : ℕ → MarkLine → Type 0
  IsOf n line = line.inst ≡ n

  are_of : (n : ℕ) → AllByRecursion (IsOf n) (lines_at m n)
  are_of n = by (net_of m n)
    where
      by : (o : Option ℕ) → AllByRecursion (IsOf n)
          (option_map_or (λ net. lines_from n net 0 (places_of m n)) o [])
      by None = tt
      by (Some net) =
          each_weaker (IsFrom n net 0) (IsOf n) (λ line from. from.0)
          (lines_from n net 0 (places_of m n)) (lines_are_from n net 0 (places_of m n))

  at_ascend : (n : ℕ) → Ascend (lines_at m n)
  at_ascend n = by (net_of m n)
    where
      by : (o : Option ℕ) →
          Ascend (option_map_or (λ net. lines_from n net 0 (places_of m n)) o [])
      by None = tt
      by (Some net) = lines_ascend n net 0 (places_of m n)

  abbrev IsAbove : ℕ → MarkLine → Type 0
  IsAbove n line = n < line.inst

  all_above : (n : ℕ) (ns : List ℕ) → AllByRecursion (λ k. n < k) ns →
      AllByRecursion (IsAbove n) (flat_map (lines_at m) ns)
  all_above n [] above = tt
  all_above n (k ∷ ns) above =
      each_append (IsAbove n) (lines_at m k) (flat_map (lines_at m) ns)
      (each_weaker (IsOf k) (IsAbove n)
      (λ line of. let low = above.0 in omega (arith, of, low)) (lines_at m k) (are_of k))
      (all_above n ns above.1)

  all_ascend : (ns : List ℕ) → Increases ns → Ascend (flat_map (lines_at m) ns)
  all_ascend [] a = tt
  all_ascend (n ∷ ns) a =
      let later = flat_map (lines_at m) ns in
      ascend_joined (lines_at m n) later (at_ascend n) (all_ascend ns a.1)
      (each_weaker (IsOf n) (λ x. AllByRecursion (ComesBefore x) later)
      (λ x of.
      each_weaker (IsAbove n) (ComesBefore x) (λ y above. inl (omega (arith, above, of))) later
      (all_above n ns (below_later n ns a))) (lines_at m n) (are_of n))

among : (m : Marking) (ns : List ℕ) (n : ℕ) (line : MarkLine) → Contains ns n →
    Contains (lines_at m n) line → Contains (flat_map (lines_at m) ns) line
among m [] n line there has = absurd (not_in_nil n there)
among m (k ∷ ns) n line (zero, h, e) has =
    Contains-append_left (lines_at m k) (flat_map (lines_at m) ns) line
    (subst (λ j. Contains (lines_at m j) line) (sym e) has)
among m (k ∷ ns) n line (suc j, h, e) has =
    Contains-append_right (lines_at m k) (flat_map (lines_at m) ns) line
    (among m ns n line (j, omega (arith, h), e) has)

module _ (system : System) (m : Marking) where
  not_empty : (v : Value) (vs : List Value) → v ∷ vs ≢ []
  not_empty v vs e = let no : ⊥ = cc in no

  line_is_mark : (n net k : ℕ) (vs : List Value) → IsLive system m n → net_of m n ≡ Some net →
      tokens_at m n k ≡ vs → AllByRecursion (IsMarkOf system m) (line_of n net k vs)
  line_is_mark n net k [] live of tokens = tt
  line_is_mark n net k (v ∷ vs) live of tokens =
      (record { live = live; net = of; values = sym tokens; any = not_empty v vs }, tt)

  lines_are_marks : (n net : ℕ) → IsLive system m n → net_of m n ≡ Some net → (k : ℕ)
      (places : List (List Value)) →
      ((j : ℕ) (vs : List Value) → slice_get places j ≡ Some vs → tokens_at m n (k + j) ≡ vs) →
      AllByRecursion (IsMarkOf system m) (lines_from n net k places)
  lines_are_marks n net live of k [] at = tt
  lines_are_marks n net live of k (vs ∷ places) at =
      let here : k + 0 ≡ k = omega arith in
      let first = subst (λ j. tokens_at m n j ≡ vs) here (at 0 vs refl) in
      each_append (IsMarkOf system m) (line_of n net k vs) (lines_from n net (k + 1) places)
      (line_is_mark n net k vs live of first)
      (lines_are_marks n net live of (k + 1) places (λ j ws e.
      let next : k + suc j ≡ (k + 1) + j = omega arith in
      subst (λ i. tokens_at m n i ≡ ws) next (at (suc j) ws e)))

  at_are_marks : (n : ℕ) → IsLive system m n → AllByRecursion (IsMarkOf system m) (lines_at m n)
  at_are_marks n live = by (net_of m n) refl
    where
      by : (o : Option ℕ) → net_of m n ≡ o → AllByRecursion (IsMarkOf system m)
          (option_map_or (λ net. lines_from n net 0 (places_of m n)) o [])
      by None of = tt
      by (Some net) of =
          lines_are_marks n net live of 0 (places_of m n) (λ j vs e.
          let same : 0 + j ≡ j = omega arith in
          subst (λ i. tokens_at m n i ≡ vs) (sym same)
          (tokens_are m n j ∙ ap (λ s. unwrap_or s []) e))

  all_are_marks : (ns : List ℕ) → ((n : ℕ) → Contains ns n → IsLive system m n) →
      AllByRecursion (IsMarkOf system m) (flat_map (lines_at m) ns)
  all_are_marks [] live = tt
  all_are_marks (n ∷ ns) live =
      each_append (IsMarkOf system m) (lines_at m n) (flat_map (lines_at m) ns)
      (at_are_marks n (live n (0, omega arith, refl)))
      (all_are_marks ns (λ k there. live k (suc there.0, omega (arith, there.1), there.2)))

  some_tokens : (o : Option (List Value)) → unwrap_or o [] ≢ [] →
      (v : Value) × (vs : List Value) × (o ≡ Some (v ∷ vs))
  some_tokens None any = absurd (any refl)
  some_tokens (Some []) any = absurd (any refl)
  some_tokens (Some (v ∷ vs)) any = (v, vs, refl)

  each_place : (ns : List ℕ) → ((n : ℕ) → IsLive system m n → Contains ns n) → (n place : ℕ) →
      IsLive system m n → tokens_at m n place ≢ [] →
      (line : MarkLine) × Contains (flat_map (lines_at m) ns) line × (line.inst ≡ n)
      × (line.place ≡ place)
  each_place ns listed n place live any =
      let net = live_is_there system m n live in
      let tokens = some_tokens (slice_get (places_of m n) place)
      (λ none. any (tokens_are m n place ∙ none)) in
      let line = has_line n net.0 0 (places_of m n) place tokens.0 tokens.1 tokens.2 in
      let from : 0 + place ≡ place = omega arith in
      let here : Contains (lines_at m n) line.0 =
      subst (λ o. Contains (option_map_or (λ k. lines_from n k 0 (places_of m n)) o []) line.0)
      (sym net.1) line.1 in (
        line.0,
        among m ns n line.0 (listed n live) here,
        line.2,
        line.3 ∙ from,
      )

-- the lines of all live instances, by their numbers, are the live part
pub lines_of_live : (system : System) (m : Marking) (ns : List ℕ) → IsStrictlyIncreasing ns →
    ((n : ℕ) → Contains ns n ↔ IsLive system m n) → LivePart system m (flat_map (lines_at m) ns)
lines_of_live system m ns ascending live = record {
  ascending = to_adjacent (flat_map (lines_at m) ns)
      (all_ascend m ns (from_strict ns ascending));
  each = All-from_recursion (IsMarkOf system m) (flat_map (lines_at m) ns)
      (all_are_marks system m ns (λ n there. (live n).0 there));
  all = each_place system m ns (λ n lives. (live n).1 lives);
}

-- the places of each instance are few
pub few_places : (m : Marking) → ((n : ℕ) (i : Instance) → instance_at m n ≡ Some i → length i.places < 2 ^ 32) →
    (n : ℕ) → length (places_of m n) < 2 ^ 32
few_places m few n = by (instance_at m n) refl
  where
    by : (o : Option Instance) → instance_at m n ≡ o → length (option_map_or (λ i. i.places) o []) < 2 ^ 32
    by None e = omega arith
    by (Some i) e = few n i e

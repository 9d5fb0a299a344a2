-- Each marking has a live part: for each live instance, in order, a line for each of its places
-- that hold tokens.
use Rattle.std.proofs.Common.{◌≡◌, ℕ, zero, suc, ◌+◌, ◌<◌, ◌≤◌, Bool, true, false, List, [], ◌∷◌}
use Rattle.std.proofs.Common.{◌++◌, length, get_or, refl, sym, ap, ◌∙◌, subst, inl, inr, arith}
use Rattle.std.specs.Prelude.{Option, Some, None, ⊤, ◌≢◌, Contains, slice_get, unwrap_or}
use Rattle.std.specs.Prelude.{option_map, option_and_then, if◌then◌else◌}
use Rattle.std.specs.List.{AllAdjacentBelow, AllByRecursion}
use Rattle.std.proofs.lemmas.List.Elements.{All-from_recursion, recursion_from_All}
use Rattle.std.proofs.lemmas.List.Elements.{Contains-append_left, Contains-append_right}
use Rattle.rn_value.specs.declared.value.Value.{Value}
use Rattle.rn_model.specs.declared.system.System.{System}
use Rattle.rn_model.specs.declared.log.MarkLine.{MarkLine}
use Rattle.rn_model.specs.Markings.{Instance, Marking, IsMarking, instance_at, tokens_at}
use Rattle.rn_model.specs.Liveness.{IsLive, ComesBefore, IsMarkOf, LivePart}
use Rattle.rn_model.specs.LivePartLaws.{EachHasItsLivePart}
use Rattle.rn_model.proofs.AfterFiring.{found_number}
use Rattle.rn_model.proofs.DeadInstances.{live_there}
use Rattle.rn_model.proofs.EachElement.{each_append, each_weaker}
use Rattle.rn_model.proofs.EnablingLemmas.{not_in_nil}
use Rattle.rn_model.proofs.LiveByRounds.{DecidesLive, live_decided}
use Rattle.rn_model.proofs.MarkingsOfRuns.{found_is_there}
use Rattle.rn_model.proofs.MarkingsStay.{Increases, from_strict, numbers}
use Rattle.rn_model.proofs.StandingTables.{markings_stand_for_themselves}

-- Lines of which each comes before all later ones.
abbrev pub Ascend : List MarkLine → Type 0
Ascend [] = ⊤
Ascend (x ∷ xs) = AllByRecursion (ComesBefore x) xs × Ascend xs

pub ascend_joined : (xs ys : List MarkLine) → Ascend xs → Ascend ys →
    AllByRecursion (λ x. AllByRecursion (ComesBefore x) ys) xs → Ascend (xs ++ ys)
ascend_joined [] ys a c before = c
ascend_joined (x ∷ xs) ys a c before =
    (each_append (ComesBefore x) xs ys a.0 before.0, ascend_joined xs ys a.1 c before.1)

pub to_adjacent : (xs : List MarkLine) → Ascend xs → AllAdjacentBelow ComesBefore xs (length xs)
to_adjacent [] a k d h = absurd (let no : ⊥ = omega (arith, h) in no)
to_adjacent (x ∷ []) a k d h = absurd (let no : ⊥ = omega (arith, h) in no)
to_adjacent (x ∷ y ∷ xs) a zero d h = a.0.0
to_adjacent (x ∷ y ∷ xs) a (suc k) d h =
    let next : suc k + 1 ≡ suc (k + 1) = omega arith in
    subst (λ j. ComesBefore (get_or (y ∷ xs) k d) (get_or (x ∷ y ∷ xs) j d)) (sym next)
    (to_adjacent (y ∷ xs) a.1 k d (omega (arith, h)))

-- the line of a place that holds tokens
abbrev line_of : Instance → ℕ → List Value → List MarkLine
line_of i k [] = []
line_of i k (v ∷ vs) = record { inst = i.number; net = i.net; place = k; values = v ∷ vs } ∷ []

-- the lines of places, of which the first has this number
abbrev lines_from : Instance → ℕ → List (List Value) → List MarkLine
lines_from i k [] = []
lines_from i k (vs ∷ places) = line_of i k vs ++ lines_from i (k + 1) places

-- the lines of the live ones of these instances
abbrev live_lines : (ℕ → Bool) → List Instance → List MarkLine
live_lines live [] = []
live_lines live (i ∷ is) =
    if live i.number then lines_from i 0 i.places ++ live_lines live is else live_lines live is

module _ (i : Instance) where
  abbrev IsFrom : ℕ → MarkLine → Type 0
  IsFrom k line = (line.inst ≡ i.number) × (k ≤ line.place)

  line_is_from : (k : ℕ) (vs : List Value) → AllByRecursion (IsFrom k) (line_of i k vs)
  line_is_from k [] = tt
  line_is_from k (v ∷ vs) = ((refl, omega arith), tt)

  lines_are_from : (k : ℕ) (places : List (List Value)) →
      AllByRecursion (IsFrom k) (lines_from i k places)
  lines_are_from k [] = tt
  lines_are_from k (vs ∷ places) =
      each_append (IsFrom k) (line_of i k vs) (lines_from i (k + 1) places) (line_is_from k vs)
      (each_weaker (IsFrom (k + 1)) (IsFrom k) (λ line from. (from.0, omega (arith, from.1)))
      (lines_from i (k + 1) places) (lines_are_from (k + 1) places))

  line_before : (k : ℕ) (vs : List Value) (lines : List MarkLine) →
      AllByRecursion (IsFrom (k + 1)) lines →
      AllByRecursion (λ x. AllByRecursion (ComesBefore x) lines) (line_of i k vs)
  line_before k [] lines from = tt
  line_before k (v ∷ vs) lines from =
      let line : MarkLine =
      record { inst = i.number; net = i.net; place = k; values = v ∷ vs } in (
        each_weaker (IsFrom (k + 1)) (ComesBefore line)
            (λ later from. inr (sym from.0, omega (arith, from.1))) lines from,
        tt,
      )

  line_ascends : (k : ℕ) (vs : List Value) → Ascend (line_of i k vs)
  line_ascends k [] = tt
  line_ascends k (v ∷ vs) = (tt, tt)

  lines_ascend : (k : ℕ) (places : List (List Value)) → Ascend (lines_from i k places)
  lines_ascend k [] = tt
  lines_ascend k (vs ∷ places) =
      ascend_joined (line_of i k vs) (lines_from i (k + 1) places) (line_ascends k vs)
      (lines_ascend (k + 1) places)
      (line_before k vs (lines_from i (k + 1) places) (lines_are_from (k + 1) places))

  abbrev HasLine : ℕ → List MarkLine → Type 0
  HasLine place lines =
      (line : MarkLine) × Contains lines line × (line.inst ≡ i.number) × (line.place ≡ place)

  has_line : (k : ℕ) (places : List (List Value)) (j : ℕ) (v : Value) (vs : List Value) →
      slice_get places j ≡ Some (v ∷ vs) → HasLine (k + j) (lines_from i k places)
  has_line k [] j v vs at = absurd (let no : ⊥ = cc in no)
  has_line k (ws ∷ places) zero v vs at =
      let same : ws ≡ v ∷ vs = cc in
      let here : k ≡ k + 0 = omega arith in
      let line : MarkLine =
      record { inst = i.number; net = i.net; place = k; values = v ∷ vs } in
      subst (λ ws. HasLine (k + 0) (lines_from i k (ws ∷ places))) (sym same)
      (line, (0, omega arith, refl), refl, here)
  has_line k (ws ∷ places) (suc j) v vs at =
      let found = has_line (k + 1) places j v vs at in
      let place : (k + 1) + j ≡ k + suc j = omega arith in (
        found.0,
        Contains-append_right (line_of i k ws) (lines_from i (k + 1) places) found.0 found.1,
        found.2,
        found.3 ∙ place,
      )

-- each later number is above the first
pub below_later : (n : ℕ) (ns : List ℕ) → Increases (n ∷ ns) → AllByRecursion (λ k. n < k) ns
below_later n [] a = tt
below_later n (k ∷ ns) a = (
  a.0,
  each_weaker (λ j. k < j) (λ j. n < j) (λ j above. let low = a.0 in omega (arith, above, low))
      ns (below_later k ns a.1),
)

module _ (live : ℕ → Bool) where
  abbrev IsAbove : ℕ → MarkLine → Type 0
  IsAbove n line = n < line.inst

  if_above : (n : ℕ) (lives : Bool) (xs ys : List MarkLine) → AllByRecursion (IsAbove n) xs →
      AllByRecursion (IsAbove n) ys → AllByRecursion (IsAbove n) (if lives then xs ++ ys else ys)
  if_above n true xs ys p q = each_append (IsAbove n) xs ys p q
  if_above n false xs ys p q = q

  lines_above : (n : ℕ) (is : List Instance) → AllByRecursion (λ k. n < k) (numbers is) →
      AllByRecursion (IsAbove n) (live_lines live is)
  lines_above n [] above = tt
  lines_above n (i ∷ is) above =
      let own = lines_from i 0 i.places in
      if_above n (live i.number) own (live_lines live is)
      (each_weaker (IsFrom i 0) (IsAbove n)
      (λ line from. let low = above.0 in let number = from.0 in omega (arith, low, number)) own
      (lines_are_from i 0 i.places))
      (lines_above n is above.1)

  if_ascend : (lives : Bool) (xs ys : List MarkLine) → Ascend xs → Ascend ys →
      AllByRecursion (λ x. AllByRecursion (ComesBefore x) ys) xs →
      Ascend (if lives then xs ++ ys else ys)
  if_ascend true xs ys a c before = ascend_joined xs ys a c before
  if_ascend false xs ys a c before = c

  all_ascend : (is : List Instance) → Increases (numbers is) → Ascend (live_lines live is)
  all_ascend [] a = tt
  all_ascend (i ∷ is) a =
      let own = lines_from i 0 i.places in
      let later = live_lines live is in
      if_ascend (live i.number) own later (lines_ascend i 0 i.places) (all_ascend is a.1)
      (each_weaker (IsFrom i 0) (λ x. AllByRecursion (ComesBefore x) later)
      (λ x from.
      each_weaker (IsAbove i.number) (ComesBefore x)
      (λ y above. let number = from.0 in inl (omega (arith, above, number))) later
      (lines_above i.number is (below_later i.number (numbers is) a))) own
      (lines_are_from i 0 i.places))

module _ (system : System) (m : Marking) (live : ℕ → Bool) (decides : DecidesLive system m live)
    (is_marking : IsMarking system m) where
  abbrev IsFound : Instance → Type 0
  IsFound i = instance_at m i.number ≡ Some i

  abbrev held : Option Instance → ℕ → List Value
  held o place = unwrap_or (option_and_then (λ i. slice_get i.places place) o) []

  not_empty : (v : Value) (vs : List Value) → v ∷ vs ≢ []
  not_empty v vs e = let no : ⊥ = cc in no

  line_is_mark : (i : Instance) (k : ℕ) (vs : List Value) → IsFound i → live i.number ≡ true →
      slice_get i.places k ≡ Some vs → AllByRecursion (IsMarkOf system m) (line_of i k vs)
  line_is_mark i k [] found lives at = tt
  line_is_mark i k (v ∷ vs) found lives at =
      let tokens : tokens_at m i.number k ≡ v ∷ vs =
      ap (λ o. held o k) found ∙ ap (λ o. unwrap_or o []) at in (
        record {
          live = decides.sound i.number lives;
          net = ap (option_map (λ i. i.net)) found;
          values = sym tokens;
          any = not_empty v vs;
        },
        tt,
      )

  lines_are_marks : (i : Instance) → IsFound i → live i.number ≡ true → (k : ℕ)
      (places : List (List Value)) →
      ((j : ℕ) (vs : List Value) → slice_get places j ≡ Some vs →
      slice_get i.places (k + j) ≡ Some vs) →
      AllByRecursion (IsMarkOf system m) (lines_from i k places)
  lines_are_marks i found lives k [] at = tt
  lines_are_marks i found lives k (vs ∷ places) at =
      let here : k + 0 ≡ k = omega arith in
      let first = subst (λ j. slice_get i.places j ≡ Some vs) here (at 0 vs refl) in
      each_append (IsMarkOf system m) (line_of i k vs) (lines_from i (k + 1) places)
      (line_is_mark i k vs found lives first)
      (lines_are_marks i found lives (k + 1) places (λ j ws e.
      let next : k + suc j ≡ (k + 1) + j = omega arith in
      subst (λ n. slice_get i.places n ≡ Some ws) next (at (suc j) ws e)))

  all_are_marks : (is : List Instance) → AllByRecursion IsFound is →
      AllByRecursion (IsMarkOf system m) (live_lines live is)
  all_are_marks [] found = tt
  all_are_marks (i ∷ is) found = by_live (live i.number) refl (all_are_marks is found.1)
    where
      by_live : (lives : Bool) → live i.number ≡ lives →
          AllByRecursion (IsMarkOf system m) (live_lines live is) →
          AllByRecursion (IsMarkOf system m)
          (if lives then lines_from i 0 i.places ++ live_lines live is else live_lines live is)
      by_live true e rest =
          each_append (IsMarkOf system m) (lines_from i 0 i.places) (live_lines live is)
          (lines_are_marks i found.0 e 0 i.places (λ j vs at.
          let same : j ≡ 0 + j = omega arith in
          subst (λ n. slice_get i.places n ≡ Some vs) same at)) rest
      by_live false e rest = rest

  -- a line of a live instance is among all
  among : (is : List Instance) (i : Instance) (line : MarkLine) → Contains is i →
      live i.number ≡ true → Contains (lines_from i 0 i.places) line →
      Contains (live_lines live is) line
  among [] i line there lives has = absurd (not_in_nil i there)
  among (j ∷ is) i line (zero, h, e) lives has =
      let lives_j : live j.number ≡ true = ap (λ i. live i.number) e ∙ lives in
      let has_j : Contains (lines_from j 0 j.places) line =
      subst (λ i. Contains (lines_from i 0 i.places) line) (sym e) has in
      subst (λ b. Contains
      (if b then lines_from j 0 j.places ++ live_lines live is else live_lines live is) line)
      (sym lives_j)
      (Contains-append_left (lines_from j 0 j.places) (live_lines live is) line has_j)
  among (j ∷ is) i line (suc k, h, e) lives has =
      either (live j.number) (among is i line (k, omega (arith, h), e) lives has)
    where
      either : (b : Bool) → Contains (live_lines live is) line →
          Contains (if b then lines_from j 0 j.places ++ live_lines live is
          else live_lines live is) line
      either true there =
          Contains-append_right (lines_from j 0 j.places) (live_lines live is) line there
      either false there = there

  some_tokens : (o : Option (List Value)) → unwrap_or o [] ≢ [] →
      (v : Value) × (vs : List Value) × (o ≡ Some (v ∷ vs))
  some_tokens None any = absurd (any refl)
  some_tokens (Some []) any = absurd (any refl)
  some_tokens (Some (v ∷ vs)) any = (v, vs, refl)

  each_place : (n place : ℕ) → IsLive system m n → tokens_at m n place ≢ [] →
      (line : MarkLine) × Contains (live_lines live m.instances) line × (line.inst ≡ n)
      × (line.place ≡ place)
  each_place n place lives any =
      let there = live_there system m n lives in
      let i = there.0 in
      let number = found_number m.instances n i there.1 in
      let tokens = some_tokens (slice_get i.places place)
      (λ none. any (ap (λ o. held o place) there.1 ∙ none)) in
      let line = has_line i 0 i.places place tokens.0 tokens.1 tokens.2 in
      let is_live : live i.number ≡ true = ap live number ∙ decides.whole n lives in
      let from : 0 + place ≡ place = omega arith in (
        line.0,
        among m.instances i line.0 (found_is_there _ m.instances i there.1) is_live line.1,
        line.2 ∙ number,
        line.3 ∙ from,
      )

  part : LivePart system m (live_lines live m.instances)
  part =
      let kept = (markings_stand_for_themselves system m is_marking).kept in
      record {
        ascending = to_adjacent (live_lines live m.instances)
            (all_ascend live m.instances (from_strict (numbers m.instances) is_marking.ascending));
        each = All-from_recursion (IsMarkOf system m) (live_lines live m.instances)
            (all_are_marks m.instances (recursion_from_All IsFound m.instances kept));
        all = each_place;
      }

pub each_has_its_live_part : EachHasItsLivePart
each_has_its_live_part system m is =
    let decided = live_decided system m in
    (live_lines decided.0 m.instances, part system m decided.0 decided.1 is)

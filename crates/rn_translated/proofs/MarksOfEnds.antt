-- The live part of a marking that stands for one of a weighted net, and its lines.
use Rattle.std.proofs.Common.{◌≡◌, ℕ, zero, suc, ◌+◌, ◌≤◌, Bool, true, false, cond, List, [], ◌∷◌, ◌++◌, map, refl, sym, ap, ◌∙◌, subst, inr, arith}
use Rattle.std.specs.Prelude.{Some, None, ◌≢◌, Contains, IsTrue, is_none, slice_index, nat_eq, option_map}
use Rattle.std.specs.List.{AllByRecursion, list_any}
use Rattle.std.proofs.lemmas.Bool.{eqb-true}
use Rattle.std.proofs.lemmas.Option.{same_Some}
use Rattle.std.proofs.lemmas.List.Elements.{All-nil, All-from_recursion, Contains-append_right}
use Rattle.rn_model.specs.declared.system.System.{System}
use Rattle.rn_model.specs.declared.log.MarkLine.{MarkLine}
use Rattle.rn_model.specs.Systems.{may_start}
use Rattle.rn_model.specs.Markings.{Instance, Marking, IsThere, net_of, tokens_at}
use Rattle.rn_model.specs.Liveness.{IsLive, ComesBefore, IsMarkOf, LivePart}
use Rattle.rn_model.proofs.DeadInstances.{live_there}
use Rattle.rn_model.proofs.EachElement.{each_weaker}
use Rattle.rn_model.proofs.LivePartIsThere.{Ascend, to_adjacent}
use Rattle.rn_weighted.specs.declared.weighted.Weighted.{Weighted}
use Rattle.rn_weighted.specs.declared.weighted.WTransition.{WTransition}
use Rattle.rn_translated.specs.TranslatedSystem.{blacks, net_transition, translated_system, marking_of}
use Rattle.rn_translated.proofs.BlackTokens.{held}

-- the line of a place with so many tokens
abbrev pub place_line : ℕ → ℕ → List MarkLine
place_line place zero = []
place_line place (suc n) =
    record { inst = 1; net = 0; place = place; values = blacks (suc n) } ∷ []

-- the lines of places, of which the first has this number
abbrev pub place_lines : ℕ → List ℕ → List MarkLine
place_lines place [] = []
place_lines place (n ∷ m) = place_line place n ++ place_lines (place + 1) m

abbrev IsFrom : ℕ → MarkLine → Type 0
IsFrom place line = (line.inst ≡ 1) × (place ≤ line.place)

are_from : (place : ℕ) (m : List ℕ) → AllByRecursion (IsFrom place) (place_lines place m)
are_from place [] = tt
are_from place (n ∷ m) =
    by_count n
    (each_weaker (IsFrom (place + 1)) (IsFrom place) (λ line from. (from.0, omega (arith, from.1)))
    (place_lines (place + 1) m) (are_from (place + 1) m))
  where
    by_count : (k : ℕ) → AllByRecursion (IsFrom place) (place_lines (place + 1) m) →
        AllByRecursion (IsFrom place) (place_line place k ++ place_lines (place + 1) m)
    by_count zero later = later
    by_count (suc k) later = ((refl, omega arith), later)

ascend : (place : ℕ) (m : List ℕ) → Ascend (place_lines place m)
ascend place [] = tt
ascend place (zero ∷ m) = ascend (place + 1) m
ascend place (suc n ∷ m) =
    let line : MarkLine =
    record { inst = 1; net = 0; place = place; values = blacks (suc n) } in (
      each_weaker (IsFrom (place + 1)) (ComesBefore line)
          (λ later from. inr (sym from.0, omega (arith, from.1))) (place_lines (place + 1) m)
          (are_from (place + 1) m),
      ascend (place + 1) m,
    )

-- each line is that of a place that holds its tokens
abbrev Holds : List ℕ → MarkLine → Type 0
Holds m line =
    (line.inst ≡ 1) × (line.net ≡ 0) × (line.values ≡ blacks (slice_index m line.place))
    × (line.values ≢ [])

some_blacks : (n : ℕ) → blacks (suc n) ≢ []
some_blacks n e = let no : ⊥ = cc in no

all_hold : (m : List ℕ) (place : ℕ) (rest : List ℕ) →
    ((j : ℕ) → slice_index m (place + j) ≡ slice_index rest j) →
    AllByRecursion (Holds m) (place_lines place rest)
all_hold m place [] at = tt
all_hold m place (n ∷ rest) at =
    by_count n (at 0)
    (all_hold m (place + 1) rest (λ j.
    let next : (place + 1) + j ≡ place + suc j = omega arith in
    ap (slice_index m) next ∙ at (suc j)))
  where
    by_count : (k : ℕ) → slice_index m (place + 0) ≡ k →
        AllByRecursion (Holds m) (place_lines (place + 1) rest) →
        AllByRecursion (Holds m) (place_line place k ++ place_lines (place + 1) rest)
    by_count zero is later = later
    by_count (suc k) is later =
        let here : place + 0 ≡ place = omega arith in (
          (refl, refl, ap blacks (sym is ∙ ap (slice_index m) here), some_blacks k),
          later,
        )

-- a place with tokens has its line
abbrev HasLine : ℕ → List MarkLine → Type 0
HasLine place lines =
    (line : MarkLine) × Contains lines line × (line.inst ≡ 1) × (line.place ≡ place)

has_line : (first : ℕ) (m : List ℕ) (j : ℕ) → slice_index m j ≢ 0 →
    HasLine (first + j) (place_lines first m)
has_line first [] j some = absurd (some refl)
has_line first (zero ∷ m) zero some = absurd (some refl)
has_line first (suc n ∷ m) zero some =
    let here : first ≡ first + 0 = omega arith in
    let line : MarkLine =
    record { inst = 1; net = 0; place = first; values = blacks (suc n) } in
    (line, (0, omega arith, refl), refl, here)
has_line first (n ∷ m) (suc j) some =
    let found = has_line (first + 1) m j some in
    let place : (first + 1) + j ≡ first + suc j = omega arith in (
      found.0,
      Contains-append_right (place_line first n) (place_lines (first + 1) m) found.0 found.1,
      found.2,
      found.3 ∙ place,
    )

-- only instance 1 is there
its_number : (m : List ℕ) (k : ℕ) → IsThere (marking_of m) k → 1 ≡ k
its_number m k there = by_number (nat_eq 1 k) refl there.1
  where
    by_number : (same : Bool) → nat_eq 1 k ≡ same →
        cond same (Some (record { number = 1; net = 0; places = map blacks m })) None
        ≡ Some there.0 → 1 ≡ k
    by_number true is has = eqb-true 1 k is
    by_number false is has = let never : ⊥ = cc in absurd never

-- and its net is the only one
pub its_net : (m : List ℕ) (k n : ℕ) → net_of (marking_of m) k ≡ Some n → (1 ≡ k) × (0 ≡ n)
its_net m k n e = by_number (nat_eq 1 k) refl e
  where
    by_number : (same : Bool) → nat_eq 1 k ≡ same →
        option_map (λ (i : Instance). i.net)
        (cond same (Some (record { number = 1; net = 0; places = map blacks m })) None) ≡ Some n →
        (1 ≡ k) × (0 ≡ n)
    by_number true is has = (eqb-true 1 k is, same_Some 0 n has)
    by_number false is has = let never : ⊥ = cc in absurd never

module _ (net : Weighted) (m : List ℕ) where
  abbrev system : System
  system = translated_system net

  abbrev marking : Marking
  marking = marking_of m

  -- without a transition nothing is live
  module _ (none : net.transitions ≡ []) where
    none_starts : (k at : ℕ) → net_of marking k ≡ Some at → IsTrue (may_start system at) → ⊥
    none_starts k at there starts =
        let first = its_net m k at there in
        let never : false ≡ true =
        subst (λ ts. IsTrue (list_any (λ t. is_none t.uplink) (map net_transition ts))) none
        (subst (λ j. IsTrue (may_start system j)) (sym first.1) starts) in
        let no : ⊥ = cc in no

    none_lives : (n : ℕ) → IsLive system marking n → ⊥
    none_lives n (IsLive.starts {net = at} there may) = none_starts n at there may
    none_lives n (IsLive.held {holder = holder} place live has said there) = none_lives holder live

    pub no_part : LivePart system marking []
    no_part = record {
      ascending = λ k d h. absurd (let no : ⊥ = omega (arith, h) in no);
      each = All-nil (IsMarkOf system marking);
      all = λ n place live some. absurd (none_lives n live);
    }

  -- and else instance 1 is
  module _ (t : WTransition) (ts : List WTransition) (some : net.transitions ≡ t ∷ ts) where
    lives : IsLive system marking 1
    lives =
        IsLive.starts {net = 0} refl
        (subst (λ us. IsTrue (list_any (λ t. is_none t.uplink) (map net_transition us)))
        (sym some) refl)

    is_mark : (line : MarkLine) → Holds m line → IsMarkOf system marking line
    is_mark line holds =
        record {
          live = subst (IsLive system marking) (sym holds.0) lives;
          net = ap (net_of marking) holds.0 ∙ ap Some (sym holds.1);
          values =
              holds.2 ∙ sym (held m line.place)
              ∙ ap (λ n. tokens_at marking n line.place) (sym holds.0);
          any = holds.3;
        }

    has_each : (n place : ℕ) → IsLive system marking n → tokens_at marking n place ≢ [] →
        (line : MarkLine) × Contains (place_lines 0 m) line × (line.inst ≡ n)
        × (line.place ≡ place)
    has_each n place live any =
        let one = its_number m n (live_there system marking n live) in
        let tokens = ap (λ k. tokens_at marking k place) (sym one) ∙ held m place in
        let found = has_line 0 m place (λ none. any (tokens ∙ ap blacks none)) in
        let from : 0 + place ≡ place = omega arith in
        (found.0, found.1, found.2 ∙ one, found.3 ∙ from)

    pub whole_part : LivePart system marking (place_lines 0 m)
    whole_part = record {
      ascending = to_adjacent (place_lines 0 m) (ascend 0 m);
      each = All-from_recursion (IsMarkOf system marking) (place_lines 0 m)
          (each_weaker (Holds m) (IsMarkOf system marking) is_mark (place_lines 0 m)
          (all_hold m 0 m (λ j. let from : 0 + j ≡ j = omega arith in ap (slice_index m) from)));
      all = has_each;
    }

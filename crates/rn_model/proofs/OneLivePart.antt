-- A marking has one live part, which is that of each table that stands for it.
use Rattle.std.proofs.Common.{◌≡◌, ℕ, zero, suc, ◌+◌, ◌⊎◌, List, [], ◌∷◌, length, get_or, refl}
use Rattle.std.proofs.Common.{sym, ap, ◌∙◌, subst, inl, inr, arith}
use Rattle.std.specs.Prelude.{Option, Contains, All, ◌≢◌, option_map, option_and_then}
use Rattle.std.specs.Prelude.{unwrap_or, slice_get}
use Rattle.std.specs.List.{AllAdjacentBelow}
use Rattle.std.proofs.lemmas.List.Elements.{All-contains, All-from_recursion}
use Rattle.std.proofs.lemmas.Option.{same_Some}
use Rattle.rn_value.specs.declared.value.Value.{Value}
use Rattle.rn_model.specs.declared.system.System.{System}
use Rattle.rn_model.specs.declared.log.MarkLine.{MarkLine}
use Rattle.rn_model.specs.Markings.{Instance, Marking, net_of, tokens_at}
use Rattle.rn_model.specs.Liveness.{IsLive, ComesBefore, IsMarkOf, LivePart, Stands}
use Rattle.rn_model.specs.LivePartLaws.{LivePartIsUnique, TablesHaveTheSamePart}
use Rattle.rn_model.proofs.AskedValues.{later}
use Rattle.rn_model.proofs.EnablingLemmas.{not_in_nil}
use Rattle.rn_model.proofs.ReadConditions.{each_in}
use Rattle.rn_model.proofs.StandingTables.{same_live, tables_have_the_same_live}

-- Two lists that ascend and have the same elements are one.
module _ {X : Type 0} (Before : X → X → Type 0)
    (trans : (x y z : X) → Before x y → Before y z → Before x z)
    (never : (x : X) → ¬ Before x x) where
  abbrev Ascends : List X → Type 0
  Ascends xs = AllAdjacentBelow Before xs (length xs)

  tail_ascends : (x : X) (xs : List X) → Ascends (x ∷ xs) → Ascends xs
  tail_ascends x xs a k d h =
      let next : suc k + 1 ≡ suc (k + 1) = omega arith in
      subst (λ j. Before (get_or xs k d) (get_or (x ∷ xs) j d)) next
      (a (suc k) d (omega (arith, h)))

  -- the first comes before each other
  before_others : (x : X) (xs : List X) (y : X) → Ascends (x ∷ xs) → Contains xs y → Before x y
  before_others x [] y a there = absurd (not_in_nil y there)
  before_others x (z ∷ zs) y a (zero, h, e) = subst (Before x) e (a 0 x (omega arith))
  before_others x (z ∷ zs) y a (suc k, h, e) =
      let rest = before_others z zs y (tail_ascends x (z ∷ zs) a) (k, omega (arith, h), e) in
      trans x z y (a 0 x (omega arith)) rest

  first_or_later : (x : X) (xs : List X) (y : X) → Contains (x ∷ xs) y → (x ≡ y) ⊎ Contains xs y
  first_or_later x xs y (zero, h, e) = inl e
  first_or_later x xs y (suc k, h, e) = inr (k, omega (arith, h), e)

  abbrev Within : List X → List X → Type 0
  Within xs ys = (x : X) → Contains xs x → Contains ys x

  same_first : (x : X) (xs : List X) (y : X) (ys : List X) → Ascends (x ∷ xs) →
      Ascends (y ∷ ys) → Within (x ∷ xs) (y ∷ ys) → Within (y ∷ ys) (x ∷ xs) → x ≡ y
  same_first x xs y ys a c there back =
      elim (first_or_later y ys x (there x (0, omega arith, refl))) as (λ _. x ≡ y) [
        | inl same ↦ sym same
        | inr later_x ↦
            elim (first_or_later x xs y (back y (0, omega arith, refl))) as (λ _. x ≡ y) [
              | inl same ↦ same
              | inr later_y ↦
                  absurd (never x (trans x y x (before_others x xs y a later_y)
                  (before_others y ys x c later_x)))
            ]
      ]

  rest_within : (x : X) (xs ys : List X) → Ascends (x ∷ xs) → Within (x ∷ xs) (x ∷ ys) →
      Within xs ys
  rest_within x xs ys a there z is =
      elim (first_or_later x ys z (there z (later x z xs is))) as (λ _. Contains ys z) [
        | inl same ↦ absurd (never x (subst (Before x) (sym same) (before_others x xs z a is)))
        | inr others ↦ others
      ]

  same_lists : (xs ys : List X) → Ascends xs → Ascends ys → Within xs ys → Within ys xs → xs ≡ ys
  same_lists [] [] a c there back = refl
  same_lists [] (y ∷ ys) a c there back = absurd (not_in_nil y (back y (0, omega arith, refl)))
  same_lists (x ∷ xs) [] a c there back = absurd (not_in_nil x (there x (0, omega arith, refl)))
  same_lists (x ∷ xs) (y ∷ ys) a c there back =
      let first = same_first x xs y ys a c there back in
      let also : Ascends (x ∷ ys) = subst (λ z. Ascends (z ∷ ys)) (sym first) c in
      let there_too = subst (λ z. Within (x ∷ xs) (z ∷ ys)) (sym first) there in
      let back_too = subst (λ z. Within (z ∷ ys) (x ∷ xs)) (sym first) back in
      let rest = same_lists xs ys (tail_ascends x xs a) (tail_ascends x ys also)
      (rest_within x xs ys a there_too) (rest_within x ys xs also back_too) in
      ap (λ zs. x ∷ zs) rest ∙ ap (λ z. z ∷ ys) first

before_trans : (x y z : MarkLine) → ComesBefore x y → ComesBefore y z → ComesBefore x z
before_trans x y z (inl p) (inl q) = inl (omega (arith, p, q))
before_trans x y z (inl p) (inr (same, q)) = inl (omega (arith, p, same))
before_trans x y z (inr (same, p)) (inl q) = inl (omega (arith, same, q))
before_trans x y z (inr (same, p)) (inr (also, q)) = inr (same ∙ also, omega (arith, p, q))

never_before : (x : MarkLine) → ¬ ComesBefore x x
never_before x (inl p) = let no : ⊥ = omega (arith, p) in no
never_before x (inr (same, p)) = let no : ⊥ = omega (arith, p) in no

module _ (system : System) (m : Marking) where
  -- lines of the same place of an instance are the same
  same_line : (x y : MarkLine) → IsMarkOf system m x → IsMarkOf system m y → x.inst ≡ y.inst →
      x.place ≡ y.place → x ≡ y
  same_line x y p q inst place =
      let net = same_Some x.net y.net (sym p.net ∙ ap (net_of m) inst ∙ q.net) in
      let values = p.values ∙ ap (λ n. tokens_at m n x.place) inst
      ∙ ap (tokens_at m y.inst) place ∙ sym q.values in
      ap (λ n. record { inst = n; net = x.net; place = x.place; values = x.values }) inst
      ∙ ap (λ k. record { inst = y.inst; net = k; place = x.place; values = x.values }) net
      ∙ ap (λ j. record { inst = y.inst; net = y.net; place = j; values = x.values }) place
      ∙ ap (λ vs. record { inst = y.inst; net = y.net; place = y.place; values = vs }) values

  within : (lines others : List MarkLine) → LivePart system m lines → LivePart system m others →
      (line : MarkLine) → Contains lines line → Contains others line
  within lines others part other line there =
      let mark = All-contains (IsMarkOf system m) lines line part.each there in
      let some : tokens_at m line.inst line.place ≢ [] = λ none. mark.any (mark.values ∙ none) in
      let found = other.all line.inst line.place mark.live some in
      let also = All-contains (IsMarkOf system m) others found.0 other.each found.1 in
      subst (Contains others) (same_line found.0 line also mark found.2 found.3) found.1

-- a marking has one live part at most
pub live_part_is_unique : LivePartIsUnique
live_part_is_unique system m lines others part other =
    same_lists ComesBefore before_trans never_before lines others part.ascending other.ascending
    (within system m lines others part other) (within system m others lines other part)

module _ (system : System) (table m : Marking) (stands : Stands system table m) where
  abbrev held : Option Instance → ℕ → List Value
  held o place = unwrap_or (option_and_then (λ i. slice_get i.places place) o) []

  net_same : (n : ℕ) → IsLive system m n → net_of table n ≡ net_of m n
  net_same n live = ap (option_map (λ i. i.net)) (same_live system table m stands n live)

  tokens_same : (n place : ℕ) → IsLive system m n → tokens_at table n place ≡ tokens_at m n place
  tokens_same n place live = ap (λ o. held o place) (same_live system table m stands n live)

  to_marking : (n : ℕ) → IsLive system table n → IsLive system m n
  to_marking n = (tables_have_the_same_live system table m stands n).0

  to_table : (n : ℕ) → IsLive system m n → IsLive system table n
  to_table n = (tables_have_the_same_live system table m stands n).1

  mark_to_marking : (line : MarkLine) → IsMarkOf system table line → IsMarkOf system m line
  mark_to_marking line mark =
      let live = to_marking line.inst mark.live in
      record {
        live = live;
        net = sym (net_same line.inst live) ∙ mark.net;
        values = mark.values ∙ tokens_same line.inst line.place live;
        any = mark.any;
      }

  mark_to_table : (line : MarkLine) → IsMarkOf system m line → IsMarkOf system table line
  mark_to_table line mark = record {
    live = to_table line.inst mark.live;
    net = net_same line.inst mark.live ∙ mark.net;
    values = mark.values ∙ sym (tokens_same line.inst line.place mark.live);
    any = mark.any;
  }

  each_mark : (a b : Marking) → ((line : MarkLine) → IsMarkOf system a line →
      IsMarkOf system b line) → (lines : List MarkLine) → All (IsMarkOf system a) lines →
      All (IsMarkOf system b) lines
  each_mark a b change lines all =
      All-from_recursion (IsMarkOf system b) lines
      (each_in (IsMarkOf system b) lines
      (λ line there. change line (All-contains (IsMarkOf system a) lines line all there)))

  part_to_marking : (lines : List MarkLine) → LivePart system table lines → LivePart system m lines
  part_to_marking lines part = record {
    ascending = part.ascending;
    each = each_mark table m mark_to_marking lines part.each;
    all = λ n place live some.
        part.all n place (to_table n live) (λ none. some (sym (tokens_same n place live) ∙ none));
  }

  part_to_table : (lines : List MarkLine) → LivePart system m lines → LivePart system table lines
  part_to_table lines part = record {
    ascending = part.ascending;
    each = each_mark m table mark_to_table lines part.each;
    all = λ n place live some.
        let at_marking = to_marking n live in
        part.all n place at_marking (λ none. some (tokens_same n place at_marking ∙ none));
  }

-- a table that stands for a marking has the same live part
pub tables_have_the_same_part : TablesHaveTheSamePart
tables_have_the_same_part system table m lines stands =
    (part_to_marking system table m stands lines, part_to_table system table m stands lines)

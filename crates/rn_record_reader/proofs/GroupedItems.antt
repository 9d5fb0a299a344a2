-- Items of a mark, of which those with equal values beside each other are grouped: one item with the
-- count of all. They are items again, with the same values.
use Rattle.std.proofs.Common.{◌≡◌, ◌≢◌, ℕ, ◌+◌, Bool, true, false, cond, List, [], ◌∷◌, ◌++◌, replicate, refl, sym, ap, ◌∙◌, subst, append_assoc, arith}
use Rattle.std.specs.Prelude.{not, if◌then◌else◌}
use Rattle.std.specs.List.{list_all}
use Rattle.std.proofs.lemmas.List.{replicate-append-replicate}
use Rattle.rn_items.proofs.Bools.{and_left, and_right, true_both}
use Rattle.rn_value.specs.declared.value.Value.{Value}
use Rattle.rn_value.specs.Text.{numeral}
use Rattle.rn_value.proofs.Numerals.{IsNumeral-first, IsNumeral-numeral}
use Rattle.rn_model.specs.Lists.{same_value}
use Rattle.rn_model.proofs.ValueLists.{same_is}
use Rattle.rn_lines.specs.LineText.{AreItems, Held, IsCount, Token, count_of, times_of}
use Rattle.rn_value.specs.Characters.{number_after}
use Rattle.rn_lines.specs.ValueText.{IsValue, Said, most_brackets}
use Rattle.rn_lines.proofs.NumeralReading.{numeral_value}
use Rattle.rn_lookup.specs.Found.{tokens_held}
use Rattle.rn_record_reader.specs.Marks.{are_parted, held_values, parted_from, values_told}
use Rattle.rn_record_reader.proofs.SpelledMarks.{some_times}

-- two items of one value
abbrev pub joined : Held → Held → Held
joined h g = record { token = h.token; times = numeral (times_of h + times_of g) }

-- an item before others: it is joined with the first where that has the same value
abbrev pub grouped_first : Held → List Held → List Held
grouped_first h [] = h ∷ []
grouped_first h (g ∷ gs) =
    if same_value h.token.value g.token.value then joined h g ∷ gs else h ∷ g ∷ gs

-- items, of which those with equal values beside each other are one
abbrev pub grouped : List Held → List Held
grouped [] = []
grouped (h ∷ hs) = grouped_first h (grouped hs)

-- the numeral of a number counts it
numeral_counts : (n : ℕ) → count_of (numeral n) ≡ n
numeral_counts n =
    let p = IsNumeral-numeral n in
    let f = IsNumeral-first p in
    ap count_of f.2 ∙ ap (number_after 0) (sym f.2) ∙ numeral_value p

-- The values are the same.
joined_values : (h g : Held) → h.token.value ≡ g.token.value → held_values (joined h g) ≡ held_values h ++ held_values g
joined_values h g same =
    ap (λ n. replicate n h.token.value) (numeral_counts (times_of h + times_of g))
    ∙ sym (replicate-append-replicate (times_of h) (times_of g) h.token.value)
    ∙ ap (λ v. held_values h ++ replicate (times_of g) v) same

first_values : (h : Held) (gs : List Held) → values_told (grouped_first h gs) ≡ held_values h ++ values_told gs
first_values h [] = refl
first_values h (g ∷ gs) = by (same_value h.token.value g.token.value) refl
  where
    by : (same : Bool) → same_value h.token.value g.token.value ≡ same →
        values_told (cond same (joined h g ∷ gs) (h ∷ g ∷ gs)) ≡ held_values h ++ (held_values g ++ values_told gs)
    by true e =
        ap (λ vs. vs ++ values_told gs) (joined_values h g (same_is h.token.value g.token.value e))
        ∙ append_assoc (held_values h) (held_values g) (values_told gs)
    by false e = refl

pub grouped_values : (items : List Held) → values_told (grouped items) ≡ values_told items
grouped_values [] = refl
grouped_values (h ∷ hs) = first_values h (grouped hs) ∙ ap (λ vs. held_values h ++ vs) (grouped_values hs)

-- No value is that of its neighbour.
first_parted : (h : Held) (gs : List Held) → are_parted gs ≡ true → are_parted (grouped_first h gs) ≡ true
first_parted h [] parted = refl
first_parted h (g ∷ gs) parted = by (same_value h.token.value g.token.value) refl
  where
    by : (same : Bool) → same_value h.token.value g.token.value ≡ same → are_parted (cond same (joined h g ∷ gs) (h ∷ g ∷ gs)) ≡ true
    by true e = subst (λ v. parted_from v gs ≡ true) (sym (same_is h.token.value g.token.value e)) parted
    by false e = true_both (not (same_value h.token.value g.token.value)) (parted_from g.token.value gs) (ap not e) parted

pub grouped_parted : (items : List Held) → are_parted (grouped items) ≡ true
grouped_parted [] = refl
grouped_parted (h ∷ hs) = first_parted h (grouped hs) (grouped_parted hs)

-- What holds for all tokens holds for those that are left.
module _ (p : Token → Bool) where
  first_all : (h : Held) (gs : List Held) → p h.token ≡ true → list_all p (tokens_held gs) ≡ true →
      list_all p (tokens_held (grouped_first h gs)) ≡ true
  first_all h [] one rest = true_both (p h.token) true one refl
  first_all h (g ∷ gs) one rest = by (same_value h.token.value g.token.value)
    where
      by : (same : Bool) → list_all p (tokens_held (cond same (joined h g ∷ gs) (h ∷ g ∷ gs))) ≡ true
      by true = true_both (p h.token) (list_all p (tokens_held gs)) one (and_right (p g.token) (list_all p (tokens_held gs)) rest)
      by false = true_both (p h.token) (list_all p (tokens_held (g ∷ gs))) one rest

  pub grouped_all : (items : List Held) → list_all p (tokens_held items) ≡ true → list_all p (tokens_held (grouped items)) ≡ true
  grouped_all [] all = refl
  grouped_all (h ∷ hs) all =
      first_all h (grouped hs) (and_left (p h.token) (list_all p (tokens_held hs)) all)
      (grouped_all hs (and_right (p h.token) (list_all p (tokens_held hs)) all))

-- Grouped items have a text.
module _ {v : Value} {named : List Said} {text times count : List ℕ} (is : IsValue most_brackets v named text) (counts : IsCount times count) where
  abbrev item : Held
  item = record { token = record { value = v; named = named }; times = times }

  first_written : {gs : List Held} {b : List ℕ} → AreItems gs b → (a : List ℕ) × AreItems (grouped_first item gs) a
  first_written AreItems.none = (32 ∷ (text ++ (count ++ [])), AreItems.some is counts AreItems.none)
  first_written (AreItems.some {text = other} {count = number} {rest = rest} {times = digits} {v = w} {named = others} {items = gs} is_other counts_other more) =
      by (same_value v w)
    where
      next : Held
      next = record { token = record { value = w; named = others }; times = digits }

      by : (same : Bool) → (a : List ℕ) × AreItems (cond same (joined item next ∷ gs) (item ∷ next ∷ gs)) a
      by true =
          let one = some_times counts in
          let two = some_times counts_other in
          let all : ℕ = count_of times + count_of digits in (
            32 ∷ (text ++ ((42 ∷ numeral all) ++ rest)),
            AreItems.some is (IsCount.often (omega (arith, one, two)) (IsNumeral-numeral all)) more,
          )
      by false = (
        32 ∷ (text ++ (count ++ (32 ∷ (other ++ (number ++ rest))))),
        AreItems.some is counts (AreItems.some is_other counts_other more),
      )

pub grouped_written : {items : List Held} {b : List ℕ} → AreItems items b → (a : List ℕ) × AreItems (grouped items) a
grouped_written AreItems.none = ([], AreItems.none)
grouped_written (AreItems.some is counts others) = first_written is counts (grouped_written others).1

-- There is one where there were some.
pub grouped_some : (h : Held) (gs : List Held) → grouped_first h gs ≢ []
grouped_some h [] e = absurd (let no : ⊥ = cc in no)
grouped_some h (g ∷ gs) e = by (same_value h.token.value g.token.value) e
  where
    by : (same : Bool) → cond same (joined h g ∷ gs) (h ∷ g ∷ gs) ≡ [] → ⊥
    by true e = absurd (let no : ⊥ = cc in no)
    by false e = absurd (let no : ⊥ = cc in no)

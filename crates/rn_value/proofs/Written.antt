-- The grammar has just the texts that are written.
use Rattle.std.proofs.Common.{◌≡◌, ◌≢◌, ℕ, suc, ◌-◌, ◌<◌, ◌≤◌, Bool, true, false, cond, eqb, leb, ℤ, pos, negsuc, List, [], ◌∷◌, ◌++◌, map, length, Some, None, unwrap_or, refl, sym, ap, ◌∙◌, subst, arith}
use Rattle.std.proofs.lemmas.Bool.{false≢true}
use Rattle.std.proofs.lemmas.Option.{slice_get_within, slice_get-get_or}
use Rattle.std.specs.List.{list_all, slice_get, flat_map}
use Rattle.rn_value.specs.Grammar.{IsWholeNumber, IsEscaped, IsInside, IsText, IsRow, IsTail}
use Rattle.rn_value.specs.Names.{name_of, inst_within, within_step, instances_within}
use Rattle.rn_value.specs.Text.{numeral, whole_number, escaped, row_text, text_step, value_text}
use Rattle.rn_value.specs.declared.value.InstRef.TheVariants.{Old, New}
use Rattle.rn_value.specs.declared.value.Value.{Value, out-Value, roll-Value, out-roll-Value, map-Value, fold_out-Value, ind-Value, roll-out-Value}
use Rattle.rn_value.specs.declared.value.Value.TheOpen as V
use Rattle.rn_value.specs.declared.value.Value.TheVariants as Value
use Rattle.rn_value.specs.TextLaws.{GrammarIsWritten, TextsDetermineValues, WrittenTextsDetermineValues, OneSpelling}
use Rattle.rn_value.proofs.Spelling.{same_value}
use Rattle.rn_value.proofs.Numerals.{IsNumeral-numeral, numeral_only}
use borrow.Author.Tests.{ne_eqb, eq-eqb, eqb-true, eqb-false, le-leb, leb-true}
use Rattle.rn_items.proofs.Bools.{and_left, and_right}

-- the texts of items with commas between, and of those that follow another
abbrev items_text : List (List ℕ) → List Value → List ℕ
items_text names vs = row_text (map value_text vs) names

abbrev tail_text : List (List ℕ) → List Value → List ℕ
tail_text names vs = flat_map (λ text. (44 ∷ []) ++ text names) (map value_text vs)

-- the instances in each of these values have names
abbrev all_named : List (List ℕ) → List Value → Bool
all_named names vs = list_all (λ within. within (length names)) (map instances_within vs)

-- one layer of what is written, and of the test of instances
pub text_layer : (names : List (List ℕ)) (v : Value) (x : V.Value-F Value) → out-Value v ≡ x → value_text v names ≡ text_step (map-Value Value (List (List ℕ) → List ℕ) value_text x) names
text_layer names v x is = ap (λ f. f names) (fold_out-Value (List (List ℕ) → List ℕ) text_step v) ∙ ap (λ x. text_step (map-Value Value (List (List ℕ) → List ℕ) value_text x) names) is

pub named_layer : (last : ℕ) (v : Value) (x : V.Value-F Value) → out-Value v ≡ x → instances_within v last ≡ within_step (map-Value Value (ℕ → Bool) instances_within x) last
named_layer last v x is = ap (λ f. f last) (fold_out-Value (ℕ → Bool) within_step v) ∙ ap (λ x. within_step (map-Value Value (ℕ → Bool) instances_within x) last) is

whole_only : {n : ℤ} {a : List ℕ} → IsWholeNumber n a → a ≡ whole_number n
whole_only (IsWholeNumber.positive p) = numeral_only p
whole_only (IsWholeNumber.negative p) = ap (λ digits. 45 ∷ digits) (numeral_only p)

escaped_itself : (c : ℕ) → c ≢ 34 → c ≢ 92 → c ≢ 10 → c ≢ 9 → escaped c ≡ c ∷ []
escaped_itself c q b n t = rw (ne_eqb c 34 q, ne_eqb c 92 b, ne_eqb c 10 n, ne_eqb c 9 t) refl

escaped_only : {c : ℕ} {written : List ℕ} → IsEscaped c written → written ≡ escaped c
escaped_only IsEscaped.quote = refl
escaped_only IsEscaped.backslash = refl
escaped_only IsEscaped.newline = refl
escaped_only IsEscaped.tab = refl
escaped_only (IsEscaped.itself {c = c} q b n t) = sym (escaped_itself c q b n t)

inside_only : {s a : List ℕ} → IsInside s a → a ≡ flat_map escaped s
inside_only IsInside.empty = refl
inside_only (IsInside.byte {c = c} {text = s} {written = written} {rest = rest} first others) =
    let here : written ≡ escaped c = escaped_only first in
    let tails : rest ≡ flat_map escaped s = inside_only others in
    cc

whole_is : (n : ℤ) → IsWholeNumber n (whole_number n)
whole_is (pos n) = IsWholeNumber.positive (IsNumeral-numeral n)
whole_is (negsuc n) = IsWholeNumber.negative (IsNumeral-numeral (suc n))

-- two numbers are equal, or they are not
pub on_equal : {P : Type 0} (c k : ℕ) → (c ≡ k → P) → (c ≢ k → P) → P
on_equal {P} c k same apart = elim (eqb c k) as (λ t. eqb c k ≡ t → P) [
  | true ↦ λ e. same (eqb-true c k e)
  | false ↦ λ e. apart (eqb-false c k e)
] refl

escaped_is : (c : ℕ) → IsEscaped c (escaped c)
escaped_is c =
    let Is : ℕ → Type 0 = λ c. IsEscaped c (escaped c) in
    on_equal c 34 (λ e. subst Is (sym e) IsEscaped.quote) (λ q.
    on_equal c 92 (λ e. subst Is (sym e) IsEscaped.backslash) (λ b.
    on_equal c 10 (λ e. subst Is (sym e) IsEscaped.newline) (λ n.
    on_equal c 9 (λ e. subst Is (sym e) IsEscaped.tab) (λ t.
    subst (IsEscaped c) (sym (escaped_itself c q b n t)) (IsEscaped.itself q b n t)))))

inside_is : (s : List ℕ) → IsInside s (flat_map escaped s)
inside_is [] = IsInside.empty
inside_is (c ∷ s) = IsInside.byte (escaped_is c) (inside_is s)

-- the number 0 has no name
pub name_of_none : (names : List (List ℕ)) (k : ℕ) → k ≡ 0 → name_of names k ≡ None
name_of_none names k e = ap (λ t. cond t None (slice_get names (k - 1))) (eq-eqb k 0 e)

-- any other number has the name at the index below it, if one is there
pub name_of_some : (names : List (List ℕ)) (k : ℕ) → k ≢ 0 → name_of names k ≡ slice_get names (k - 1)
name_of_some names k apart = ap (λ t. cond t None (slice_get names (k - 1))) (ne_eqb k 0 apart)

-- an instance with a name has a number from 1 to the number of names, and the other way round
name_within : (names : List (List ℕ)) (k : ℕ) (name : List ℕ) → name_of names k ≡ Some name → inst_within (Old k) (length names) ≡ true
name_within names k name e = on_equal k 0
    (λ zero. let none = name_of_none names k zero in cc)
    (λ apart.
    let within : k - 1 < length names = slice_get_within names (k - 1) name (sym (name_of_some names k apart) ∙ e) in
    rw (le-leb 1 k (omega arith), le-leb k (length names) (omega arith)) refl)

name_there : (names : List (List ℕ)) (k : ℕ) → inst_within (Old k) (length names) ≡ true → name_of names k ≡ Some (unwrap_or (name_of names k) [])
name_there names k within =
    let low : 1 ≤ k = leb-true 1 k (and_left (leb 1 k) (leb k (length names)) within) in
    let high : k ≤ length names = leb-true k (length names) (and_right (leb 1 k) (leb k (length names)) within) in
    let found = name_of_some names k (λ e. omega arith) ∙ slice_get-get_or names (k - 1) [] (omega arith) in
    rw found refl

mutual
  text_only : {names : List (List ℕ)} {v : Value} {a : List ℕ} → IsText names v a → (instances_within v (length names) ≡ true) × (a ≡ value_text v names)
  text_only {names} (IsText.number {n = n} p) =
      (named_layer (length names) (Value.Int n) (V.Int n) (Value.outs-Int n), whole_only p ∙ sym (text_layer names (Value.Int n) (V.Int n) (Value.outs-Int n)))
  text_only {names} (IsText.text {s = s} p) = (
    named_layer (length names) (Value.Text s) (V.Text s) (Value.outs-Text s),
    ap (λ inside. 34 ∷ inside ++ 34 ∷ []) (inside_only p) ∙ sym (text_layer names (Value.Text s) (V.Text s) (Value.outs-Text s)),
  )
  text_only {names} (IsText.tuple {vs = vs} row) =
      let items = row_only row in (
        named_layer (length names) (Value.Tuple vs) (V.Tuple vs) (Value.outs-Tuple vs) ∙ items.0,
        ap (λ row. 91 ∷ row ++ 93 ∷ []) items.1 ∙ sym (text_layer names (Value.Tuple vs) (V.Tuple vs) (Value.outs-Tuple vs)),
      )
  text_only {names} (IsText.list {vs = vs} row) =
      let items = row_only row in (
        named_layer (length names) (Value.List vs) (V.List vs) (Value.outs-List vs) ∙ items.0,
        ap (λ row. 123 ∷ row ++ 125 ∷ []) items.1 ∙ sym (text_layer names (Value.List vs) (V.List vs) (Value.outs-List vs)),
      )
  text_only {names} (IsText.instance {number = k} {name = name} {digits = digits} called p) = (
    named_layer (length names) (Value.Inst (Old k)) (V.Inst (Old k)) (Value.outs-Inst (Old k)) ∙ name_within names k name called,
    ap (λ digits. name ++ (91 ∷ digits ++ 93 ∷ [])) (numeral_only p)
        ∙ ap (λ found. unwrap_or found [] ++ (91 ∷ numeral k ++ 93 ∷ [])) (sym called)
        ∙ sym (text_layer names (Value.Inst (Old k)) (V.Inst (Old k)) (Value.outs-Inst (Old k))),
  )

  row_only : {names : List (List ℕ)} {vs : List Value} {a : List ℕ} → IsRow names vs a → (all_named names vs ≡ true) × (a ≡ items_text names vs)
  row_only IsRow.none = (refl, refl)
  row_only {names} (IsRow.some {v = v} {vs = vs} {bytes = a} {rest = b} t tails) =
      let here = text_only t in
      let others = tail_only tails in
      (rw here.0 others.0, ap (λ a. a ++ b) here.1 ∙ ap (λ b. value_text v names ++ b) others.1)

  tail_only : {names : List (List ℕ)} {vs : List Value} {a : List ℕ} → IsTail names vs a → (all_named names vs ≡ true) × (a ≡ tail_text names vs)
  tail_only IsTail.end = (refl, refl)
  tail_only {names} (IsTail.comma {v = v} {vs = vs} {bytes = a} {rest = b} t tails) =
      let here = text_only t in
      let others = tail_only tails in
      (rw here.0 others.0, ap (λ a. 44 ∷ (a ++ b)) here.1 ∙ ap (λ b. 44 ∷ (value_text v names ++ b)) others.1)

-- each item's text is in the grammar
abbrev Written : List (List ℕ) → Value → Type 0
Written names v = instances_within v (length names) ≡ true → IsText names v (value_text v names)

module _ (names : List (List ℕ)) where
  tail_is : (es : List ((v : Value) × Written names v)) → all_named names (map (λ e. e.0) es) ≡ true → IsTail names (map (λ e. e.0) es) (tail_text names (map (λ e. e.0) es))
  tail_is [] named = IsTail.end
  tail_is (e ∷ es) named =
      let first = and_left (instances_within e.0 (length names)) (all_named names (map (λ e. e.0) es)) named in
      let rest = and_right (instances_within e.0 (length names)) (all_named names (map (λ e. e.0) es)) named in
      IsTail.comma (e.1 first) (tail_is es rest)

  row_is : (es : List ((v : Value) × Written names v)) → all_named names (map (λ e. e.0) es) ≡ true → IsRow names (map (λ e. e.0) es) (items_text names (map (λ e. e.0) es))
  row_is [] named = IsRow.none
  row_is (e ∷ es) named =
      let first = and_left (instances_within e.0 (length names)) (all_named names (map (λ e. e.0) es)) named in
      let rest = and_right (instances_within e.0 (length names)) (all_named names (map (λ e. e.0) es)) named in
      IsRow.some (e.1 first) (tail_is es rest)

  -- a value with the layer of another, which is spelled as that layer is written
  as_variant : (v w : Value) (x : V.Value-F Value) → out-Value v ≡ x → out-Value w ≡ x → IsText names w (text_step (map-Value Value (List (List ℕ) → List ℕ) value_text x) names) → IsText names v (value_text v names)
  as_variant v w x is was spelled =
      let same : w ≡ v = sym (roll-out-Value w) ∙ ap roll-Value (was ∙ sym is) ∙ roll-out-Value v in
      subst (λ v. IsText names v (value_text v names)) same (subst (IsText names w) (sym (text_layer names w x was)) spelled)

  -- one layer of a value, with the items' own proofs beside them
  layer_is : (y : V.Value-F ((v : Value) × Written names v)) (v : Value) → out-Value v ≡ map-Value ((v : Value) × Written names v) Value (λ e. e.0) y → Written names v
  layer_is (V.Int n) v is named = as_variant v (Value.Int n) (V.Int n) is (Value.outs-Int n) (IsText.number (whole_is n))
  layer_is (V.Text s) v is named = as_variant v (Value.Text s) (V.Text s) is (Value.outs-Text s) (IsText.text (inside_is s))
  layer_is (V.Tuple es) v is named =
      let vs : List Value = map (λ e. e.0) es in
      let items = sym (named_layer (length names) v (V.Tuple vs) is) ∙ named in
      as_variant v (Value.Tuple vs) (V.Tuple vs) is (Value.outs-Tuple vs) (IsText.tuple (row_is es items))
  layer_is (V.List es) v is named =
      let vs : List Value = map (λ e. e.0) es in
      let items = sym (named_layer (length names) v (V.List vs) is) ∙ named in
      as_variant v (Value.List vs) (V.List vs) is (Value.outs-List vs) (IsText.list (row_is es items))
  layer_is (V.Inst (Old k)) v is named =
      let within = sym (named_layer (length names) v (V.Inst (Old k)) is) ∙ named in
      as_variant v (Value.Inst (Old k)) (V.Inst (Old k)) is (Value.outs-Inst (Old k)) (IsText.instance (name_there names k within) (IsNumeral-numeral k))
  layer_is (V.Inst (New path index)) v is named =
      absurd (false≢true (sym (named_layer (length names) v (V.Inst (New path index)) is) ∙ named))

  text_is : (v : Value) → Written names v
  text_is = ind-Value (Written names) (λ x y is. layer_is y (roll-Value x) (out-roll-Value x ∙ sym is))

-- the texts of the grammar are exactly those that are written
pub grammar_written : GrammarIsWritten
grammar_written names v bytes =
    (λ t. text_only t, λ h. subst (IsText names v) (sym h.1) (text_is names v h.0))

-- the bytes of a text determine the value, and where its text ends
pub texts_determine : TextsDetermineValues
texts_determine names v w a b x y are t u p q e = same_value names are t u x y p q e

-- and so do the texts that are written
pub written_determine : WrittenTextsDetermineValues
written_determine names v w x y are p q = same_value names are (text_is names v p) (text_is names w q) x y

-- of values whose instances have names, equal texts mean equal values
pub one_spelling : OneSpelling
one_spelling names v w are p q e = (written_determine names v w [] [] are p q tt tt (ap (λ a. a ++ []) e)).0

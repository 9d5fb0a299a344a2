-- Texts that are read, and texts that are written.
use Rattle.std.proofs.Common.{◌≡◌, ◌<◌, ◌≤◌, ◌-◌, ℕ, zero, suc, ℤ, pos, negsuc, List, [], ◌∷◌, ◌++◌, map, Bool, true, refl, sym, ap, ◌∙◌, subst, arith}
use Rattle.std.specs.Prelude.{Some, slice_get}
use Rattle.std.specs.List.{list_all, AllByRecursion}
use Rattle.std.proofs.lemmas.Str.{IsUtf8-from_is_utf8}
use Rattle.std.proofs.lemmas.Bool.{false≢true}
use borrow.Author.Tests.{ltb-true}
use Rattle.rn_items.proofs.Bools.{and_left, and_right}
use Rattle.rn_value.specs.Grammar as written
use Rattle.rn_value.specs.Grammar.{IsText}
use Rattle.rn_value.specs.Names.{name_of}
use Rattle.rn_value.specs.Text.{value_text}
use Rattle.rn_value.specs.Words.{IsName}
use Rattle.rn_value.specs.declared.value.InstRef.TheVariants.{Old}
use Rattle.rn_value.specs.declared.value.Value.{Value, out-Value, map-Value, fold_out-Value}
use Rattle.rn_value.specs.declared.value.Value.TheOpen as V
use Rattle.rn_value.specs.declared.value.Value.TheVariants as Value
use Rattle.rn_value.proofs.Written.{grammar_written, on_equal, name_of_none, name_of_some}
use Rattle.rn_lines.specs.ValueText.{Said, HasSixtyFourBits, IsValue, IsRow, IsTail}
use Rattle.rn_lines.specs.Laws.{AreCalled, has_sixty_four_bits, fits_step, fits_within, ReadTextsAreWritten, WrittenTextsAreRead}

module _ (names : List (List ℕ)) where
  called_left : (a b : List Said) → AreCalled names (a ++ b) → AreCalled names a
  called_left [] b all = tt
  called_left (m ∷ a) b all = (all.0, called_left a b all.1)

  called_right : (a b : List Said) → AreCalled names (a ++ b) → AreCalled names b
  called_right [] b all = all
  called_right (m ∷ a) b all = called_right a b all.1

  called_both : (a b : List Said) → AreCalled names a → AreCalled names b → AreCalled names (a ++ b)
  called_both [] b p q = q
  called_both (m ∷ a) b p q = (p.0, called_both a b p.1 q)

  mutual
    text_of : {depth : ℕ} {v : Value} {said : List Said} {a : List ℕ} → IsValue depth v said a → AreCalled names said → IsText names v a
    text_of (IsValue.number fits n) all = IsText.number n
    text_of (IsValue.text utf8 s) all = IsText.text s
    text_of (IsValue.tuple row) all = IsText.tuple (row_of row all)
    text_of (IsValue.list row) all = IsText.list (row_of row all)
    text_of (IsValue.instance is low high p) all = IsText.instance all.0 p

    row_of : {depth : ℕ} {vs : List Value} {said : List Said} {a : List ℕ} → IsRow depth vs said a → AreCalled names said → written.IsRow names vs a
    row_of IsRow.none all = written.IsRow.none
    row_of (IsRow.some {said = said} {more = more} t others) all = written.IsRow.some (text_of t (called_left said more all)) (tail_of others (called_right said more all))

    tail_of : {depth : ℕ} {vs : List Value} {said : List Said} {a : List ℕ} → IsTail depth vs said a → AreCalled names said → written.IsTail names vs a
    tail_of IsTail.end all = written.IsTail.end
    tail_of (IsTail.comma {said = said} {more = more} t others) all = written.IsTail.comma (text_of t (called_left said more all)) (tail_of others (called_right said more all))

  name_among : AllByRecursion IsName names → (index : ℕ) (name : List ℕ) → slice_get names index ≡ Some name → IsName name
  name_among are index name e = among names are index e
    where
      among : (ns : List (List ℕ)) → AllByRecursion IsName ns → (index : ℕ) → slice_get ns index ≡ Some name → IsName name
      among [] are index e = cc
      among (n ∷ ns) are zero e = let same : n ≡ name = cc in subst IsName same are.0
      among (n ∷ ns) are (suc index) e = among ns are.1 index e

  called_name : AllByRecursion IsName names → (k : ℕ) (name : List ℕ) → name_of names k ≡ Some name → IsName name × (1 ≤ k)
  called_name are k name e = on_equal k 0
      (λ none. let no = name_of_none names k none in cc)
      (λ apart. (name_among are (k - 1) name (sym (name_of_some names k apart) ∙ e), omega (arith, apart)))

-- one layer of the test
layer : (depth : ℕ) (v : Value) (x : V.Value-F Value) → out-Value v ≡ x → fits_within v depth ≡ fits_step (map-Value Value (ℕ → Bool) fits_within x) depth
layer depth v x is = ap (λ f. f depth) (fold_out-Value (ℕ → Bool) fits_step v) ∙ ap (λ x. fits_step (map-Value Value (ℕ → Bool) fits_within x) depth) is

bits_of : (n : ℤ) → has_sixty_four_bits n ≡ true → HasSixtyFourBits n
bits_of (pos n) e = ltb-true n 9223372036854775808 e
bits_of (negsuc n) e = ltb-true n 9223372036854775808 e

abbrev all_fit : List Value → ℕ → Bool
all_fit vs depth = list_all (λ fits. fits depth) (map fits_within vs)

tuple_fits : (depth : ℕ) (vs : List Value) → fits_within (Value.Tuple vs) depth ≡ true → (d : ℕ) × (suc d ≡ depth) × (all_fit vs d ≡ true)
tuple_fits zero vs e = absurd (false≢true (sym (layer zero (Value.Tuple vs) (V.Tuple vs) (Value.outs-Tuple vs)) ∙ e))
tuple_fits (suc d) vs e = (d, refl, sym (layer (suc d) (Value.Tuple vs) (V.Tuple vs) (Value.outs-Tuple vs)) ∙ e)

list_fits : (depth : ℕ) (vs : List Value) → fits_within (Value.List vs) depth ≡ true → (d : ℕ) × (suc d ≡ depth) × (all_fit vs d ≡ true)
list_fits zero vs e = absurd (false≢true (sym (layer zero (Value.List vs) (V.List vs) (Value.outs-List vs)) ∙ e))
list_fits (suc d) vs e = (d, refl, sym (layer (suc d) (Value.List vs) (V.List vs) (Value.outs-List vs)) ∙ e)

record Readable (names : List (List ℕ)) (depth : ℕ) (v : Value) (a : List ℕ) : Type 0 where
  said : List Said
  called : AreCalled names said
  stands : IsValue depth v said a

record ReadableRow (names : List (List ℕ)) (depth : ℕ) (vs : List Value) (a : List ℕ) : Type 0 where
  said : List Said
  called : AreCalled names said
  stands : IsRow depth vs said a

record ReadableTail (names : List (List ℕ)) (depth : ℕ) (vs : List Value) (a : List ℕ) : Type 0 where
  said : List Said
  called : AreCalled names said
  stands : IsTail depth vs said a

module _ (names : List (List ℕ)) (are : AllByRecursion IsName names) where
  tuple_up : (d depth : ℕ) (vs : List Value) (a : List ℕ) → suc d ≡ depth → ReadableRow names d vs a → Readable names depth (Value.Tuple vs) (91 ∷ a ++ 93 ∷ [])
  tuple_up d depth vs a e row = subst (λ depth. Readable names depth (Value.Tuple vs) (91 ∷ a ++ 93 ∷ [])) e (record { said = row.said; called = row.called; stands = IsValue.tuple row.stands })

  list_up : (d depth : ℕ) (vs : List Value) (a : List ℕ) → suc d ≡ depth → ReadableRow names d vs a → Readable names depth (Value.List vs) (123 ∷ a ++ 125 ∷ [])
  list_up d depth vs a e row = subst (λ depth. Readable names depth (Value.List vs) (123 ∷ a ++ 125 ∷ [])) e (record { said = row.said; called = row.called; stands = IsValue.list row.stands })

  mutual
    value_of : {v : Value} {a : List ℕ} → IsText names v a → (depth : ℕ) → fits_within v depth ≡ true → Readable names depth v a
    value_of (IsText.number {n = n} p) depth fits =
        record { said = []; called = tt; stands = IsValue.number (bits_of n (sym (layer depth (Value.Int n) (V.Int n) (Value.outs-Int n)) ∙ fits)) p }
    value_of (IsText.text {s = s} p) depth fits =
        record { said = []; called = tt; stands = IsValue.text (IsUtf8-from_is_utf8 s (sym (layer depth (Value.Text s) (V.Text s) (Value.outs-Text s)) ∙ fits)) p }
    value_of (IsText.tuple {vs = vs} {bytes = a} row) depth fits = let d = tuple_fits depth vs fits in tuple_up d.0 depth vs a d.1 (row_at row d.0 d.2)
    value_of (IsText.list {vs = vs} {bytes = a} row) depth fits = let d = list_fits depth vs fits in list_up d.0 depth vs a d.1 (row_at row d.0 d.2)
    value_of (IsText.instance {number = k} {name = name} called p) depth fits =
        let is = called_name names are k name called in
        let small : k < 4294967296 = ltb-true k 4294967296 (sym (layer depth (Value.Inst (Old k)) (V.Inst (Old k)) (Value.outs-Inst (Old k))) ∙ fits) in
        record { said = record { name = name; number = k } ∷ []; called = (called, tt); stands = IsValue.instance is.0 is.1 small p }

    row_at : {vs : List Value} {a : List ℕ} → written.IsRow names vs a → (depth : ℕ) → all_fit vs depth ≡ true → ReadableRow names depth vs a
    row_at written.IsRow.none depth fits = record { said = []; called = tt; stands = IsRow.none }
    row_at (written.IsRow.some {v = v} {vs = vs} t others) depth fits =
        let first = value_of t depth (and_left (fits_within v depth) (all_fit vs depth) fits) in
        let rest = tail_at others depth (and_right (fits_within v depth) (all_fit vs depth) fits) in
        record { said = first.said ++ rest.said; called = called_both names first.said rest.said first.called rest.called; stands = IsRow.some first.stands rest.stands }

    tail_at : {vs : List Value} {a : List ℕ} → written.IsTail names vs a → (depth : ℕ) → all_fit vs depth ≡ true → ReadableTail names depth vs a
    tail_at written.IsTail.end depth fits = record { said = []; called = tt; stands = IsTail.end }
    tail_at (written.IsTail.comma {v = v} {vs = vs} t others) depth fits =
        let first = value_of t depth (and_left (fits_within v depth) (all_fit vs depth) fits) in
        let rest = tail_at others depth (and_right (fits_within v depth) (all_fit vs depth) fits) in
        record { said = first.said ++ rest.said; called = called_both names first.said rest.said first.called rest.called; stands = IsTail.comma first.stands rest.stands }

-- a text whose instances are called by the names of their nets is the one that is written
pub read_are_written : ReadTextsAreWritten
read_are_written names depth v named text stands called = (grammar_written names v text).0 (text_of names stands called)

-- and what is written of a value that fits is read
pub written_are_read : WrittenTextsAreRead
written_are_read names depth v are named fits =
    let readable = value_of names are ((grammar_written names v (value_text v names)).1 (named, refl)) depth fits in
    (readable.said, readable.called, readable.stands)

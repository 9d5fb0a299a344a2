-- Reading of values, in both directions: what the grammar has is read, and what is read is of the
-- grammar.
use Rattle.std.proofs.Common.{◌≡◌, ◌<◌, ◌≤◌, ◌+◌, ◌^◌, ℕ, zero, suc, ℤ, List, [], ◌∷◌, ◌++◌, length, Bool, true, false, cond, nat_eq, not, append_assoc, refl, sym, ap, ◌∙◌, subst, arith, length-append}
use Rattle.std.specs.Prelude.{Option, Some, None}
use Rattle.std.specs.List.{list_all}
use Rattle.std.specs.Str.{IsUtf8, is_utf8}
use Rattle.std.proofs.lemmas.Str.{IsUtf8-from_is_utf8, is_utf8-from_IsUtf8}
use Rattle.std.proofs.lemmas.Bool.{false≢true}
use Rattle.std.proofs.lemmas.Bool.Decides.{nat_tests}
use Rattle.std.proofs.lemmas.Option.{same_Some, cond_some}
use borrow.Author.Tests.{eq-eqb, eqb-true}
use Rattle.rn_items.proofs.Bools.{and_left}
use Rattle.rn_value.specs.Characters.{is_letter, is_digit, is_name_byte}
use Rattle.rn_value.specs.Words.{is_identifier, is_reserved, IsName}
use Rattle.rn_value.specs.Grammar.{IsNumeral, IsWholeNumber, IsInside}
use Rattle.rn_value.specs.TextLaws.{is_delimiter, IsDelimited}
use Rattle.rn_value.specs.declared.value.InstRef.TheVariants.{Old}
use Rattle.rn_value.specs.declared.value.Value.{Value}
use Rattle.rn_value.specs.declared.value.Value.TheVariants as Value
use Rattle.rn_value.proofs.Numerals.{IsNumeral-first}
use Rattle.rn_value.proofs.Spans.{Stops}
use Rattle.rn_value.proofs.Spelling.{stops_digits}
use Rattle.rn_lines.specs.ValueText.{Said, HasSixtyFourBits, IsValue, IsRow, IsTail}
use Rattle.rn_lines.specs.Reading.{◌>>=◌, inside_at, text_at, inst_at, whole_at, with_front, tail_at, row_at, value_by, rows_at, value_at}
use Rattle.rn_lines.proofs.Inside.{inside_reads, inside_read, InsideAt}
use Rattle.rn_lines.proofs.InstanceReading.{byte_reads, inst_reads, inst_read}
use Rattle.rn_lines.proofs.Rows.{empty_row}
use Rattle.rn_lines.proofs.NumeralReading.{bind_some, digit_apart, whole_reads, whole_read}

abbrev pub Row : Type 0
Row = List Value × List Said × List ℕ

abbrev pub Read : Type 0
Read = Value × List Said × List ℕ

letter_apart : (c : ℕ) → is_letter c ≡ true → (nat_eq c 91 ≡ false) × (nat_eq c 123 ≡ false) × (nat_eq c 34 ≡ false)
letter_apart c d = (grind (arith, nat_tests), grind (arith, nat_tests), grind (arith, nat_tests))

letter_no_close : (c : ℕ) → is_letter c ≡ true → (nat_eq c 93 ≡ false) × (nat_eq c 125 ≡ false)
letter_no_close c d = (grind (arith, nat_tests), grind (arith, nat_tests))

digit_no_close : (c : ℕ) → is_digit c ≡ true → (nat_eq c 93 ≡ false) × (nat_eq c 125 ≡ false)
digit_no_close c d = (grind (arith, nat_tests), grind (arith, nat_tests))

-- The first byte of a value's text closes no bracket.
record First (a : List ℕ) : Type 0 where
  byte : ℕ
  rest : List ℕ
  is : a ≡ byte ∷ rest
  no_bracket : nat_eq byte 93 ≡ false
  no_brace : nat_eq byte 125 ≡ false

pub name_first : (name : List ℕ) → IsName name → (c : ℕ) × (rest : List ℕ) × (name ≡ c ∷ rest) × (is_letter c ≡ true)
name_first [] is = absurd (false≢true is)
name_first (c ∷ rest) is = (c, rest, refl, and_left (is_letter c) (list_all is_name_byte (c ∷ rest)) (and_left (is_identifier (c ∷ rest)) (not (is_reserved (c ∷ rest))) is))

whole_first : {n : ℤ} {a : List ℕ} → IsWholeNumber n a → First a
whole_first (IsWholeNumber.positive p) =
    let f = IsNumeral-first p in
    let no = digit_no_close f.0 f.3 in
    record { byte = f.0; rest = f.1; is = f.2; no_bracket = no.0; no_brace = no.1 }
whole_first (IsWholeNumber.negative {digits = digits} p) = record { byte = 45; rest = digits; is = refl; no_bracket = refl; no_brace = refl }

value_first : {depth : ℕ} {v : Value} {said : List Said} {a : List ℕ} → IsValue depth v said a → First a
value_first (IsValue.number fits n) = whole_first n
value_first (IsValue.text {bytes = b} utf8 s) = record { byte = 34; rest = b ++ 34 ∷ []; is = refl; no_bracket = refl; no_brace = refl }
value_first (IsValue.tuple {bytes = b} row) = record { byte = 91; rest = b ++ 93 ∷ []; is = refl; no_bracket = refl; no_brace = refl }
value_first (IsValue.list {bytes = b} row) = record { byte = 123; rest = b ++ 125 ∷ []; is = refl; no_bracket = refl; no_brace = refl }
value_first (IsValue.instance {name = name} {digits = digits} is low high p) =
    let f = name_first name is in
    let no = letter_no_close f.0 f.3 in
    record { byte = f.0; rest = f.1 ++ (91 ∷ digits ++ 93 ∷ []); is = ap (λ name. name ++ (91 ∷ digits ++ 93 ∷ [])) f.2; no_bracket = no.0; no_brace = no.1 }

-- a bracket that closes
record Closes (c : ℕ) : Type 0 where
  no_comma : nat_eq c 44 ≡ false
  delimits : is_delimiter c ≡ true

bracket_closes : Closes 93
bracket_closes = record { no_comma = refl; delimits = refl }

brace_closes : Closes 125
brace_closes = record { no_comma = refl; delimits = refl }

tail_delimits : {depth : ℕ} {vs : List Value} {said : List Said} {a : List ℕ} → IsTail depth vs said a → (c : ℕ) (x : List ℕ) → Closes c → IsDelimited (a ++ c ∷ x)
tail_delimits IsTail.end c x closes = closes.delimits
tail_delimits (IsTail.comma t rest) c x closes = refl

tail_length : {depth : ℕ} {vs : List Value} {said : List Said} {a : List ℕ} → IsTail depth vs said a → length vs ≤ length a
tail_length IsTail.end = omega arith
tail_length (IsTail.comma {bytes = b} {rest = r} t others) = let h = tail_length others in omega (arith, h, length-append b r)

-- Each form of a value, at its first byte.
whole_form : (rows : ℕ → List ℕ → Option Row) {n : ℤ} {a : List ℕ} → HasSixtyFourBits n → IsWholeNumber n a → (rest : List ℕ) → Stops is_digit rest → value_by rows (a ++ rest) ≡ Some (Value.Int n, [], rest)
whole_form rows {n} {a} fits (IsWholeNumber.positive p) rest stops =
    let f = IsNumeral-first p in
    let no = digit_apart f.0 f.3 in
    let reads = subst (λ a. whole_at (a ++ rest) ≡ Some (n, rest)) f.2 (whole_reads fits (IsWholeNumber.positive p) rest stops) in
    subst (λ a. value_by rows (a ++ rest) ≡ Some (Value.Int n, [], rest)) (sym f.2)
    (rw (no.1, no.2, no.3, no.4) (ap (λ o. o >>= λ x. Some (Value.Int x.0, [], x.1)) reads))
whole_form rows fits (IsWholeNumber.negative p) rest stops = ap (λ o. o >>= λ x. Some (Value.Int x.0, [], x.1)) (whole_reads fits (IsWholeNumber.negative p) rest stops)

text_form : (rows : ℕ → List ℕ → Option Row) {s a : List ℕ} → IsUtf8 s → IsInside s a → (rest : List ℕ) → value_by rows ((34 ∷ a ++ 34 ∷ []) ++ rest) ≡ Some (Value.Text s, [], rest)
text_form rows {s} {a} utf8 inside rest =
    let read : List ℕ × List ℕ = (s, rest) in
    ap (λ b. text_at b >>= λ x. Some (Value.Text x.0, [], x.1)) (append_assoc a (34 ∷ []) rest)
    ∙ ap (λ o. o >>= (λ x. cond (is_utf8 x.0) (Some x) None) >>= λ x. Some (Value.Text x.0, [], x.1)) (inside_reads inside rest)
    ∙ ap (λ t. cond t (Some read) None >>= λ x. Some (Value.Text x.0, [], x.1)) (is_utf8-from_IsUtf8 s utf8)

fourth : {X : Type 0} {p q r s : Bool} (a b c d e : X) → p ≡ false → q ≡ false → r ≡ false → s ≡ true → cond p a (cond q b (cond r c (cond s d e))) ≡ d
fourth a b c d e p q r s = λ i. cond (p i) a (cond (q i) b (cond (r i) c (cond (s i) d e)))

letter_step : (rows : ℕ → List ℕ → Option Row) (c : ℕ) (bytes : List ℕ) → nat_eq c 91 ≡ false → nat_eq c 123 ≡ false → nat_eq c 34 ≡ false → is_letter c ≡ true →
    value_by rows (c ∷ bytes) ≡ (inst_at (c ∷ bytes) >>= λ x. let read : Read = (Value.Inst (Old x.0.number), x.0 ∷ [], x.1) in Some read)
letter_step rows c bytes p q r s = fourth _ _ _ _ _ p q r s

inst_form : (rows : ℕ → List ℕ → Option Row) {number : ℕ} {name digits : List ℕ} → IsName name → 1 ≤ number → number < 2 ^ 32 → IsNumeral number digits → (rest : List ℕ) →
    value_by rows ((name ++ (91 ∷ digits ++ 93 ∷ [])) ++ rest) ≡ Some (Value.Inst (Old number), record { name = name; number = number } ∷ [], rest)
inst_form rows {number} {name} {digits} is low high p rest =
    let f = name_first name is in
    let apart = letter_apart f.0 f.3 in
    let ends : List ℕ = 91 ∷ digits ++ 93 ∷ [] in
    let saying : Said = record { name = name; number = number } in
    let reads = subst (λ n. inst_at ((n ++ ends) ++ rest) ≡ Some (saying, rest)) f.2 (inst_reads is low high p rest) in
    subst (λ n. value_by rows ((n ++ ends) ++ rest) ≡ Some (Value.Inst (Old number), saying ∷ [], rest)) (sym f.2)
    (letter_step rows f.0 ((f.1 ++ ends) ++ rest) apart.0 apart.1 apart.2 f.3
    ∙ ap (λ o. o >>= λ x. let read : Read = (Value.Inst (Old x.0.number), x.0 ∷ [], x.1) in Some read) reads)

row_value : (item : List ℕ → Option Read) (c : ℕ) (bytes : List ℕ) (byte : ℕ) (rest : List ℕ) → bytes ≡ byte ∷ rest → nat_eq byte c ≡ false →
    row_at item c bytes ≡ (item bytes >>= λ x. with_front (x.0 ∷ []) x.1 (tail_at item c (length bytes) x.2))
row_value item c bytes byte rest is apart =
    let none : Row = ([], [], rest) in
    subst (λ bytes. row_at item c bytes ≡ (item bytes >>= λ x. with_front (x.0 ∷ []) x.1 (tail_at item c (length bytes) x.2))) (sym is)
    (ap (λ t. cond t (Some none) (item (byte ∷ rest) >>= λ x. with_front (x.0 ∷ []) x.1 (tail_at item c (length (byte ∷ rest)) x.2))) apart)

-- What is in the grammar is read.
mutual
  unfolding rows_at

  pub value_reads : {depth : ℕ} {v : Value} {said : List Said} {a : List ℕ} → IsValue depth v said a → (rest : List ℕ) → Stops is_digit rest → value_at depth (a ++ rest) ≡ Some (v, said, rest)
  value_reads {depth} (IsValue.number fits n) rest d = whole_form (rows_at depth) fits n rest d
  value_reads {depth} (IsValue.text utf8 s) rest d = text_form (rows_at depth) utf8 s rest
  value_reads (IsValue.tuple {depth = depth} {bytes = b} parts) rest d =
      ap (λ b. rows_at (suc depth) 93 b >>= λ x. Some (Value.Tuple x.0, x.1, x.2)) (append_assoc b (93 ∷ []) rest)
      ∙ ap (λ o. o >>= λ x. Some (Value.Tuple x.0, x.1, x.2)) (row_reads parts 93 rest bracket_closes (λ b f. f.no_bracket))
  value_reads (IsValue.list {depth = depth} {bytes = b} parts) rest d =
      ap (λ b. rows_at (suc depth) 125 b >>= λ x. Some (Value.List x.0, x.1, x.2)) (append_assoc b (125 ∷ []) rest)
      ∙ ap (λ o. o >>= λ x. Some (Value.List x.0, x.1, x.2)) (row_reads parts 125 rest brace_closes (λ b f. f.no_brace))
  value_reads {depth} (IsValue.instance is low high p) rest d = inst_form (rows_at depth) is low high p rest

  row_reads : {depth : ℕ} {vs : List Value} {said : List Said} {a : List ℕ} → IsRow depth vs said a → (c : ℕ) (rest : List ℕ) → Closes c → ((b : List ℕ) (f : First b) → nat_eq f.byte c ≡ false) →
      rows_at (suc depth) c (a ++ c ∷ rest) ≡ Some (vs, said, rest)
  row_reads {depth} IsRow.none c rest closes apart = empty_row (value_at depth) c (c ∷ rest) rest (byte_reads c rest)
  row_reads {depth} (IsRow.some {v = v} {vs = vs} {said = said} {more = more} {bytes = b} {rest = r} t others) c rest closes apart =
      let f = value_first t in
      let all : List ℕ = (b ++ r) ++ c ∷ rest in
      let few = tail_length others in
      let size : length all ≡ length b + length r + suc (length rest) = length-append (b ++ r) (c ∷ rest) ∙ ap (λ n. n + suc (length rest)) (length-append b r) in
      row_value (value_at depth) c all f.byte ((f.rest ++ r) ++ c ∷ rest) (ap (λ b. (b ++ r) ++ c ∷ rest) f.is) (apart b f)
      ∙ ap (λ bytes. value_at depth bytes >>= λ x. with_front (x.0 ∷ []) x.1 (tail_at (value_at depth) c (length all) x.2)) (append_assoc b r (c ∷ rest))
      ∙ ap (λ o. o >>= λ x. with_front (x.0 ∷ []) x.1 (tail_at (value_at depth) c (length all) x.2)) (value_reads t (r ++ c ∷ rest) (stops_digits (r ++ c ∷ rest) (tail_delimits others c rest closes)))
      ∙ ap (with_front (v ∷ []) said) (tail_reads others (length all) c rest (omega (arith, few, size)) closes)

  tail_reads : {depth : ℕ} {vs : List Value} {said : List Said} {a : List ℕ} → IsTail depth vs said a → (most c : ℕ) (rest : List ℕ) → length vs < most → Closes c →
      tail_at (value_at depth) c most (a ++ c ∷ rest) ≡ Some (vs, said, rest)
  tail_reads IsTail.end zero c rest few closes = absurd (omega arith)
  tail_reads IsTail.end (suc most) c rest few closes = let read : Row = ([], [], rest) in rw closes.no_comma (ap (λ t. cond t (Some read) None) (eq-eqb c c refl))
  tail_reads (IsTail.comma t others) zero c rest few closes = absurd (omega arith)
  tail_reads {depth} (IsTail.comma {v = v} {vs = vs} {said = said} {more = more} {bytes = b} {rest = r} t others) (suc most) c rest few closes =
      ap (λ b. value_at depth b >>= λ x. with_front (x.0 ∷ []) x.1 (tail_at (value_at depth) c most x.2)) (append_assoc b r (c ∷ rest))
      ∙ ap (λ o. o >>= λ x. with_front (x.0 ∷ []) x.1 (tail_at (value_at depth) c most x.2)) (value_reads t (r ++ c ∷ rest) (stops_digits (r ++ c ∷ rest) (tail_delimits others c rest closes)))
      ∙ ap (with_front (v ∷ []) said) (tail_reads others most c rest (omega arith) closes)

-- What is read is in the grammar: a value before the rest,
pub record ValueAt (depth : ℕ) (bytes : List ℕ) (x : Read) : Type 0 where
  pub text : List ℕ
  pub whole : bytes ≡ text ++ x.2
  pub stands : IsValue depth x.0 x.1 text

-- a row before its closing bracket, and what follows a value there
record RowAt (depth c : ℕ) (bytes : List ℕ) (x : Row) : Type 0 where
  text : List ℕ
  whole : bytes ≡ text ++ c ∷ x.2
  stands : IsRow depth x.0 x.1 text

record TailAt (depth c : ℕ) (bytes : List ℕ) (x : Row) : Type 0 where
  text : List ℕ
  whole : bytes ≡ text ++ c ∷ x.2
  stands : IsTail depth x.0 x.1 text

-- a value and what follows it
joined : (c : ℕ) (bytes text more next : List ℕ) (rest : List ℕ) → bytes ≡ text ++ next → next ≡ more ++ c ∷ rest → bytes ≡ (text ++ more) ++ c ∷ rest
joined c bytes text more next rest e f = e ∙ ap (λ n. text ++ n) f ∙ sym (append_assoc text more (c ∷ rest))

abbrev front : Value → List Said → Row → Option Row
front v said y = Some (v ∷ y.0, said ++ y.1, y.2)

module _ (depth c : ℕ) (item : List ℕ → Option Read) (reads : (bytes : List ℕ) (x : Read) → item bytes ≡ Some x → ValueAt depth bytes x) where
  tail_read : (most : ℕ) (bytes : List ℕ) (x : Row) → tail_at item c most bytes ≡ Some x → TailAt depth c bytes x
  tail_read zero bytes x e = cc
  tail_read (suc most) [] x e = cc
  tail_read (suc most) (b ∷ bytes) x e = by (λ n y. tail_read most n y) (nat_eq b 44) (nat_eq b c) refl refl e
    where
      done : Row
      done = ([], [], bytes)

      by : ((n : List ℕ) (y : Row) → tail_at item c most n ≡ Some y → TailAt depth c n y) → (comma ends : Bool) → nat_eq b 44 ≡ comma → nat_eq b c ≡ ends →
          cond comma (item bytes >>= λ x. with_front (x.0 ∷ []) x.1 (tail_at item c most x.2)) (cond ends (Some done) None) ≡ Some x → TailAt depth c (b ∷ bytes) x
      by others true ends is _ e =
          let first = bind_some (item bytes) (λ x. with_front (x.0 ∷ []) x.1 (tail_at item c most x.2)) x e in
          let v = first.0 in
          let more = bind_some (tail_at item c most v.2) (front v.0 v.1) x first.2 in
          let y = more.0 in
          let here = reads bytes v first.1 in
          let next = others v.2 y more.1 in
          let whole : b ∷ bytes ≡ (44 ∷ (here.text ++ next.text)) ++ c ∷ y.2 = (λ i. eqb-true b 44 is i ∷ joined c bytes here.text next.text v.2 y.2 here.whole next.whole i) in
          subst (TailAt depth c (b ∷ bytes)) (same_Some (v.0 ∷ y.0, v.1 ++ y.1, y.2) x more.2)
          (record { text = 44 ∷ (here.text ++ next.text); whole = whole; stands = IsTail.comma here.stands next.stands })
      by others false true _ is e =
          subst (TailAt depth c (b ∷ bytes)) (same_Some done x e)
          (record { text = []; whole = ap (λ b. b ∷ bytes) (eqb-true b c is); stands = IsTail.end })
      by others false false _ _ e = cc

  row_read : (bytes : List ℕ) (x : Row) → row_at item c bytes ≡ Some x → RowAt depth c bytes x
  row_read [] x e = cc
  row_read (b ∷ bytes) x e = by (nat_eq b c) refl e
    where
      done : Row
      done = ([], [], bytes)

      by : (ends : Bool) → nat_eq b c ≡ ends →
          cond ends (Some done) (item (b ∷ bytes) >>= λ x. with_front (x.0 ∷ []) x.1 (tail_at item c (length (b ∷ bytes)) x.2)) ≡ Some x → RowAt depth c (b ∷ bytes) x
      by true is e =
          subst (RowAt depth c (b ∷ bytes)) (same_Some done x e)
          (record { text = []; whole = ap (λ b. b ∷ bytes) (eqb-true b c is); stands = IsRow.none })
      by false is e =
          let first = bind_some (item (b ∷ bytes)) (λ x. with_front (x.0 ∷ []) x.1 (tail_at item c (length (b ∷ bytes)) x.2)) x e in
          let v = first.0 in
          let more = bind_some (tail_at item c (length (b ∷ bytes)) v.2) (front v.0 v.1) x first.2 in
          let y = more.0 in
          let here = reads (b ∷ bytes) v first.1 in
          let next = tail_read (length (b ∷ bytes)) v.2 y more.1 in
          subst (RowAt depth c (b ∷ bytes)) (same_Some (v.0 ∷ y.0, v.1 ++ y.1, y.2) x more.2)
          (record { text = here.text ++ next.text; whole = joined c (b ∷ bytes) here.text next.text v.2 y.2 here.whole next.whole; stands = IsRow.some here.stands next.stands })

text_read : (bytes : List ℕ) (y : List ℕ × List ℕ) → text_at bytes ≡ Some y → InsideAt bytes y × IsUtf8 y.0
text_read bytes y e =
    let inside = bind_some (inside_at bytes) (λ z. cond (is_utf8 z.0) (Some z) None) y e in
    let tests = cond_some (is_utf8 inside.0.0) inside.0 y inside.2 in
    (subst (InsideAt bytes) tests.1 (inside_read bytes inside.0 inside.1), subst (λ z. IsUtf8 z.0) tests.1 (IsUtf8-from_is_utf8 inside.0.0 tests.0))

module _ (depth : ℕ) (rows : ℕ → List ℕ → Option Row) (reads : (c : ℕ) (bytes : List ℕ) (y : Row) → rows c bytes ≡ Some y → (d : ℕ) × (suc d ≡ depth) × RowAt d c bytes y) where
  tuple_read : (bytes : List ℕ) (x : Read) → (rows 93 bytes >>= λ y. let z : Read = (Value.Tuple y.0, y.1, y.2) in Some z) ≡ Some x → ValueAt depth (91 ∷ bytes) x
  tuple_read bytes x e =
      let y = bind_some (rows 93 bytes) (λ y. let z : Read = (Value.Tuple y.0, y.1, y.2) in Some z) x e in
      let here = reads 93 bytes y.0 y.1 in
      let whole = ap (λ b. 91 ∷ b) (here.2.whole ∙ sym (append_assoc here.2.text (93 ∷ []) y.0.2)) in
      subst (ValueAt depth (91 ∷ bytes)) (same_Some (Value.Tuple y.0.0, y.0.1, y.0.2) x y.2)
      (subst (λ d. ValueAt d (91 ∷ bytes) (Value.Tuple y.0.0, y.0.1, y.0.2)) here.1 (record { text = 91 ∷ here.2.text ++ 93 ∷ []; whole = whole; stands = IsValue.tuple here.2.stands }))

  list_read : (bytes : List ℕ) (x : Read) → (rows 125 bytes >>= λ y. let z : Read = (Value.List y.0, y.1, y.2) in Some z) ≡ Some x → ValueAt depth (123 ∷ bytes) x
  list_read bytes x e =
      let y = bind_some (rows 125 bytes) (λ y. let z : Read = (Value.List y.0, y.1, y.2) in Some z) x e in
      let here = reads 125 bytes y.0 y.1 in
      let whole = ap (λ b. 123 ∷ b) (here.2.whole ∙ sym (append_assoc here.2.text (125 ∷ []) y.0.2)) in
      subst (ValueAt depth (123 ∷ bytes)) (same_Some (Value.List y.0.0, y.0.1, y.0.2) x y.2)
      (subst (λ d. ValueAt d (123 ∷ bytes) (Value.List y.0.0, y.0.1, y.0.2)) here.1 (record { text = 123 ∷ here.2.text ++ 125 ∷ []; whole = whole; stands = IsValue.list here.2.stands }))

  quoted_read : (bytes : List ℕ) (x : Read) → (text_at bytes >>= λ y. let z : Read = (Value.Text y.0, [], y.1) in Some z) ≡ Some x → ValueAt depth (34 ∷ bytes) x
  quoted_read bytes x e =
      let y = bind_some (text_at bytes) (λ y. let z : Read = (Value.Text y.0, [], y.1) in Some z) x e in
      let here = text_read bytes y.0 y.1 in
      let whole = ap (λ b. 34 ∷ b) (here.0.whole ∙ sym (append_assoc here.0.text (34 ∷ []) y.0.1)) in
      subst (ValueAt depth (34 ∷ bytes)) (same_Some (Value.Text y.0.0, [], y.0.1) x y.2)
      (record { text = 34 ∷ here.0.text ++ 34 ∷ []; whole = whole; stands = IsValue.text here.1 here.0.stands })

  named_read : (bytes : List ℕ) (x : Read) → (inst_at bytes >>= λ y. let z : Read = (Value.Inst (Old y.0.number), y.0 ∷ [], y.1) in Some z) ≡ Some x → ValueAt depth bytes x
  named_read bytes x e =
      let y = bind_some (inst_at bytes) (λ y. let z : Read = (Value.Inst (Old y.0.number), y.0 ∷ [], y.1) in Some z) x e in
      let here = inst_read bytes y.0 y.1 in
      subst (ValueAt depth bytes) (same_Some (Value.Inst (Old y.0.0.number), y.0.0 ∷ [], y.0.1) x y.2)
      (record { text = y.0.0.name ++ (91 ∷ here.digits ++ 93 ∷ []); whole = here.whole; stands = IsValue.instance here.named here.low here.high here.stands })

  number_read : (bytes : List ℕ) (x : Read) → (whole_at bytes >>= λ y. let z : Read = (Value.Int y.0, [], y.1) in Some z) ≡ Some x → ValueAt depth bytes x
  number_read bytes x e =
      let y = bind_some (whole_at bytes) (λ y. let z : Read = (Value.Int y.0, [], y.1) in Some z) x e in
      let here = whole_read bytes y.0 y.1 in
      subst (ValueAt depth bytes) (same_Some (Value.Int y.0.0, [], y.0.1) x y.2)
      (record { text = here.text; whole = here.whole; stands = IsValue.number here.fits here.stands })

  by_read : (bytes : List ℕ) (x : Read) → value_by rows bytes ≡ Some x → ValueAt depth bytes x
  by_read [] x e = cc
  by_read (c ∷ bytes) x e = by (nat_eq c 91) (nat_eq c 123) (nat_eq c 34) (is_letter c) refl refl refl refl e
    where
      at : (b : ℕ) → nat_eq c b ≡ true → ValueAt depth (b ∷ bytes) x → ValueAt depth (c ∷ bytes) x
      at b is here = subst (λ c. ValueAt depth (c ∷ bytes) x) (sym (eqb-true c b is)) here

      by : (p q r s : Bool) → nat_eq c 91 ≡ p → nat_eq c 123 ≡ q → nat_eq c 34 ≡ r → is_letter c ≡ s →
          cond p (rows 93 bytes >>= λ y. let z : Read = (Value.Tuple y.0, y.1, y.2) in Some z)
          (cond q (rows 125 bytes >>= λ y. let z : Read = (Value.List y.0, y.1, y.2) in Some z)
          (cond r (text_at bytes >>= λ y. let z : Read = (Value.Text y.0, [], y.1) in Some z)
          (cond s (inst_at (c ∷ bytes) >>= λ y. let z : Read = (Value.Inst (Old y.0.number), y.0 ∷ [], y.1) in Some z)
          (whole_at (c ∷ bytes) >>= λ y. let z : Read = (Value.Int y.0, [], y.1) in Some z)))) ≡ Some x → ValueAt depth (c ∷ bytes) x
      by true q r s is _ _ _ e = at 91 is (tuple_read bytes x e)
      by false true r s _ is _ _ e = at 123 is (list_read bytes x e)
      by false false true s _ _ is _ e = at 34 is (quoted_read bytes x e)
      by false false false true _ _ _ _ e = named_read (c ∷ bytes) x e
      by false false false false _ _ _ _ e = number_read (c ∷ bytes) x e

-- any value that is read
pub value_read : (depth : ℕ) (bytes : List ℕ) (x : Read) → value_at depth bytes ≡ Some x → ValueAt depth bytes x
unfolding rows_at
value_read zero bytes x e = by_read zero (rows_at zero) (λ c bytes y e. cc) bytes x e
value_read (suc depth) bytes x e =
    by_read (suc depth) (rows_at (suc depth)) (λ c bytes y e. (depth, refl, row_read depth c (value_at depth) (value_read depth) bytes y e)) bytes x e

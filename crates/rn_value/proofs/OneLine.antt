-- A text of a value holds no newline.
use Rattle.std.proofs.Common.{◌≡◌, ◌≢◌, ℕ, ◌+◌, true, List, [], ◌∷◌, ◌++◌, sym, ap, ◌∙◌, arith}
use Rattle.std.proofs.lemmas.Bool.{false≢true}
use Rattle.std.proofs.lemmas.List.Elements.{All-from_recursion}
use Rattle.std.specs.List.{list_all, AllByRecursion}
use Rattle.rn_value.specs.Grammar.{IsNumeral, IsWholeNumber, IsEscaped, IsInside, IsText, IsRow, IsTail}
use Rattle.rn_value.specs.Characters.{is_name_byte}
use Rattle.rn_value.specs.TextLaws.{AreIdentifiers, TextsStayOnOneLine}
use Rattle.rn_value.specs.declared.value.Value.{Value}
use Rattle.rn_items.proofs.Bools.{and_left, and_right}
use Rattle.rn_value.proofs.Spelling.{name_bytes, named_is}

-- none of these bytes is a newline
abbrev pub OneLine : List ℕ → Type 0
OneLine = AllByRecursion (λ c. c ≢ 10)

-- two lists of bytes without a newline, joined, hold none
pub joined : (a b : List ℕ) → OneLine a → OneLine b → OneLine (a ++ b)
joined [] b p q = q
joined (c ∷ a) b p q = (p.0, joined a b p.1 q)

digit_line : (d : ℕ) → OneLine ((48 + d) ∷ [])
digit_line d = ((λ e. omega arith), tt)

-- a numeral holds no newline
pub numeral_line : {n : ℕ} {a : List ℕ} → IsNumeral n a → OneLine a
numeral_line (IsNumeral.digit {d = d} small) = digit_line d
numeral_line (IsNumeral.more {d = d} {prefix = prefix} low before small) = joined prefix ((48 + d) ∷ []) (numeral_line before) (digit_line d)

-- bytes without a newline, between two that are none, hold none
pub bracketed : (before after : ℕ) (a : List ℕ) → before ≢ 10 → after ≢ 10 → OneLine a → OneLine (before ∷ a ++ after ∷ [])
bracketed before after a first last line = (first, joined a (after ∷ []) line (last, tt))

escaped_line : {c : ℕ} {written : List ℕ} → IsEscaped c written → OneLine written
escaped_line IsEscaped.quote = ((λ e. omega arith), ((λ e. omega arith), tt))
escaped_line IsEscaped.backslash = ((λ e. omega arith), ((λ e. omega arith), tt))
escaped_line IsEscaped.newline = ((λ e. omega arith), ((λ e. omega arith), tt))
escaped_line IsEscaped.tab = ((λ e. omega arith), ((λ e. omega arith), tt))
escaped_line (IsEscaped.itself q b n t) = (n, tt)

-- what stands between the quotes of a text holds no newline
pub inside_line : {s a : List ℕ} → IsInside s a → OneLine a
inside_line IsInside.empty = tt
inside_line (IsInside.byte {written = written} {rest = rest} first others) = joined written rest (escaped_line first) (inside_line others)

-- bytes that may stand in a name hold no newline
pub name_line : (name : List ℕ) → list_all is_name_byte name ≡ true → OneLine name
name_line [] all = tt
name_line (c ∷ name) all = (
  (λ e. false≢true (sym (ap is_name_byte e) ∙ and_left (is_name_byte c) (list_all is_name_byte name) all)),
  name_line name (and_right (is_name_byte c) (list_all is_name_byte name) all),
)

module _ (names : List (List ℕ)) (are : AreIdentifiers names) where
  mutual
    text_line : {v : Value} {a : List ℕ} → IsText names v a → OneLine a
    text_line (IsText.number (IsWholeNumber.positive p)) = numeral_line p
    text_line (IsText.number (IsWholeNumber.negative p)) = ((λ e. omega arith), numeral_line p)
    text_line (IsText.text {bytes = a} s) = bracketed 34 34 a (λ e. omega arith) (λ e. omega arith) (inside_line s)
    text_line (IsText.tuple {bytes = a} row) = bracketed 91 93 a (λ e. omega arith) (λ e. omega arith) (row_line row)
    text_line (IsText.list {bytes = a} row) = bracketed 123 125 a (λ e. omega arith) (λ e. omega arith) (row_line row)
    text_line (IsText.instance {number = k} {name = name} {digits = digits} called p) =
        joined name (91 ∷ digits ++ 93 ∷ []) (name_line name (name_bytes name (named_is names are k name called)))
        (bracketed 91 93 digits (λ e. omega arith) (λ e. omega arith) (numeral_line p))

    row_line : {vs : List Value} {a : List ℕ} → IsRow names vs a → OneLine a
    row_line IsRow.none = tt
    row_line (IsRow.some {bytes = a} {rest = b} t others) = joined a b (text_line t) (tail_line others)

    tail_line : {vs : List Value} {a : List ℕ} → IsTail names vs a → OneLine a
    tail_line IsTail.end = tt
    tail_line (IsTail.comma {bytes = a} {rest = b} t others) = ((λ e. omega arith), joined a b (text_line t) (tail_line others))

pub on_one_line : TextsStayOnOneLine
on_one_line names v a are t = All-from_recursion (λ c. c ≢ 10) a (text_line names are t)

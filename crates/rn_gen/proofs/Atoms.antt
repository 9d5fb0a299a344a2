-- Blanks, words, numbers and signs one after another: whether a text is these is computed.
use Rattle.std.proofs.Common.{◌≡◌, ℕ, zero, suc, pos, Bool, true, false, not, ◌&&◌, List, [], ◌∷◌, ◌++◌, map, refl, sym, subst, append_assoc, nat_le, Option, Some, None, is_some, is_none, true≢false}
use Rattle.std.specs.Prelude.{unwrap_or}
use Rattle.std.specs.List.{flat_map}
use Rattle.std.proofs.Math.Dec.{T, leb→le}
use Rattle.std.proofs.lemmas.Bool.{not-true}
use Rattle.rn_items.proofs.Bools.{both_true}
use Rattle.rn_value.specs.Characters.{is_letter, is_digit, is_name_byte}
use Rattle.rn_value.specs.Words.{begins_with, is_identifier, index_of, reserved_words}
use Rattle.rn_notation.specs.Words.{is_blank, are_digits, number_of, greatest_number, signs, is_longest_sign, opens_comment}
use Rattle.rn_notation.specs.Tokens.{IsGap, IsToken}
use Rattle.rn_notation.specs.Reading.{Piece, gap, token, bytes_of, StandsBefore, ArePieces, tokens_after}
use Rattle.rn_notation.specs.declared.token.TokenKind.{TokenKind}
use Rattle.rn_notation.specs.declared.token.TokenKind.TheVariants.{Name, Word, Number, Sign}

-- a blank, or a token that these bytes are
pub data Atom : Type 0 where
  blank : ℕ → Atom
  name : List ℕ → Atom
  word : List ℕ → Atom
  number : List ℕ → Atom
  sign : List ℕ → Atom

-- the index of a text among these, and 0 where it isn't
abbrev code_in : List (List ℕ) → List ℕ → ℕ
code_in texts text = unwrap_or (index_of texts text) 0

abbrev pub piece_of : Atom → Piece
piece_of (blank c) = gap (c ∷ [])
piece_of (name text) = token (Name text) text
piece_of (word text) = token (Word (code_in reserved_words text)) text
piece_of (number digits) = token (Number (pos (number_of digits))) digits
piece_of (sign text) = token (Sign (code_in signs text)) text

-- whether what follows an atom lets it end there
abbrev fits : Atom → List ℕ → Bool
fits (blank c) rest = is_blank c
fits (name text) rest =
    is_identifier text && (not (begins_with is_name_byte rest) && is_none (index_of reserved_words text))
fits (word text) rest =
    is_identifier text && (not (begins_with is_name_byte rest) && is_some (index_of reserved_words text))
fits (number digits) rest =
    are_digits digits && (not (begins_with is_digit rest) && nat_le (number_of digits) greatest_number)
fits (sign text) rest =
    is_some (index_of signs text)
    && (is_longest_sign text (text ++ rest) && not (opens_comment (text ++ rest)))

three : (a b c : Bool) → (a && (b && c)) ≡ true → (a ≡ true) × (b ≡ true) × (c ≡ true)
three a b c h =
    let first = both_true a (b && c) h in let others = both_true b c first.1 in
    (first.0, others.0, others.1)

is_there : (o : Option ℕ) → is_some o ≡ true → o ≡ Some (unwrap_or o 0)
is_there (Some n) h = refl
is_there None h = absurd (true≢false (sym h))

is_absent : (o : Option ℕ) → is_none o ≡ true → o ≡ None
is_absent None h = refl
is_absent (Some n) h = absurd (true≢false (sym h))

stands : (atom : Atom) (rest : List ℕ) → fits atom rest ≡ true → StandsBefore (piece_of atom) rest
stands (blank c) rest h = IsGap.blank h
stands (name text) rest h =
    let stops = begins_with is_name_byte rest in let among = index_of reserved_words text in
    let all = three (is_identifier text) (not stops) (is_none among) h in
    IsToken.name all.0 (not-true stops all.1) (is_absent among all.2)
stands (word text) rest h =
    let stops = begins_with is_name_byte rest in let among = index_of reserved_words text in
    let all = three (is_identifier text) (not stops) (is_some among) h in
    IsToken.word all.0 (not-true stops all.1) (is_there among all.2)
stands (number digits) rest h =
    let stops = begins_with is_digit rest in
    let all = three (are_digits digits) (not stops) (nat_le (number_of digits) greatest_number) h in
    IsToken.number all.0 (not-true stops all.1)
    (leb→le (number_of digits) greatest_number (subst T (sym all.2) tt))
stands (sign text) rest h =
    let opens = opens_comment (text ++ rest) in let among = index_of signs text in
    let all = three (is_some among) (is_longest_sign text (text ++ rest)) (not opens) h in
    IsToken.sign (is_there among all.0) all.1 (not-true opens all.2)

abbrev pub pieces_of : List Atom → List Piece
pieces_of = map piece_of

abbrev pub bytes_in : List Atom → List ℕ
bytes_in atoms = flat_map bytes_of (pieces_of atoms)

-- whether each atom may end where the next begins, and the last before the rest
abbrev pub are_read : List Atom → List ℕ → Bool
are_read [] rest = true
are_read (atom ∷ atoms) rest = fits atom (bytes_in atoms ++ rest) && are_read atoms rest

pub are_pieces : (atoms : List Atom) (rest : List ℕ) → are_read atoms rest ≡ true →
    ArePieces (bytes_in atoms ++ rest) (pieces_of atoms) rest
are_pieces [] rest h = refl
are_pieces (atom ∷ atoms) rest h =
    let after = bytes_in atoms ++ rest in
    let both = both_true (fits atom after) (are_read atoms rest) h in (
      after,
      append_assoc (bytes_of (piece_of atom)) (bytes_in atoms) rest,
      stands atom after both.0,
      are_pieces atoms rest both.1,
    )

-- the bytes at the start of a text that pass a test, and those after them
unfoldable pub span : (ℕ → Bool) → List ℕ → List ℕ × List ℕ
span test [] = ([], [])
span test (c ∷ text) =
    elim (test c) [
      | true ↦ (let others = span test text in (c ∷ others.0, others.1))
      | false ↦ ([], c ∷ text)
    ]

unfoldable pub word_or_name : List ℕ → Atom
word_or_name text = elim (is_some (index_of reserved_words text)) [ true ↦ word text | false ↦ name text ]

-- the atom at the start of a text, and what follows it
unfoldable pub first_atom : ℕ → List ℕ → Atom × List ℕ
first_atom c text =
    elim (is_blank c) [
      | true ↦ (blank c, text)
      | false ↦ elim (is_letter c) [
        | true ↦ (let both = span is_name_byte (c ∷ text) in (word_or_name both.0, both.1))
        | false ↦ elim (is_digit c) [
          | true ↦ (let both = span is_digit (c ∷ text) in (number both.0, both.1))
          | false ↦ (sign (c ∷ []), text)
        ]
      ]
    ]

-- so many atoms of a text, where no sign in it is longer than a byte
unfoldable pub atoms_of : ℕ → List ℕ → List Atom
atoms_of zero text = []
atoms_of (suc k) [] = []
atoms_of (suc k) (c ∷ text) = let first = first_atom c text in first.0 ∷ atoms_of k first.1

-- the kinds of the tokens among pieces
abbrev pub kinds_in : List Piece → List TokenKind
kinds_in [] = []
kinds_in (gap prefix ∷ pieces) = kinds_in pieces
kinds_in (token kind prefix ∷ pieces) = kind ∷ kinds_in pieces

pub kinds_are : (before : List ℕ) (pieces : List Piece) →
    map (λ t. t.kind) (tokens_after before pieces) ≡ kinds_in pieces
kinds_are before [] = refl
kinds_are before (gap prefix ∷ pieces) = kinds_are (before ++ prefix) pieces
kinds_are before (token kind prefix ∷ pieces) =
    (λ i. kind ∷ kinds_are (before ++ prefix) pieces i)

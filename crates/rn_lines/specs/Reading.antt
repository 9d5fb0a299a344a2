-- What the readers give, as functions on lists of bytes. Each gives what stands at the start, with
-- the bytes after it, or nothing. (They connect the code to the grammar of `ValueText`; the promise
-- of `read_value` is stated by the grammar alone.)
use Rattle.std.specs.Prelude.{◌≡◌, ℕ, zero, suc, ◌+◌, ◌-◌, ◌^◌, ℤ, pos, negsuc, List, [], ◌∷◌, ◌++◌, length, take, drop, Bool, true, false, not, ◌&&◌, nat_eq, nat_le, Option, Some, None, Result, Ok, Err, if◌then◌else◌}
use Rattle.std.specs.List.{prefix_len}
use Rattle.std.specs.Str.{is_utf8}
use Rattle.rn_value.specs.Characters.{is_letter, is_digit, is_name_byte, number_after}
use Rattle.rn_value.specs.TextLaws.{is_delimiter}
use Rattle.rn_value.specs.Words.{is_name}
use Rattle.rn_value.specs.declared.value.InstRef.TheVariants.{Old}
use Rattle.rn_value.specs.declared.value.Value.{Value}
use Rattle.rn_value.specs.declared.value.Value.TheVariants as Value
use Rattle.rn_lines.specs.ValueText.{Said, Seen, most_brackets}
use Rattle.rn_lines.specs.declared.unread.Unread.{Unread}
use Rattle.rn_lines.specs.declared.unread.Unread.TheVariants as unread

infixl 10 ◌>>=◌
abbrev pub ◌>>=◌ : {A B : Type 0} → Option A → (A → Option B) → Option B
None >>= f = None
(Some x) >>= f = f x

-- Nothing was read: nothing is there, unless memory ran out.
abbrev pub Misses : {Y : Type 0} → Unread → Option Y → Type 0
Misses unread.NotThere read = read ≡ None
Misses (unread.NoMemory _) read = Unit {0}

-- What a function returned, seen by `view`, is what there is to read, unless memory ran out.
abbrev pub ReturnsRead : {X Y : Type 0} → (X → Y) → Result X Unread → Option Y → Type 0
ReturnsRead view (Ok x) read = read ≡ Some (view x)
ReturnsRead view (Err e) read = Misses e read

-- digits that begin with 0 only where it is the one digit
abbrev pub are_plain : List ℕ → Bool
are_plain [] = false
are_plain (d ∷ []) = true
are_plain (d ∷ e ∷ ds) = not (nat_eq d 48)

-- the number of these digits, where they are plain and it isn't greater than `most`
abbrev pub plain_number : ℕ → List ℕ → Option ℕ
plain_number most digits =
    if are_plain digits && nat_le (number_after 0 digits) most
    then Some (number_after 0 digits) else None

-- a numeral of a number up to `most`
abbrev pub numeral_at : ℕ → List ℕ → Option (ℕ × List ℕ)
numeral_at most bytes =
    plain_number most (take (prefix_len is_digit bytes) bytes) >>= λ n.
    Some (n, drop (prefix_len is_digit bytes) bytes)

-- the whole number below 0 that is this far from it
abbrev pub negative : ℕ × List ℕ → Option (ℤ × List ℕ)
negative (n, rest) = if nat_eq n 0 then None else Some (negsuc (n - 1), rest)

-- a whole number of 64 bits
abbrev pub whole_at : List ℕ → Option (ℤ × List ℕ)
whole_at [] = None
whole_at (c ∷ bytes) =
    if nat_eq c 45 then numeral_at (2 ^ 63) bytes >>= negative
    else numeral_at (2 ^ 63 - 1) (c ∷ bytes) >>= λ n. Some (pos n.0, n.1)

-- the byte that a byte stands for behind a backslash
abbrev pub meaning : ℕ → Option ℕ
meaning c =
    if nat_eq c 34 then Some 34
    else if nat_eq c 92 then Some 92
    else if nat_eq c 110 then Some 10
    else if nat_eq c 116 then Some 9
    else None

-- whether a byte is no newline and no tab
abbrev pub is_plain : ℕ → Bool
is_plain c = not (nat_eq c 10) && not (nat_eq c 9)

-- what was read, with a byte before it
abbrev pub with_byte : ℕ → Option (List ℕ × List ℕ) → Option (List ℕ × List ℕ)
with_byte c read = read >>= λ x. Some (c ∷ x.0, x.1)

-- what stands before a quote, by the bytes that it means
abbrev pub inside_at : List ℕ → Option (List ℕ × List ℕ)
inside_at [] = None
inside_at (c ∷ []) = if nat_eq c 34 then Some ([], []) else None
inside_at (c ∷ d ∷ bytes) =
    if nat_eq c 34 then Some ([], d ∷ bytes)
    else if nat_eq c 92 then (meaning d >>= λ byte. with_byte byte (inside_at bytes))
    else if is_plain c then with_byte c (inside_at (d ∷ bytes))
    else None

-- a text behind its opening quote
abbrev pub text_at : List ℕ → Option (List ℕ × List ℕ)
text_at bytes = inside_at bytes >>= λ x. if is_utf8 x.0 then Some x else None

-- one byte
abbrev pub byte_at : ℕ → List ℕ → Option (List ℕ)
byte_at byte [] = None
byte_at byte (c ∷ bytes) = if nat_eq c byte then Some bytes else None

-- a number in brackets that isn't 0 and has 32 bits
abbrev pub bracketed_at : List ℕ → Option (ℕ × List ℕ)
bracketed_at bytes =
    byte_at 91 bytes >>= λ digits.
    numeral_at (2 ^ 32 - 1) digits >>= λ n.
    if nat_eq n.0 0 then None else byte_at 93 n.1 >>= λ rest. Some (n.0, rest)

-- a name: the longest run of letters, digits and `_`, where it is one
abbrev pub name_at : List ℕ → Option (List ℕ × List ℕ)
name_at bytes =
    if is_name (take (prefix_len is_name_byte bytes) bytes)
    then Some (take (prefix_len is_name_byte bytes) bytes, drop (prefix_len is_name_byte bytes) bytes)
    else None

-- the name of a net, and such a number
abbrev pub inst_at : List ℕ → Option (Said × List ℕ)
inst_at bytes =
    name_at bytes >>= λ name.
    bracketed_at name.1 >>= λ n.
    Some (record { name = name.0; number = n.0 }, n.1)

-- What follows depends on the brackets that may still open. A row is what stands between two
-- brackets; `item` reads one value in it.

-- what was read of a row, with values before it, and with what was said before it
abbrev pub with_front : List Value → List Said → Option (List Value × List Said × List ℕ) →
    Option (List Value × List Said × List ℕ)
with_front vs said read = read >>= λ x. Some (vs ++ x.0, said ++ x.1, x.2)

-- a value, with what was said before it
abbrev pub after : List Said → Option (Value × List Said × List ℕ) →
    Option (Value × List Said × List ℕ)
after said read = read >>= λ x. Some (x.0, said ++ x.1, x.2)

-- values, each behind a comma, up to the closing bracket; at most `most` bytes are looked at for a
-- comma or that bracket
abbrev pub tail_at : (List ℕ → Option (Value × List Said × List ℕ)) → ℕ → ℕ → List ℕ →
    Option (List Value × List Said × List ℕ)
tail_at item close zero bytes = None
tail_at item close (suc most) [] = None
tail_at item close (suc most) (c ∷ bytes) =
    if nat_eq c 44
    then (item bytes >>= λ x. with_front (x.0 ∷ []) x.1 (tail_at item close most x.2))
    else if nat_eq c close then Some ([], [], bytes) else None

-- values with commas between, up to the closing bracket
abbrev pub row_at : (List ℕ → Option (Value × List Said × List ℕ)) → ℕ → List ℕ →
    Option (List Value × List Said × List ℕ)
row_at item close [] = None
row_at item close (c ∷ bytes) =
    if nat_eq c close then Some ([], [], bytes)
    else (item (c ∷ bytes) >>= λ x.
    with_front (x.0 ∷ []) x.1 (tail_at item close (length (c ∷ bytes)) x.2))

-- a value, by what reads a row up to its closing bracket
abbrev pub value_by : (ℕ → List ℕ → Option (List Value × List Said × List ℕ)) → List ℕ →
    Option (Value × List Said × List ℕ)
value_by rows [] = None
value_by rows (c ∷ bytes) =
    if nat_eq c 91 then (rows 93 bytes >>= λ x. Some (Value.Tuple x.0, x.1, x.2))
    else if nat_eq c 123 then (rows 125 bytes >>= λ x. Some (Value.List x.0, x.1, x.2))
    else if nat_eq c 34 then (text_at bytes >>= λ x. Some (Value.Text x.0, [], x.1))
    else if is_letter c
    then (inst_at (c ∷ bytes) >>= λ x. Some (Value.Inst (Old x.0.number), x.0 ∷ [], x.1))
    else (whole_at (c ∷ bytes) >>= λ x. Some (Value.Int x.0, [], x.1))

-- a row, where this many brackets may open, its own among them
unfoldable pub rows_at : ℕ → ℕ → List ℕ → Option (List Value × List Said × List ℕ)
rows_at zero close bytes = None
rows_at (suc depth) close bytes = row_at (value_by (rows_at depth)) close bytes

-- a value, where this many brackets may open
abbrev pub value_at : ℕ → List ℕ → Option (Value × List Said × List ℕ)
value_at depth = value_by (rows_at depth)

-- a value, whatever follows it
abbrev pub front_at : List ℕ → Option Seen
front_at bytes =
    value_at most_brackets bytes >>= λ x.
    Some (record { value = x.0; named = x.1; rest = x.2 })

-- whether there are no bytes, or a delimiter stands first
abbrev pub is_delimited : List ℕ → Bool
is_delimited [] = true
is_delimited (c ∷ bytes) = is_delimiter c

-- a value before a delimiter or the end
abbrev pub seen_at : List ℕ → Option Seen
seen_at bytes =
    value_at most_brackets bytes >>= λ x.
    if is_delimited x.2 then Some (record { value = x.0; named = x.1; rest = x.2 }) else None

-- Identifiers, reserved words, and names.
use Rattle.std.specs.Prelude.{ℕ, suc, Bool, false, not, ◌&&◌, List, [], ◌∷◌, IsTrue, codes}
use Rattle.std.specs.Prelude.{Option, Some, None, option_map, bytes_eq, if◌then◌else◌}
use Rattle.std.specs.List.{list_all}
use Rattle.std.specs.Option.{is_some}
use Rattle.rn_value.specs.Characters.{is_letter, is_name_byte}

-- whether a text begins with a byte that passes the test
abbrev pub begins_with : (ℕ → Bool) → List ℕ → Bool
begins_with test [] = false
begins_with test (c ∷ text) = test c

-- a letter, and then letters, digits and `_`
abbrev pub is_identifier : List ℕ → Bool
is_identifier word = begins_with is_letter word && list_all is_name_byte word

-- A text is an identifier.
abbrev pub IsIdentifier : List ℕ → Type 0
IsIdentifier word = IsTrue (is_identifier word)

-- the first index, from 0, at which a word stands among words
abbrev pub index_of : List (List ℕ) → List ℕ → Option ℕ
index_of [] word = None
index_of (w ∷ words) word =
    if bytes_eq w word then Some 0 else option_map suc (index_of words word)

-- the words of the notation that are no names, in the order of their numbers
unfoldable pub reserved_words : List (List ℕ)
reserved_words =
    codes "net" ∷ codes "place" ∷ codes "trans" ∷ codes "channel" ∷ codes "var"
    ∷ codes "in" ∷ codes "out" ∷ codes "test" ∷ codes "reserve"
    ∷ codes "flexin" ∷ codes "flexout" ∷ codes "inhibit" ∷ codes "clear"
    ∷ codes "guard" ∷ codes "action" ∷ codes "print" ∷ codes "new" ∷ codes "this"
    ∷ codes "int" ∷ codes "text" ∷ []

-- whether a text is a reserved word
abbrev pub is_reserved : List ℕ → Bool
is_reserved word = is_some (index_of reserved_words word)

-- A name is an identifier that is no reserved word.
abbrev pub is_name : List ℕ → Bool
is_name word = is_identifier word && not (is_reserved word)

-- A text is a name.
abbrev pub IsName : List ℕ → Type 0
IsName word = IsTrue (is_name word)

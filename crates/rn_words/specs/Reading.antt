-- Reading words from the left up to the first bad one.
use Rattle.std.specs.Prelude.{ℕ, suc, List, [], ◌∷◌, ◌&&◌, Option, Some, None, Result, Ok, Err}
use Rattle.std.specs.Prelude.{nat_eq, not, take, drop, option_and_then, if◌then◌else◌}
use Rattle.std.specs.List.{prefix_len}
use Rattle.rn_words.specs.declared.table.Verb.{Verb}
use Rattle.rn_words.specs.declared.table.Verb.TheVariants.{Gen}
use Rattle.rn_words.specs.declared.table.Setting.{Setting}
use Rattle.rn_words.specs.declared.chosen.OptionValue.{OptionValue}
use Rattle.rn_words.specs.declared.chosen.Chosen.{Chosen}
use Rattle.rn_words.specs.declared.options.State.{State}
use Rattle.rn_words.specs.declared.command.Command.{Command}
use Rattle.rn_words.specs.declared.command.WordsFault.{WordsFault}
use Rattle.rn_words.specs.declared.command.WordsFault.TheVariants.{U1, U2, U3}
use Rattle.rn_words.specs.Table.{verb_named, setting_named, takes, most_copies}
use Rattle.rn_words.specs.Values.{value_within, value_of}
use Rattle.rn_words.specs.Choices.{nothing, is_given, goes_with, fits, with_given, command_of}

-- what stands after the two dashes with which a word begins
abbrev pub after_dashes : List ℕ → Option (List ℕ)
after_dashes [] = None
after_dashes (a ∷ []) = None
after_dashes (a ∷ b ∷ rest) = if nat_eq a 45 && nat_eq b 45 then Some rest else None

-- how many bytes stand before the first `=`, or at all
abbrev pub name_length : List ℕ → ℕ
name_length word = prefix_len (λ c. not (nat_eq c 61)) word

-- what stands before the first `=`, and all where there is none
abbrev pub name_part : List ℕ → List ℕ
name_part word = take (name_length word) word

-- all but the first byte
abbrev pub after_first : List ℕ → Option (List ℕ)
after_first [] = None
after_first (c ∷ rest) = Some rest

-- what stands after the first `=`
abbrev pub value_part : List ℕ → Option (List ℕ)
value_part word = after_first (drop (name_length word) word)

-- an option that the command takes, that wasn't given and goes with those that were
abbrev pub if_next : Verb → Chosen → Option Setting → Option Setting
if_next verb chosen None = None
if_next verb chosen (Some s) =
    if takes verb s && not (is_given chosen s) && goes_with chosen s then Some s else None

-- the option that a word names, where it may stand
abbrev pub option_of : Verb → Chosen → List ℕ → Option Setting
option_of verb chosen word =
    option_and_then (λ rest. if_next verb chosen (setting_named (name_part rest)))
    (after_dashes word)

-- a value that goes with the options that were given
abbrev pub if_fit : Chosen → Option OptionValue → Option OptionValue
if_fit chosen None = None
if_fit chosen (Some value) = if fits chosen value then Some value else None

-- the option is given this value, where it is one
abbrev pub with_one : Chosen → Setting → ℕ → Option OptionValue → Result State WordsFault
with_one chosen s at None = Err (U3 at)
with_one chosen s at (Some value) =
    Ok (record { chosen = with_given chosen s value; awaits = None })

-- the word with this number is the option's value
abbrev pub with_value : Chosen → Setting → ℕ → List ℕ → Result State WordsFault
with_value chosen s at word = with_one chosen s at (if_fit chosen (value_of s word))

-- the word with this number names the option, and has its value where it has a `=`
abbrev pub with_option : Chosen → Setting → ℕ → Option (List ℕ) → Result State WordsFault
with_option chosen s at None = Ok (record { chosen = chosen; awaits = Some s })
with_option chosen s at (Some value) = with_value chosen s at value

-- the word with this number stands where an option may
abbrev pub as_option : Chosen → ℕ → List ℕ → Option Setting → Result State WordsFault
as_option chosen at word None = Err (U2 at)
as_option chosen at word (Some s) = with_option chosen s at (value_part word)

-- one more word
abbrev pub after_word : Verb → ℕ → List ℕ → Chosen → Option Setting → Result State WordsFault
after_word verb at word chosen (Some s) = with_value chosen s at word
after_word verb at word chosen None = as_option chosen at word (option_of verb chosen word)

-- the options when all words are read: no value is awaited
abbrev pub at_end : ℕ → Chosen → Option Setting → Result Chosen WordsFault
at_end at chosen None = Ok chosen
at_end at chosen (Some s) = Err (U3 at)

-- what comes after a result, where it is no fault
abbrev pub and_then : {A B : Type 0} → (A → Result B WordsFault) → Result A WordsFault →
    Result B WordsFault
and_then next (Err fault) = Err fault
and_then next (Ok x) = next x

-- the options that these words give, the first of which has this number, or the first bad word
abbrev pub read_from : Verb → ℕ → Chosen → Option Setting → List (List ℕ) →
    Result Chosen WordsFault
read_from verb at chosen awaits [] = at_end at chosen awaits
read_from verb at chosen awaits (word ∷ words) =
    and_then (λ state. read_from verb (suc at) state.chosen state.awaits words)
    (after_word verb at word chosen awaits)

-- the command of these options
abbrev pub as_command : Verb → ℕ → Result Chosen WordsFault → Result Command WordsFault
as_command verb n (Err fault) = Err fault
as_command verb n (Ok chosen) = Ok (command_of verb n chosen)

-- the words after `gen` and its number
abbrev pub read_copies : Option ℕ → List (List ℕ) → Result Command WordsFault
read_copies None words = Err (U3 2)
read_copies (Some n) words = as_command Gen n (read_from Gen 3 nothing None words)

-- the words after a command's word
abbrev pub read_after : Verb → List (List ℕ) → Result Command WordsFault
read_after Gen [] = Err (U3 2)
read_after Gen (word ∷ words) = read_copies (value_within 1 most_copies word) words
read_after verb words = as_command verb 0 (read_from verb 2 nothing None words)

-- the words from a command's word on, where it is one
abbrev pub read_verb : Option Verb → List (List ℕ) → Result Command WordsFault
read_verb None words = Err (U1 1)
read_verb (Some verb) words = read_after verb words

-- the command that words give, or the first bad word
abbrev pub reading : List (List ℕ) → Result Command WordsFault
reading [] = Err (U1 1)
reading (word ∷ words) = read_verb (verb_named word) words

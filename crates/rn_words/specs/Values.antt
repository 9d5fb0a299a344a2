-- Values of options.
use Rattle.std.specs.Prelude.{ℕ, ◌-◌, List, Bool, ◌&&◌, Option, Some, None, length}
use Rattle.std.specs.Prelude.{nat_le, option_map, if◌then◌else◌}
use Rattle.std.specs.List.{list_all}
use Rattle.rn_value.specs.Characters.{is_digit, number_after}
use Rattle.rn_words.specs.declared.table.Setting.{Setting}
use Rattle.rn_words.specs.declared.table.Setting.TheVariants.{Pick}
use Rattle.rn_words.specs.declared.chosen.OptionValue.{OptionValue}
use Rattle.rn_words.specs.declared.chosen.OptionValue.TheVariants.{Number, Picks}
use Rattle.rn_words.specs.Table.{pick_named, least, most}

-- whether a word is one to six digits
abbrev pub is_number : List ℕ → Bool
is_number word = nat_le 1 (length word) && nat_le (length word) 6 && list_all is_digit word

-- the number that a word spells, where it is one to six digits, leading zeros allowed, and is
-- within these limits
abbrev pub value_within : ℕ → ℕ → List ℕ → Option ℕ
value_within least most word =
    if is_number word && nat_le least (number_after 0 word) && nat_le (number_after 0 word) most
    then Some (number_after 0 word) else None

-- the value of an option that a word spells: which binding is picked, or a number
abbrev pub value_of : Setting → List ℕ → Option OptionValue
value_of Pick word = option_map Picks (pick_named word)
value_of s word = option_map Number (value_within (least s) (most s) word)

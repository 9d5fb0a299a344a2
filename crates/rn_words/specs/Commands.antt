-- The words that are accepted, and the commands that they give.
use Rattle.std.specs.Prelude.{ℕ, ◌≡◌, ◌≢◌, List, [], ◌∷◌, ◌++◌, Some, true, false, codes}
use Rattle.rn_words.specs.declared.table.Verb.{Verb}
use Rattle.rn_words.specs.declared.table.Verb.TheVariants.{Gen}
use Rattle.rn_words.specs.declared.table.Setting.{Setting}
use Rattle.rn_words.specs.declared.chosen.Chosen.{Chosen}
use Rattle.rn_words.specs.declared.command.Command.{Command}
use Rattle.rn_words.specs.declared.chosen.OptionValue.{OptionValue}
use Rattle.rn_words.specs.Table.{verb_word, setting_name, takes, most_copies}
use Rattle.rn_words.specs.Values.{value_within, value_of}
use Rattle.rn_words.specs.Choices.{nothing, is_given, goes_with, fits, with_given, command_of}

-- an option's word without a value
abbrev pub dashed : Setting → List ℕ
dashed s = codes "--" ++ setting_name s

-- an option that the command takes, that wasn't given and goes with those that were, and a word
-- that is a value of it, which goes with them too
pub record IsNextOption (verb : Verb) (chosen : Chosen) (s : Setting) (word : List ℕ) (value : OptionValue)
    : Type 0 where
  pub taken : takes verb s ≡ true
  pub first : is_given chosen s ≡ false
  pub goes : goes_with chosen s ≡ true
  pub spells : value_of s word ≡ Some value
  pub fit : fits chosen value ≡ true

-- Words that give options after those that are chosen, in any order, each at most once: an option
-- and its value are one word, joined by `=`, or two.
pub data GivesOptions (verb : Verb) : Chosen → List (List ℕ) → Chosen → Type 0 where
  done : {chosen : Chosen} → GivesOptions verb chosen [] chosen
  joined : {chosen all : Chosen} {words : List (List ℕ)} (s : Setting) (word : List ℕ)
      (value : OptionValue) → IsNextOption verb chosen s word value →
      GivesOptions verb (with_given chosen s value) words all →
      GivesOptions verb chosen ((dashed s ++ 61 ∷ word) ∷ words) all
  apart : {chosen all : Chosen} {words : List (List ℕ)} (s : Setting) (word : List ℕ)
      (value : OptionValue) → IsNextOption verb chosen s word value →
      GivesOptions verb (with_given chosen s value) words all →
      GivesOptions verb chosen (dashed s ∷ word ∷ words) all

-- the words after a command's word; after `gen` the first is the number of workers
pub data FollowsVerb : Verb → List (List ℕ) → Command → Type 0 where
  options : {verb : Verb} {words : List (List ℕ)} {chosen : Chosen} → verb ≢ Gen →
      GivesOptions verb nothing words chosen → FollowsVerb verb words (command_of verb 0 chosen)
  copies : {words : List (List ℕ)} {chosen : Chosen} (word : List ℕ) (n : ℕ) →
      value_within 1 most_copies word ≡ Some n → GivesOptions Gen nothing words chosen →
      FollowsVerb Gen (word ∷ words) (command_of Gen n chosen)

-- the words are accepted and give this command
abbrev pub WordsOk : List (List ℕ) → Command → Type 0
WordsOk words c = (verb : Verb) × (rest : List (List ℕ))
    × (words ≡ verb_word verb ∷ rest) × FollowsVerb verb rest c

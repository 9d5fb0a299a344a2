-- Laws of words: which are accepted, what they give, and which word is the first bad one.
use Rattle.std.specs.Prelude.{ℕ, ◌≡◌, ◌≤◌, ◌+◌, ◌-◌, ◌↔◌, List, ◌++◌, length, take, Ok, Err, ⊤}
use Rattle.rn_model.specs.Good.{IsInLimits}
use Rattle.rn_model.specs.Limits.{greatest_depth}
use Rattle.rn_words.specs.declared.command.Command.{Command}
use Rattle.rn_words.specs.declared.command.Command.TheVariants.{Run, RunLeast, RunSeeded, Check, Print}
use Rattle.rn_words.specs.declared.command.Command.TheVariants.{Enabled, Replay, Gen, GenSeeded}
use Rattle.rn_words.specs.declared.command.Command.TheVariants.{Session, Counts, Moves, Pt, Migrate}
use Rattle.rn_words.specs.declared.command.WordsFault.{WordsFault}
use Rattle.rn_words.specs.declared.command.WordsFault.TheVariants.{U1, U2, U3}
use Rattle.rn_words.specs.Commands.{WordsOk}
use Rattle.rn_words.specs.Reading.{reading}
use Rattle.rn_words.specs.Table.{most_copies, greatest_seed}

-- reading gives a command exactly where the words are accepted and give it
abbrev pub ReadsWhatIsAccepted : Type 0
ReadsWhatIsAccepted = (words : List (List ℕ)) (c : Command) → reading words ≡ Ok c ↔ WordsOk words c

-- the numbers of a command are within their limits
abbrev pub IsWithinLimits : Command → Type 0
IsWithinLimits (Run options) = IsInLimits options
IsWithinLimits (RunLeast options) = IsInLimits options
IsWithinLimits (RunSeeded options seed) = IsInLimits options × (seed ≤ greatest_seed)
IsWithinLimits Check = ⊤
IsWithinLimits Print = ⊤
IsWithinLimits (Enabled depth) = depth ≤ greatest_depth
IsWithinLimits (Replay options) = IsInLimits options
IsWithinLimits (Gen copies options) = ((1 ≤ copies) × (copies ≤ most_copies)) × IsInLimits options
IsWithinLimits (GenSeeded copies options seed) =
    ((1 ≤ copies) × (copies ≤ most_copies)) × IsInLimits options × (seed ≤ greatest_seed)
IsWithinLimits (Session options) = IsInLimits options
IsWithinLimits (Counts options) = IsInLimits options
IsWithinLimits (Moves options) = IsInLimits options
IsWithinLimits Pt = ⊤
IsWithinLimits Migrate = ⊤

-- accepted words give a command within the limits
abbrev pub AcceptedAreWithinLimits : Type 0
AcceptedAreWithinLimits = (words : List (List ℕ)) (c : Command) → WordsOk words c →
    IsWithinLimits c

-- some accepted words begin with these
abbrev pub CanGoOn : List (List ℕ) → Type 0
CanGoOn words = (rest : List (List ℕ)) × (c : Command) × WordsOk (words ++ rest) c

-- the number of the bad word
abbrev pub number_of_fault : WordsFault → ℕ
number_of_fault (U1 at) = at
number_of_fault (U2 at) = at
number_of_fault (U3 at) = at

-- The first bad word: some accepted words begin with those before it, and none begin with those up
-- to and with it; or it is one past the last, and the words aren't accepted.
pub record IsFirstBad (words : List (List ℕ)) (at : ℕ) : Type 0 where
  pub number : 1 ≤ at
  pub within : at ≤ length words + 1
  pub before : CanGoOn (take (at - 1) words)
  pub stuck : at ≤ length words → ¬ CanGoOn (take at words)
  pub refused : (c : Command) → ¬ WordsOk words c

-- a fault names the first bad word
abbrev pub FaultsNameTheFirst : Type 0
FaultsNameTheFirst = (words : List (List ℕ)) (fault : WordsFault) →
    reading words ≡ Err fault → IsFirstBad words (number_of_fault fault)

-- What is kept of a system: rows of answering transitions, and heights.
use Rattle.std.specs.Prelude.{ℕ, zero, suc, ◌≡◌, List, [], ◌∷◌, Option, Some, None, unwrap_or, ⊤}
use Rattle.std.specs.Prelude.{length, Bool, false, slice_index_or, if◌then◌else◌}
use Rattle.std.specs.BTreeMap.{BTreeMap, get}
use Rattle.std.specs.Ordering.{nat_cmp}
use Rattle.rn_model.specs.declared.system.Transition.{Transition}
use Rattle.rn_model.specs.declared.system.System.{System}
use Rattle.rn_channel.specs.Answering.{answering_from}
use Rattle.rn_channel.specs.Heights.{is_answered, suffices}

-- the transitions of a channel, and none where it has no row
abbrev pub looked_up : BTreeMap ℕ (List ℕ) → ℕ → List ℕ
looked_up rows channel = unwrap_or (get nat_cmp rows channel) []

-- the rows have just the transitions of each channel
abbrev pub HasRows : BTreeMap ℕ (List ℕ) → List Transition → Type 0
HasRows rows transitions = (channel : ℕ) → looked_up rows channel ≡ answering_from channel 0 transitions

-- for each channel, whether fewer levels of calls than this suffice to answer it
pub record IsLevel (system : System) (k : ℕ) (level : List Bool) : Type 0 where
  pub size : length level ≡ length system.channels
  pub each : (channel : ℕ) → slice_index_or level channel false ≡ is_answered system k channel

-- the same for each number of levels from k on
abbrev pub AreLevelsFrom : System → ℕ → List (List Bool) → Type 0
AreLevelsFrom system k [] = ⊤
AreLevelsFrom system k (level ∷ levels) =
    IsLevel system k level × AreLevelsFrom system (suc k) levels

-- the least number of levels, from k on, among these many that suffices
abbrev pub least_height : System → Transition → ℕ → ℕ → Option ℕ
least_height system t k zero = None
least_height system t k (suc more) =
    if suffices system k t then Some k else least_height system t (suc k) more

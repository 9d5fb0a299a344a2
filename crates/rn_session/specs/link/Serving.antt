-- What one line of a session writes. This only connects the code to the definitions.
use Rattle.std.specs.Prelude.{ℕ, ◌≡◌, ◌-◌, List, [], ◌∷◌, ◌++◌, length, slice_get, Option, Some, None}
use Rattle.std.specs.Option.{option_map_or}
use Rattle.rn_model.specs.declared.log.Entry.{Entry}
use Rattle.rn_record.specs.RecordText.{entry_text, names_past}
use Rattle.rn_record.specs.Writable.{HasEntry}
use Rattle.rn_fire.specs.States.{State, logged}
use Rattle.rn_served.specs.Entries.{names_of}
use Rattle.rn_served.specs.Lines.{lines_of}
use Rattle.rn_served.specs.Served.{AnswersRequest, Served}
use Rattle.rn_served.specs.declared.requests.FireAnswer.{FireAnswer}
use Rattle.rn_served.specs.declared.requests.FireAnswer.TheVariants as Gives
use Rattle.rn_served.specs.declared.requests.Request.{Request}
use Rattle.rn_session.specs.Sessions.{so_far}

-- the names of the nets of all instances made so far
abbrev pub names_at : State → List (List ℕ)
names_at s = names_of s.setup.system (so_far s)

-- What is asked for was answered: what the definition says was written behind what was written before.
pub record IsAnswered (old : State) (asked : Request) (before : List ℕ) (new : State) (after : List ℕ)
    : Type 0 where
  pub text : List ℕ
  pub answers : AnswersRequest old.setup.system old.setup.options (so_far old) asked text (so_far new)
  pub written : after ≡ before ++ text
  pub setup : new.setup ≡ old.setup

-- The last entry of a state, behind others, can be written where the instances before it have these
-- names, and it leads to those of the state.
pub record HasLast (s : State) (names : List (List ℕ)) : Type 0 where
  pub entry : Entry
  pub before : List Entry
  pub last : logged s ≡ before ++ entry ∷ []
  pub written : HasEntry s.setup.system names entry
  pub named : names_at s ≡ names_past s.setup.system names entry

-- the names of a state begin with those of an earlier one, whose names these are to be cut to
abbrev pub AreNamesBefore : State → List (List ℕ) → Type 0
AreNamesBefore s names = (more : List (List ℕ)) × (names ≡ names_at s ++ more)

-- the lines of the last entry of a state, where the instances before it have these names
abbrev pub last_text : State → List (List ℕ) → List ℕ
last_text s names =
    option_map_or (entry_text s.setup.system names (length (logged s)))
    (slice_get (logged s) (length (logged s) - 1)) []

-- why a firing was refused, where it was
abbrev pub refusal_of : FireAnswer → Option ℕ
refusal_of (Gives.Refused number) = Some number
refusal_of answer = None

-- The lines were answered in order: what the definition says was written behind what was written
-- before.
abbrev pub ServesAll : State → List ℕ → List ℕ → List ℕ → Type 0
ServesAll s bytes before after =
    (text : List ℕ) × Served s.setup.system s.setup.options (lines_of bytes) (so_far s) text
    × (after ≡ before ++ text)

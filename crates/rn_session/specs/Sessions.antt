-- What the calls of a session give. A session is seen as the state of its run.
use Rattle.std.specs.Prelude.{ℕ, ◌≡◌, Bool, true, false, Result, Ok, Err}
use Rattle.rn_items.specs.declared.memory.NoMemory.{NoMemory}
use Rattle.rn_fire.specs.States.{State, IsState, end_marking}
use Rattle.rn_served.specs.Entries.{Entries}
use Rattle.rn_served.specs.Served.{FiresTo, TakesBack, UndoRefused}
use Rattle.rn_served.specs.declared.requests.FireAnswer.{FireAnswer}
use Rattle.rn_served.specs.declared.requests.FireAnswer.TheVariants as Gives

-- the entries so far
abbrev pub so_far : State → Entries
so_far s = record { fired = s.fired; ended = s.ended }

-- What is true of each session: its state is that of a run, and its table keeps each instance that
-- was made.
pub record IsSession (s : State) : Type 0 where
  pub state : IsState s
  pub all : s.table.marking ≡ end_marking s

-- a refusal changes nothing, and nothing changes the system and the options
abbrev pub Stays : State → FireAnswer → State → Type 0
Stays old (Gives.Refused number) new = new ≡ old
Stays old answer new = new.setup ≡ old.setup

-- What `fire` gives: what the definition of a session says of the entries; or, out of memory, nothing
-- has changed.
abbrev pub FiresBy : State → ℕ → Result FireAnswer NoMemory → State → Type 0
FiresBy old k (Ok answer) new =
    FiresTo old.setup.system old.setup.options (so_far old) k answer (so_far new)
    × Stays old answer new
FiresBy old k (Err refused) new = new ≡ old

-- What `undo` gives: the last entries are taken back, or there aren't so many and nothing has changed.
-- It is never out of memory.
abbrev pub UndoesBy : State → ℕ → Result Bool NoMemory → State → Type 0
UndoesBy old k (Ok true) new = TakesBack k (so_far old) (so_far new) × (new.setup ≡ old.setup)
UndoesBy old k (Ok false) new = UndoRefused k (so_far old) × (new ≡ old)
UndoesBy old k (Err refused) new = ⊥

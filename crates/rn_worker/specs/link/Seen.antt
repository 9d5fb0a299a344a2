-- What a worker has seen of a log.
use Rattle.std.specs.Prelude.{◌≡◌, ◌≢◌, ◌⊎◌, List, None, Some, length}
use Rattle.rn_model.specs.declared.log.Entry.{Entry}
use Rattle.rn_model.specs.declared.log.Reason.{Reason}
use Rattle.rn_model.specs.Good.{Good, IsInLimits}
use Rattle.rn_model.specs.Liveness.{Stands}
use Rattle.rn_model.specs.Markings.{Marking}
use Rattle.rn_model.specs.Runs.{Firing, Log, end_of, entries_of}
use Rattle.rn_table.specs.Tables.{IsTableOf}
use Rattle.rn_fire.specs.declared.setup.Setup.{Setup}
use Rattle.rn_fire.specs.States.{State, IsState, logged}
use Rattle.rn_fire.specs.link.States.{firings_in}
use Rattle.rn_worker.specs.declared.looking.Sight.{Sight}

-- the entries are firings, without an end
abbrev pub IsUnended : List Entry → Type 0
IsUnended entries = entries ≡ entries_of (firings_in entries) None

-- the entries are firings, and an end after them
abbrev pub HasEnded : List Entry → Type 0
HasEnded entries = (fs : List Firing) × (reason : Reason) × (entries ≡ entries_of fs (Some reason))

-- the marking to which the firings among these entries lead
abbrev pub marking_after : Setup → List Entry → Marking
marking_after setup entries = end_of setup.system (firings_in entries)

-- the log stays
abbrev pub KeepsLog : State → State → Type 0
KeepsLog old new = (new.setup ≡ old.setup) × (new.fired ≡ old.fired) × (new.ended ≡ old.ended)

-- the log stays, or ends; its firings stay
abbrev pub StaysOrEnds : State → State → Type 0
StaysOrEnds old new = (new.setup ≡ old.setup) × (new.fired ≡ old.fired)
    × ((new.ended ≡ old.ended) ⊎ ((old.ended ≡ None) × (new.ended ≢ None)))

-- a snapshot of a state whose log goes on
abbrev pub IsSightOf : State → Sight → Type 0
IsSightOf s v = IsState s × (s.ended ≡ None) × (v.table ≡ s.table) × (v.seen ≡ length (logged s))

-- What a snapshot shows of the log of which these entries were seen: they are its firings so far,
-- and the table stands for the marking after them.
pub record Shows (setup : Setup) (entries : List Entry) (v : Sight) : Type 0 where
  pub good : Good setup.system
  pub limits : IsInLimits setup.options
  pub going : IsUnended entries
  pub log : Log setup.system setup.options (firings_in entries) None
  pub stands : Stands setup.system v.table.marking (marking_after setup entries)
  pub of_system : IsTableOf setup.system v.table
  pub count : v.seen ≡ length entries

-- What a session keeps beside its state. This only connects the code to the definitions.
use Rattle.std.specs.Prelude.{ℕ, suc, ◌≡◌, ◌≢◌, ◌<◌, ◌⊎◌, List, length, take, get_or, Option, Some, None, Result, Ok, Err, IfOk, IfSome, ◌≤◌, ⊤}
use Rattle.rn_items.specs.declared.memory.NoMemory.{NoMemory as Refused}
use Rattle.rn_model.specs.declared.binding.Binding.{Binding}
use Rattle.rn_model.specs.declared.log.FaultKind.{FaultKind}
use Rattle.rn_model.specs.Firing as firing
use Rattle.rn_fire.specs.Commits.{next_firing}
use Rattle.rn_fire.specs.declared.committing.Commit.{Commit}
use Rattle.rn_fire.specs.declared.committing.Commit.TheVariants.{Fired, Conflict, Faulted, Ended, NoMemory}
use Rattle.rn_served.specs.Entries.{with_firing, with_fault}
use Rattle.rn_served.specs.declared.requests.FireAnswer.{FireAnswer}
use Rattle.rn_served.specs.declared.requests.FireAnswer.TheVariants as Gives
use Rattle.rn_model.specs.declared.log.Options.{Options}
use Rattle.rn_model.specs.Runs.{end_of}
use Rattle.rn_channel.specs.declared.uplinks.Uplinks.{Uplinks}
use Rattle.rn_channel.specs.link.Uplinks.{AreUplinksOf}
use Rattle.rn_table.specs.Tables.{Kept, IsTableOf}
use Rattle.rn_fire.specs.States.{State, end_marking, logged}
use Rattle.rn_reach.specs.Reach.{DifferAtMostIn}
use Rattle.rn_parted.specs.Parted.{IsKept, Parted}
use Rattle.rn_session.specs.declared.session.Looked.{Looked}
use Rattle.rn_session.specs.Sessions.{IsSession, so_far}

-- a table is the one after the first so many firings
pub record IsTableAfter (s : State) (k : ℕ) (t : Kept) : Type 0 where
  pub marking : t.marking ≡ end_of s.setup.system (take k s.fired)
  pub of_system : IsTableOf s.setup.system t

-- for each entry, the table before it
pub record AreTablesBefore (s : State) (kept : List Kept) : Type 0 where
  pub count : length kept ≡ length (logged s)
  pub each : (k : ℕ) (d : Kept) → k < length kept → IsTableAfter s k (get_or kept k d)

-- a look for the first binding was at some of the firings, and the next number was that after them
abbrev pub WasLookedAt : State → Option Looked → Type 0
WasLookedAt s looked = IfSome looked (λ look. (look.seen ≤ length s.fired)
    × (look.next ≡ (end_of s.setup.system (take look.seen s.fired)).next))

-- these may have changed since, and where there was no look none are told
abbrev pub HaveChangedSince : State → Option Looked → Option (List ℕ) → Type 0
HaveChangedSince s None changed = changed ≡ None
HaveChangedSince s (Some look) changed = IfSome changed (λ numbers. DifferAtMostIn numbers
    (end_of s.setup.system (take look.seen s.fired)) (end_marking s))

-- what is kept for the first binding is so after the firings of the last look
abbrev pub IsKeptSince : State → Option Parted → Option Looked → Type 0
IsKeptSince s firsts looked = IfSome looked (λ look. IsKept s.setup.system
    (end_of s.setup.system (take look.seen s.fired)) s.setup.options.depth firsts)

-- what the fields of a session keep
pub record KeepsSession (s : State) (options : Options) (uplinks : Uplinks) (kept : List Kept)
    (firsts : Option Parted) (looked : Option Looked) : Type 0 where
  pub session : IsSession s
  pub options_are : options ≡ s.setup.options
  pub own : AreUplinksOf s.setup.system uplinks
  pub before : AreTablesBefore s kept
  pub at : WasLookedAt s looked
  pub since : IsKeptSince s firsts looked

-- why nothing may fire, or that something may
abbrev pub HasRefusal : State → Option ℕ → Type 0
HasRefusal s (Some number) =
    ((number ≡ 3) × (s.ended ≢ None))
    ⊎ ((number ≡ 2) × (s.ended ≡ None) × (length s.fired ≡ s.setup.options.steps))
HasRefusal s None = (s.ended ≡ None) × (length s.fired < s.setup.options.steps)

-- What the firing of an enabled binding comes to, and the session after it.
abbrev pub CommitsTo : State → Binding → Result FireAnswer Refused → State → Type 0
CommitsTo old b (Ok (Gives.Fired step)) new =
    (fired : firing.Fired) × (step ≡ suc (length old.fired)) × (next_firing old b ≡ Ok fired)
    × (so_far new ≡ with_firing b fired.outs (so_far old)) × (new.setup ≡ old.setup)
CommitsTo old b (Ok Gives.Faulted) new =
    (cause : FaultKind) × (next_firing old b ≡ Err cause)
    × (so_far new ≡ with_fault cause b (so_far old)) × (new.setup ≡ old.setup)
CommitsTo old b (Ok (Gives.Refused number)) new = ⊥
CommitsTo old b (Err refused) new = new ≡ old

-- nobody came before a commit, and the run hadn't ended
abbrev pub IsFirst : Commit → Type 0
IsFirst (Conflict seen now) = ⊥
IsFirst Ended = ⊥
IsFirst _ = ⊤

-- what such a commit comes to
abbrev pub Tells : Commit → Result FireAnswer Refused → Type 0
Tells (Fired step) r = r ≡ Ok (Gives.Fired step)
Tells Faulted r = r ≡ Ok Gives.Faulted
Tells (NoMemory _) r = IfOk r (λ answer. ⊥)
Tells _ r = ⊥

-- When a worker lists what may be dropped, and what dropping does.
use Rattle.std.specs.Prelude.{ℕ, suc, ◌≡◌, ◌≢◌, ◌<◌, ◌≤◌, ◌↔◌, ◌+◌, ◌/◌, Bool, true, false, List, [], ◌∷◌, ◌++◌, Option, Some, None}
use Rattle.std.specs.Prelude.{Result, Ok, Err, Contains, filter, is_some, length, min, nat_eq}
use Rattle.std.specs.List.{list_any}
use Rattle.rn_choices.specs.declared.flag.Halt.{Halt}
use Rattle.rn_model.specs.Liveness.{IsLive}
use Rattle.rn_model.specs.LivenessLaws.{without_instances}
use Rattle.rn_model.specs.Markings.{IsThere, Marking, net_of}
use Rattle.rn_model.specs.declared.system.System.{System}
use Rattle.rn_model.specs.Runs.{Firing, after_firing}
use Rattle.rn_fire.specs.States.{State}
use Rattle.rn_worker.specs.declared.considering.Plan.{Plan}
use Rattle.rn_worker.specs.declared.pacing.Pace.{Pace}

-- the last value of a count of 64 bits
abbrev pub last_count : ℕ
last_count = 18446744073709551615

-- What may be dropped is to be listed, where that is wanted at all, an instance was made beside the first
-- (the next one gets a number above 2), and the worker fired so often since it last listed it: as often as
-- is wanted, and a quarter as often as instances and tokens were live then.
abbrev pub IsDue : ℕ → ℕ → Pace → Type 0
IsDue every next pace = (every ≢ 0) × (2 < next) × (every ≤ pace.since) × (pace.live / 4 ≤ pace.since)

-- The pace after a round in which the worker met so much that was live, as it listed what wasn't, or
-- listed nothing; and in which it fired, or didn't.
abbrev pub paced : Pace → Option ℕ → Bool → Pace
paced pace None false = pace
paced pace None true = record { since = min (pace.since + 1) last_count; live = pace.live }
paced pace (Some live) false = record { since = 0; live = live }
paced pace (Some live) true = record { since = 1; live = live }

-- just the instances that are there and aren't live
abbrev pub AreAllDead : System → Marking → List ℕ → Type 0
AreAllDead system m numbers =
    (n : ℕ) → Contains numbers n ↔ (IsThere m n × ¬ IsLive system m n)

-- how many of these instances are kept
abbrev pub kept_among : List ℕ → Marking → ℕ
kept_among numbers m = length (filter (λ n. is_some (net_of m n)) numbers)

-- how much was live, where it was listed what isn't
abbrev pub met_by : Result Plan Halt → Option ℕ
met_by (Ok p) = p.live
met_by (Err halt) = None

-- how many instances are dropped for a plan
abbrev pub dropped_by : Result Plan Halt → Marking → ℕ
dropped_by (Ok p) m = kept_among p.dead.items m
dropped_by (Err halt) m = 0

-- these instances are kept no more, and all else stays
abbrev pub IsSwept : List ℕ → State → State → Type 0
IsSwept numbers old new = (new ≡ record old { table = new.table })
    × (new.table.marking
    ≡ without_instances (λ n. list_any (nat_eq n) numbers) old.table.marking)

-- the table stays, where no firing is added, and else does that firing
abbrev pub DoesFiring : Bool → State → State → Type 0
DoesFiring false old new = new.table ≡ old.table
DoesFiring true old new = (f : Firing) × (new.fired ≡ old.fired ++ f ∷ [])
    × (new.table.marking
    ≡ after_firing old.setup.system (suc (length old.fired)) old.table.marking f)

-- what a plan lists is dropped, and all stays where there is no plan
abbrev pub DropsListed : Result Plan Halt → State → State → Type 0
DropsListed (Ok p) old new = IsSwept p.dead.items old new
DropsListed (Err halt) old new = new ≡ old

-- what a plan lists is dropped, and then the table does the firing that is added, if one is
abbrev pub DropsThenFires : Result Plan Halt → Bool → State → State → Type 0
DropsThenFires plan fired old new =
    (swept : State) × DropsListed plan old swept × DoesFiring fired swept new

-- Laws over what a firing leaves. Each is the contract of a function that does nothing.
use Rattle.std.specs.Prelude.{ℕ, ◌+◌, ◌-◌, ◌≡◌, ◌<◌, ◌⊎◌, ◌↔◌, List, length, Some, Ok}
use Rattle.std.specs.Prelude.{slice_get, flat_map}
use Rattle.rn_value.specs.declared.value.InstRef.TheVariants.{Old}
use Rattle.rn_value.specs.declared.value.Value.{Value}
use Rattle.rn_model.specs.declared.system.System.{System}
use Rattle.rn_model.specs.declared.system.Place.{Place}
use Rattle.rn_model.specs.declared.binding.Binding.{Binding}
use Rattle.rn_model.specs.Lists.{count_of}
use Rattle.rn_model.specs.Systems.{net_at}
use Rattle.rn_model.specs.Demands.{asked_at, puts, taken_at, cleared_at}
use Rattle.rn_model.specs.Markings.{Marking, IsMarking, IsThere, net_of, tokens_at}
use Rattle.rn_model.specs.SoundTokens.{HasSoundTokens}
use Rattle.rn_model.specs.Enabling.{Enabled}
use Rattle.rn_model.specs.Firing.{Made, Effects, Fired, fire, effects, creations_of, named}
use Rattle.rn_model.specs.Good.{Good}
use Rattle.rn_model.specs.Runs.{Run, Firing, end_of}

-- a firing gives as many numbers as its binding has creations
abbrev pub NextAfterFiring : Type 0
NextAfterFiring = (system : System) (m : Marking) (b : Binding) (step : ℕ) (f : Fired) →
    fire system m b step ≡ Ok f →
    f.marking.next ≡ m.next + length (creations_of system b)

-- the creation that gets this number, of this net
abbrev pub IsMadeOf : System → Marking → Binding → ℕ → ℕ → Type 0
IsMadeOf system m b n net =
    (k : ℕ) × (c : Made) × (slice_get (creations_of system b) k ≡ Some c)
    × (m.next + k ≡ n) × (c.net ≡ net)

-- after it an instance is there exactly where it was or a creation gets its number
abbrev pub InstancesAfterFiring : Type 0
InstancesAfterFiring = (system : System) (m : Marking) (b : Binding) (step : ℕ) (f : Fired) →
    IsMarking system m → fire system m b step ≡ Ok f →
    (n net : ℕ) → net_of f.marking n ≡ Some net
    ↔ ((net_of m n ≡ Some net) ⊎ IsMadeOf system m b n net)

-- What a firing takes, clears and puts at a place of an instance, under the numbers of the new
-- instances.
module _ (system : System) (b : Binding) (next : ℕ) (n place : ℕ) where
  -- what it takes
  abbrev pub taken_by : List Value
  taken_by = taken_at system (named system b next) (Old n) place

  -- what it clears
  abbrev pub cleared_by : List Value
  cleared_by = flat_map (λ vs. vs) (cleared_at system (named system b next) (Old n) place)

-- what its nodes put, with what they are read under after their actions
abbrev pub put_by : System → Effects → ℕ → ℕ → List Value
put_by system acts n place = asked_at puts system acts.read (Old n) place

-- A place of an instance that was there holds after the firing each value as often as before, less
-- what is taken and cleared, and then what is put.
abbrev pub OldTokensAfterFiring : Type 0
OldTokensAfterFiring = (system : System) (m : Marking) (b : Binding) (step : ℕ) (f : Fired)
    (acts : Effects) → IsMarking system m → fire system m b step ≡ Ok f →
    effects system b m.next step ≡ Some acts →
    (n net place : ℕ) (v : Value) → net_of m n ≡ Some net →
    place < length (net_at system net).places →
    count_of v (tokens_at f.marking n place)
    ≡ ((count_of v (tokens_at m n place) - count_of v (taken_by system b m.next n place))
    - count_of v (cleared_by system b m.next n place))
    + count_of v (put_by system acts n place)

-- a place of a new instance holds its initial tokens and what is put
abbrev pub NewTokensAfterFiring : Type 0
NewTokensAfterFiring = (system : System) (m : Marking) (b : Binding) (step : ℕ) (f : Fired)
    (acts : Effects) → IsMarking system m → fire system m b step ≡ Ok f →
    effects system b m.next step ≡ Some acts →
    (k : ℕ) (c : Made) (place : ℕ) (p : Place) (v : Value) →
    slice_get (creations_of system b) k ≡ Some c →
    slice_get (net_at system c.net).places place ≡ Some p →
    count_of v (tokens_at f.marking (m.next + k) place)
    ≡ count_of v p.initial + count_of v (put_by system acts (m.next + k) place)

-- the numbering of new instances changes nothing of what an enabled binding asks of instances that
-- are there
abbrev pub NumberingKeepsDemands : Type 0
NumberingKeepsDemands = (system : System) (m : Marking) (b : Binding) (depth n place : ℕ) →
    IsMarking system m → HasSoundTokens system m → Enabled system m b depth → IsThere m n →
    (taken_at system (named system b m.next) (Old n) place ≡ taken_at system b (Old n) place)
    × (cleared_at system (named system b m.next) (Old n) place
    ≡ cleared_at system b (Old n) place)

-- And so, for each value, what a place holds after the firing of an enabled binding and what was
-- taken or cleared there are together as much as what it held before and what was put.
abbrev pub FiringsMoveTokens : Type 0
FiringsMoveTokens = (system : System) (m : Marking) (b : Binding) (depth step : ℕ) (f : Fired)
    (acts : Effects) → IsMarking system m → HasSoundTokens system m → Enabled system m b depth →
    fire system m b step ≡ Ok f → effects system b m.next step ≡ Some acts →
    (n net place : ℕ) (v : Value) → net_of m n ≡ Some net →
    place < length (net_at system net).places →
    count_of v (tokens_at f.marking n place) + count_of v (taken_at system b (Old n) place)
    + count_of v (flat_map (λ vs. vs) (cleared_at system b (Old n) place))
    ≡ count_of v (tokens_at m n place) + count_of v (put_by system acts n place)

-- at the end of a run exactly those instances are there whose numbers were given
abbrev pub EachNumberIsThere : Type 0
EachNumberIsThere = (system : System) (depth : ℕ) (fs : List Firing) (n : ℕ) → Good system →
    Run system depth fs →
    IsThere (end_of system fs) n ↔ ((0 < n) × (n < (end_of system fs).next))

-- What a look at some things says.
use Rattle.std.specs.Prelude.{ℕ, ◌≡◌, ◌<◌, ◌≤◌, ◌⊎◌, List}
use Rattle.rn_choices.specs.Leading.{Says}
use Rattle.rn_choices.specs.declared.next.Next.{Next}
use Rattle.rn_choices.specs.declared.next.Next.TheVariants.{Stuck, Forced, Choose}
use Rattle.rn_model.specs.declared.system.System.{System}
use Rattle.rn_growing.specs.declared.decision.Decision.{Decision}
use Rattle.rn_growing.specs.Turns.{MayCome}
use Rattle.rn_search.specs.declared.point.Point.{Point}
use Rattle.rn_search.specs.Sought.{Sought, Leads}
use Rattle.rn_search.specs.Points.{offers}
use Rattle.rn_search.specs.Allowing.{Allows}
use Rattle.rn_search.specs.Ending.{IsAsked, IsDecided}
use Rattle.rn_looking.specs.declared.look.Look.{Look}
use Rattle.rn_looking.specs.declared.look.Look.TheVariants.{Done, Waits, Goes}

-- all that is asked of these things is decided
abbrev pub AreAllDecided : System → List Decision → (Decision → Type 0) → Type 0
AreAllDecided system ds On = (d : Decision) → On d → IsAsked system ds d → IsDecided ds d

-- all of it that may come in is decided
abbrev pub AreAllClosed : System → List Decision → (Decision → Type 0) → Type 0
AreAllClosed system ds On = (d : Decision) → On d → MayCome system ds d → IsDecided ds d

-- something is asked, and not decided
abbrev pub IsOneLeft : System → List Decision → Type 0
IsOneLeft system ds = (d : Decision) × IsAsked system ds d × ¬ IsDecided ds d

-- how a search goes on that isn't at its end
abbrev pub GoesOn : Sought → List Decision → Next Point → Type 0
GoesOn sought ds next = Says (Leads sought) (offers sought) (Allows sought) ⊥ ds next

-- what a look at some things says, after decisions
abbrev pub Looked : Sought → List Decision → (Decision → Type 0) → Look → Type 0
Looked sought ds On Done = AreAllDecided sought.system ds On
Looked sought ds On Waits = AreAllClosed sought.system ds On × IsOneLeft sought.system ds
Looked sought ds On (Goes next count) = GoesOn sought ds next

-- which of two looks counts: the one that goes on, and counts as fewer alternatives, else one that
-- waits
abbrev pub IsBetter : Look → Look → Look → Type 0
IsBetter Done other result = result ≡ other
IsBetter Waits (Goes next count) result = result ≡ Goes next count
IsBetter Waits _ result = result ≡ Waits
IsBetter (Goes next count) (Goes after other) result =
    ((count ≤ other) × (result ≡ Goes next count)) ⊎ ((other < count) × (result ≡ Goes after other))
IsBetter (Goes next count) _ result = result ≡ Goes next count

-- the same choice, which may count as another number, and begin with another alternative
abbrev pub IsNarrowed : Look → Look → Type 0
IsNarrowed (Goes (Choose point of first) count) result =
    (begin : ℕ) × ((other : ℕ) × (result ≡ Goes (Choose point of begin) other))
IsNarrowed look result = result ≡ look

-- it goes on
abbrev pub Urges : Look → Type 0
Urges look = (next : Next Point) × ((count : ℕ) × (look ≡ Goes next count))

-- how the search goes on with one of so many alternatives: where there is none it is stuck, one is
-- forced, and of several one is chosen
abbrev pub IsAmong : Point → ℕ → Next Point → Type 0
IsAmong point of next = ((of ≡ 0) × (next ≡ Stuck)) ⊎ (((of ≡ 1) × (next ≡ Forced point))
    ⊎ ((first : ℕ) × (next ≡ Choose point of first)))

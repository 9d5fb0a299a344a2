-- How a branch goes on, by what a look at all that is asked said.
use Rattle.std.proofs.Common.{◌≡◌, ◌<◌, List, [], ◌∷◌, length, refl, ap, ◌∙◌}
use Rattle.std.proofs.Common.{arith}
use Rattle.std.specs.Prelude.{Some, None}
use Rattle.std.proofs.lemmas.Option.{slice_get-get_or}
use Rattle.rn_model.specs.declared.system.System.{System}
use Rattle.rn_choices.specs.Leading.{Says, NoneLeads}
use Rattle.rn_choices.specs.declared.next.Next.{Next}
use Rattle.rn_choices.specs.declared.next.Next.TheVariants.{Done, Stuck, Forced, Choose}
use Rattle.rn_growing.specs.declared.decision.Head.{Head}
use Rattle.rn_growing.specs.declared.decision.Decision.{Decision}
use Rattle.rn_growing.specs.declared.decision.Decision.TheVariants.{Entered, Found, Computed}
use Rattle.rn_growing.specs.Turns.{MayCome, IsEntered, AreInTurn, AreClosed}
use Rattle.rn_search.specs.declared.point.Point.{Point}
use Rattle.rn_search.specs.declared.point.Point.TheVariants as P
use Rattle.rn_search.specs.Sought.{Sought, Leads}
use Rattle.rn_search.specs.Points.{offers}
use Rattle.rn_search.specs.Missing.{MayStart}
use Rattle.rn_search.specs.Allowing.{Allows}
use Rattle.rn_search.specs.Ending.{IsAsked, AreDone}
use Rattle.rn_search.proofs.Allowed.{start_is_allowed}
use Rattle.rn_search.proofs.Ends.{stuck_leads_nowhere}
use Rattle.rn_search.proofs.Offered.{start_is_offered}
use Rattle.rn_branch.specs.GoingOn.{IsSameButFirst}
use Rattle.rn_looking.specs.Looks.{AreAllDecided, AreAllClosed, IsOneLeft, GoesOn}
use Rattle.rn_looking.specs.Things.{IsOfNode, IsOfEntries}

of_entries : (ds : List Decision) (head : Head) (d : Decision) → IsEntered ds head →
    IsOfNode head d → IsOfEntries ds (length ds) d
of_entries ds head d (caller, (k, within, is)) on = (
  k,
  within,
  (
    head,
    (
      caller,
      slice_get-get_or ds k (Entered head caller) within ∙ ap Some is,
      on,
    ),
  ),
)

-- whatever is asked is on a node that was entered,
asked_of_entries : (system : System) (ds : List Decision) (d : Decision) → IsAsked system ds d →
    IsOfEntries ds (length ds) d
asked_of_entries system ds (Entered head None) asked = absurd asked
asked_of_entries system ds (Entered head (Some from)) asked =
    of_entries ds from.head (Entered head (Some from)) asked.0 refl
asked_of_entries system ds (Found head k v) asked =
    of_entries ds head (Found head k v) asked.0 refl
asked_of_entries system ds (Computed head site way v) asked =
    of_entries ds head (Computed head site way v) asked.0 refl

-- and so is whatever may come in behind the first decision
coming_of_entries : (system : System) (ds : List Decision) (d : Decision) → 0 < length ds →
    MayCome system ds d → IsOfEntries ds (length ds) d
coming_of_entries system ds (Entered head None) some may =
    let none = ap length may.0 in
    absurd (let no : ⊥ = omega (arith, some, none) in no)
coming_of_entries system ds (Entered head (Some from)) some may =
    of_entries ds from.head (Entered head (Some from)) may.entered refl
coming_of_entries system ds (Found head k v) some may =
    of_entries ds head (Found head k v) may.0 refl
coming_of_entries system ds (Computed head site way v) some may =
    of_entries ds head (Computed head site way v) may.0 refl

pub all_are_done : (system : System) (ds : List Decision) →
    AreAllDecided system ds (IsOfEntries ds (length ds)) → AreDone system ds
all_are_done system ds decided d asked =
    decided d (asked_of_entries system ds d asked) asked

all_are_closed : (system : System) (ds : List Decision) → 0 < length ds →
    AreAllClosed system ds (IsOfEntries ds (length ds)) → AreClosed system ds
all_are_closed system ds some closed d may =
    closed d (coming_of_entries system ds d some may) may

-- Where something waits that never comes in, nothing leads on.
pub waits_in_vain : (sought : Sought) (ds : List Decision) → AreInTurn sought.system ds →
    0 < length ds → AreAllClosed sought.system ds (IsOfEntries ds (length ds)) →
    IsOneLeft sought.system ds → NoneLeads (Leads sought) ds
waits_in_vain sought ds turns some closed left b =
    stuck_leads_nowhere sought ds left.0 turns some
    (all_are_closed sought.system ds some closed) left.1 left.2 b

pub goes_on : (sought : Sought) (ds : List Decision) (ends : Type 0) (next : Next Point) →
    GoesOn sought ds next →
    Says (Leads sought) (offers sought) (Allows sought) ends ds next
goes_on sought ds ends Done goes = absurd goes
goes_on sought ds ends Stuck goes = goes
goes_on sought ds ends (Forced site) goes = goes
goes_on sought ds ends (Choose site of first) goes = goes

-- It goes on as itself, and a choice with whichever alternative first.
pub same_next : (next : Next Point) → IsSameButFirst next next
same_next Done = refl
same_next Stuck = refl
same_next (Forced site) = refl
same_next (Choose site of first) = (first, refl)

-- Before any decision it goes on with the start.
pub begins : (sought : Sought) (ds : List Decision) (ends : Type 0) →
    MayStart sought.system sought.marking sought.start → length ds ≡ 0 →
    Says (Leads sought) (offers sought) (Allows sought) ends ds (Forced P.Start)
begins sought [] ends may none =
    (start_is_allowed sought 0 may, λ b leads. start_is_offered sought b leads)
begins sought (d ∷ ds) ends may none = absurd (let no : ⊥ = omega (arith, none) in no)

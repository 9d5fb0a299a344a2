-- The token that an alternative of an arc means.
use Rattle.std.specs.Prelude.{ℕ, ◌≡◌, ◌≤◌, List, [], ◌∷◌, ◌++◌, Option, Some, slice_get}
use Rattle.rn_choices.specs.Leading.{NoneLeads}
use Rattle.rn_model.specs.Demands.{takes}
use Rattle.rn_model.specs.Lists.{count_of}
use Rattle.rn_model.specs.Markings.{tokens}
use Rattle.rn_growing.specs.declared.decision.Caller.{Caller}
use Rattle.rn_growing.specs.declared.decision.Decision.{Decision}
use Rattle.rn_growing.specs.declared.decision.Decision.TheVariants.{Entered}
use Rattle.rn_growing.specs.Decisions.{transition_in}
use Rattle.rn_search.specs.declared.point.Point.{Point}
use Rattle.rn_search.specs.Points.{offers}
use Rattle.rn_search.specs.Sought.{Sought, Leads}
use Rattle.rn_search.specs.Taking.{taken_so_far}
use Rattle.rn_branch.specs.declared.offer.Offer.{Offer}

-- A token stands at an index of the place of a node's arc.
pub record IsOffer (sought : Sought) (ds : List Decision) (node k i : ℕ) (o : Offer)
    : Type 0 where
  pub caller : Option Caller
  pub entry : slice_get ds node ≡ Some (Entered o.head.now caller)
  pub within : o.transition.now ≡ transition_in sought.system o.head.now
  pub there : slice_get o.transition.now.arcs k ≡ Some o.arc.now
  pub all : o.held.now ≡ tokens sought.marking o.head.now.inst o.arc.now.place
  pub at : slice_get o.held.now i ≡ Some o.token.now

-- Its arc takes it, and decisions take it as often as its place holds it.
abbrev pub IsTakenUp : Sought → List Decision → Offer → Type 0
IsTakenUp sought ds o =
    (takes o.arc.now.kind o.token.now ≡ o.token.now ∷ [])
    × (count_of o.token.now o.held.now
    ≤ count_of o.token.now (taken_so_far sought.system o.head.now.inst o.arc.now.place ds))

-- no binding goes on with an alternative of a point
abbrev pub NoneLeadBy : Sought → List Decision → Point → ℕ → Type 0
NoneLeadBy sought ds point a = NoneLeads (Leads sought) (ds ++ offers sought ds point a ∷ [])

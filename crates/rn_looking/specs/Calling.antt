-- On which instance a call goes.
use Rattle.std.specs.Prelude.{ℕ, ◌≡◌, true, false, List, Option, Some, None, slice_get}
use Rattle.std.specs.List.{list_any}
use Rattle.rn_value.specs.declared.value.InstRef.{InstRef}
use Rattle.rn_value.specs.declared.value.Value.{Value}
use Rattle.rn_model.specs.declared.expr.Expr.{Expr}
use Rattle.rn_model.specs.declared.system.System.{System}
use Rattle.rn_growing.specs.declared.decision.Head.{Head}
use Rattle.rn_growing.specs.declared.decision.Decision.{Decision}
use Rattle.rn_growing.specs.Equations.{IsForcedTo, IsForced, read_at}
use Rattle.rn_growing.specs.Grown.{Grown}
use Rattle.rn_model.specs.Derivation as D
use Rattle.rn_search.specs.declared.point.Called.{Called}
use Rattle.rn_search.specs.Sought.{Sought}
use Rattle.rn_search.specs.Points.{instance_of}
use Rattle.rn_search.specs.Making.{makes, is_made}

-- the index of a decision by which a new instance is made
abbrev pub IsMaker : System → List Decision → List ℕ → ℕ → Option ℕ → Type 0
IsMaker system ds path j None = list_any (makes system path j) ds ≡ false
IsMaker system ds path j (Some k) =
    (d : Decision) × (slice_get ds k ≡ Some d) × (makes system path j d ≡ true)

-- the instance on which a call goes, or none where it isn't made
abbrev pub IsCalledOn : System → List Decision → InstRef → Option Called → Type 0
IsCalledOn system ds inst None = is_made system ds inst ≡ false
IsCalledOn system ds inst (Some called) = (is_made system ds inst ≡ true)
    × ((sought : Sought) → instance_of sought ds called ≡ inst)

-- the value to which the target of a call is forced, or none where it isn't
abbrev pub IsTarget : Grown → Head → D.Site → Expr → Option Value → Type 0
IsTarget g head site e None =
    ¬ IsForced g.system g.decisions (λ a. read_at a head site e)
IsTarget g head site e (Some v) =
    IsForcedTo g.system g.decisions (λ a. read_at a head site e) v

-- Arcs that find a token of a place, what is known of a part of their inscriptions, and tokens that
-- are passed by for it.
use Rattle.std.specs.Prelude.{ℕ, ◌≡◌, true, false, List, Option, Some, slice_get}
use Rattle.std.specs.List.{list_any}
use Rattle.rn_value.specs.declared.value.Value.{Value}
use Rattle.rn_model.specs.declared.expr.Expr.{Expr}
use Rattle.rn_model.specs.declared.expr.Expr.TheVariants as E
use Rattle.rn_model.specs.Derivation.{finds_values}
use Rattle.rn_model.specs.Markings.{tokens}
use Rattle.rn_growing.specs.declared.decision.Caller.{Caller}
use Rattle.rn_growing.specs.declared.decision.Decision.{Decision}
use Rattle.rn_growing.specs.declared.decision.Decision.TheVariants.{Entered}
use Rattle.rn_growing.specs.Decided.{finds}
use Rattle.rn_growing.specs.Decisions.{transition_in}
use Rattle.rn_growing.specs.Grown.{Grown}
use Rattle.rn_search.specs.Sought.{Sought}
use Rattle.rn_looking.specs.Forced.{IsVarForcedTo}
use Rattle.rn_branch.specs.Parts.{LacksPart}
use Rattle.rn_branch.specs.declared.finder.Finder.{Finder}

-- An arc of a node finds one of the tokens of a place.
pub record IsFinder (sought : Sought) (ds : List Decision) (node k : ℕ) (s : Finder) : Type 0 where
  pub caller : Option Caller
  pub entry : slice_get ds node ≡ Some (Entered s.head.now caller)
  pub there : slice_get (transition_in sought.system s.head.now).arcs k ≡ Some s.arc.now
  pub finds : finds_values s.arc.now.kind ≡ true
  pub all : s.held.now ≡ tokens sought.marking s.head.now.inst s.arc.now.place

-- Nothing was found by the arc. Its inscription is a tuple, whose part at an index is a variable that
-- is forced to a value.
pub record IsKnownPart (g : Grown) (k : ℕ) (s : Finder) (i : ℕ) (part : Value) : Type 0 where
  pub parts : List Expr
  pub tuple : s.arc.now.inscription ≡ E.Tuple parts
  pub var : ℕ
  pub at : slice_get parts i ≡ Some (E.Var var)
  pub fresh : list_any (finds s.head.now.path k) g.decisions ≡ false
  pub forced : IsVarForcedTo g s.head.now.path var part

-- the token at an index lacks a part that is known
abbrev pub IsPassed : Grown → ℕ → Finder → ℕ → Type 0
IsPassed g k s index = (v : Value) → slice_get s.held.now index ≡ Some v →
    (i : ℕ) × ((part : Value) × (IsKnownPart g k s i part × LacksPart i part v))

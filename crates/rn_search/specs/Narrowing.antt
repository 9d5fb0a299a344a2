-- Which tokens an arc may find, by what is known of its inscription, or of what a guard asks to be the
-- same. So of all tokens of a place the others needn't be tried.
use Rattle.std.specs.Prelude.{ℕ, ◌≡◌, ◌⊎◌, ◌<◌, List, [], ◌∷◌, Some, slice_get, length, Contains}
use Rattle.rn_value.specs.declared.value.Value.{Value}
use Rattle.rn_value.specs.declared.value.Value.TheVariants as Value
use Rattle.rn_model.specs.declared.expr.Expr.{Expr}
use Rattle.rn_model.specs.declared.expr.Expr.TheVariants as Expr
use Rattle.rn_model.specs.declared.expr.CompareKind.TheVariants.{Same}
use Rattle.rn_model.specs.declared.expr.Cond.{Cond}
use Rattle.rn_model.specs.declared.expr.Simple.{Simple}
use Rattle.rn_model.specs.declared.system.NetArc.{NetArc}
use Rattle.rn_model.specs.declared.binding.Binding.{Binding}
use Rattle.rn_model.specs.Evaluation.{Env, worth}
use Rattle.rn_growing.specs.declared.decision.Decision.{Decision}
use Rattle.rn_growing.specs.Decisions.{transition_in}
use Rattle.rn_growing.specs.Turns.{AreInTurn}
use Rattle.rn_search.specs.declared.point.Point.TheVariants as P
use Rattle.rn_search.specs.Sought.{Sought}
use Rattle.rn_search.specs.Points.{node_of, tokens_of}
use Rattle.rn_search.specs.Missing.{LeadsBy, IsKnown}

-- An alternative of an arc leads to something: the arc is there, and the token is one of its
-- place.
pub record FindsBy (sought : Sought) (ds : List Decision) (node k : ℕ) (x : NetArc) (a : ℕ)
    (b : Binding) : Type 0 where
  pub turns : AreInTurn sought.system ds
  pub some : 0 < length ds
  pub arc : slice_get (transition_in sought.system (node_of sought ds node)).arcs k ≡ Some x
  pub leads : LeadsBy sought ds (P.Token node k 0) a b

-- Where the variables of the inscription are known, the token is its value. Where it has none, there
-- is no such token.
abbrev pub KnownTokenIsIt : Type 0
KnownTokenIsIt = (sought : Sought) (ds : List Decision) (node k : ℕ) (x : NetArc) (a : ℕ)
    (b : Binding) (env : Env) → FindsBy sought ds node k x a b →
    IsKnown sought.system ds (node_of sought ds node) x.inscription env →
    slice_get (tokens_of sought (node_of sought ds node) k) a ≡ worth x.inscription env

-- Where the inscription is a tuple whose first part is known, the token is a tuple with that first
-- part.
abbrev pub KnownFirstPart : Type 0
KnownFirstPart = (sought : Sought) (ds : List Decision) (node k : ℕ) (x : NetArc) (a : ℕ)
    (b : Binding) (env : Env) (e : Expr) (es : List Expr) (v : Value) →
    FindsBy sought ds node k x a b → x.inscription ≡ Expr.Tuple (e ∷ es) →
    IsKnown sought.system ds (node_of sought ds node) e env → worth e env ≡ Some v →
    (rest : List Value) ×
    (slice_get (tokens_of sought (node_of sought ds node) k) a ≡ Some (Value.Tuple (v ∷ rest)))

-- A guard is one list of conditions, all of which have to be true, and one of them is that these two
-- are the same.
abbrev pub Equates : Cond → Expr → Expr → Type 0
Equates guard left right = (all : List Simple) × (guard.any ≡ all ∷ [])
    × Contains all (Simple.Compare Same left right)

-- Where a guard asks that the inscription is the same as an expression that is known, the token is
-- the value of that. Where it has none, there is no such token.
abbrev pub EquatedTokenIsIt : Type 0
EquatedTokenIsIt = (sought : Sought) (ds : List Decision) (node k : ℕ) (x : NetArc) (a : ℕ)
    (b : Binding) (env : Env) (guard : Cond) (e : Expr) → FindsBy sought ds node k x a b →
    Contains (transition_in sought.system (node_of sought ds node)).guards guard →
    Equates guard x.inscription e ⊎ Equates guard e x.inscription →
    IsKnown sought.system ds (node_of sought ds node) e env →
    slice_get (tokens_of sought (node_of sought ds node) k) a ≡ worth e env

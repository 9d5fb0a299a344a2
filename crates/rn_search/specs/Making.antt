-- New instances that decisions name. Which node makes the instance on which a called transition
-- occurs is known from the decisions alone.
use Rattle.std.specs.Prelude.{ℕ, ℤ, ◌≡◌, Bool, true, false, ◌&&◌, List}
use Rattle.std.specs.Prelude.{length, nat_eq, nat_lt, Contains}
use Rattle.std.specs.List.{list_any}
use Rattle.std.specs.Cmp.Lexicographic.{pointwise}
use Rattle.rn_value.specs.declared.value.InstRef.{InstRef}
use Rattle.rn_value.specs.declared.value.InstRef.TheVariants.{Old, New}
use Rattle.rn_value.specs.declared.value.Value.TheVariants as Value
use Rattle.rn_model.specs.declared.expr.Expr.{Expr}
use Rattle.rn_model.specs.declared.system.System.{System}
use Rattle.rn_model.specs.SoundTokens.{holds_new}
use Rattle.rn_model.specs.Derivation as D
use Rattle.rn_growing.specs.declared.decision.Head.{Head}
use Rattle.rn_growing.specs.declared.decision.Decision.{Decision}
use Rattle.rn_growing.specs.declared.decision.Decision.TheVariants.{Entered, Found, Computed}
use Rattle.rn_growing.specs.Decisions.{transition_in}
use Rattle.rn_growing.specs.Equations.{IsForcedTo, IsSolvable, read_at}
use Rattle.rn_growing.specs.Turns.{IsEntered, AreInTurn}

-- whether a decision enters the node on a path, and its transition has a creation of this index
abbrev pub makes : System → List ℕ → ℕ → Decision → Bool
makes system path j (Entered head caller) =
    pointwise nat_eq head.path path && nat_lt j (length (transition_in system head).creations)
makes system path j _ = false

-- whether an instance exists already, or a node that was entered makes it
abbrev pub is_made : System → List Decision → InstRef → Bool
is_made system ds (Old n) = true
is_made system ds (New path j) = list_any (makes system path j) ds

-- What a decision names is made by nodes that were entered: the instance on which its node stands.
-- What an arc finds holds no new instance, as no token does, and what is computed is a number.
abbrev pub NamesMade : System → List Decision → Decision → Type 0
NamesMade system ds (Entered head caller) = is_made system ds head.inst ≡ true
NamesMade system ds (Found head k v) = holds_new v ≡ false
NamesMade system ds (Computed head site way v) = (n : ℤ) × (v ≡ Value.Int n)

abbrev pub NameMade : System → List Decision → Type 0
NameMade system ds = (d : Decision) → Contains ds d → NamesMade system ds d

-- Then each instance to which decisions force an expression of a node that was entered is made.
abbrev pub ForcedAreMade : Type 0
ForcedAreMade = (system : System) (ds : List Decision) (head : Head) (site : D.Site) (e : Expr)
    (i : InstRef) → AreInTurn system ds → IsSolvable system ds → NameMade system ds →
    IsEntered ds head → IsForcedTo system ds (λ a. read_at a head site e) (Value.Inst i) →
    is_made system ds i ≡ true

-- Whether a decision is on a thing, as a test.
use Rattle.std.specs.Prelude.{ℕ, Bool, false, ◌&&◌, List, [], ◌∷◌, ◌++◌, nat_eq}
use Rattle.std.specs.Cmp.Lexicographic.{pointwise}
use Rattle.rn_growing.specs.declared.decision.Site.{Site}
use Rattle.rn_growing.specs.declared.decision.Decision.{Decision}
use Rattle.rn_growing.specs.declared.decision.Decision.TheVariants.{Entered, Found, Computed}
use Rattle.rn_growing.specs.declared.thing.Thing.{Thing}
use Rattle.rn_growing.specs.declared.thing.Thing.TheVariants as T
use Rattle.rn_growing.specs.link.Layouts.{same_site}

-- it enters the node on this path
abbrev pub enters : List ℕ → Decision → Bool
enters path (Entered head caller) = pointwise nat_eq head.path path
enters path _ = false

-- it is on this arc of that node
abbrev pub finds : List ℕ → ℕ → Decision → Bool
finds path k (Found head j v) = pointwise nat_eq head.path path && nat_eq j k
finds path k _ = false

-- it is on the operator application of that node at this site and way
abbrev pub computes : List ℕ → Site → List ℕ → Decision → Bool
computes path site way (Computed head at along v) =
    pointwise nat_eq head.path path && (same_site at site && pointwise nat_eq along way)
computes path site way _ = false

-- it is on this thing
abbrev pub is_on : Thing → Decision → Bool
is_on (T.Entry path) = enters path.now
is_on (T.Called path i) = enters (path.now ++ i ∷ [])
is_on (T.Found path k) = finds path.now k
is_on (T.Computed path site way) = computes path.now site way.now

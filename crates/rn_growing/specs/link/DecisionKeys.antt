-- The keys of things, and of what decisions are on.
use Rattle.std.specs.Prelude.{ℕ}
use Rattle.rn_growing.specs.declared.decision.Decision.{Decision}
use Rattle.rn_growing.specs.declared.decision.Decision.TheVariants.{Entered, Found, Computed}
use Rattle.rn_growing.specs.declared.thing.Thing.{Thing}
use Rattle.rn_growing.specs.declared.thing.Thing.TheVariants as T
use Rattle.rn_growing.specs.link.Keys.{stirred, path_key, hole_key}

-- the key of a thing
abbrev pub thing_key : Thing → ℕ
thing_key (T.Entry path) = stirred (path_key path.now) 8
thing_key (T.Called path i) = stirred (stirred (path_key path.now) i) 8
thing_key (T.Found path k) = stirred (stirred (path_key path.now) 9) k
thing_key (T.Computed path site way) = hole_key path.now site way.now

-- the key of what a decision is on
abbrev pub decision_key : Decision → ℕ
decision_key (Entered head caller) = stirred (path_key head.path) 8
decision_key (Found head k v) = stirred (stirred (path_key head.path) 9) k
decision_key (Computed head site way v) = hole_key head.path site way

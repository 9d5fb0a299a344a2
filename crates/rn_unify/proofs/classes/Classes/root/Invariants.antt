use Rattle.std.proofs.Common.{◌≡◌, ℕ}
use Rattle.rn_value.specs.declared.value.Value.{Value}
use Rattle.rn_unify.specs.link.Classes.{Fits}
use Rattle.rn_unify.proofs.classes.Classes.root.Given as goal

abbrev pub invariant-loop-root : goal.invariant-loop-root
invariant-loop-root l = (f : ℕ → Value) → Fits l.self f → f l.id ≡ f l.root

abbrev pub decreases-loop-root : goal.decreases-loop-root
decreases-loop-root l = l.root

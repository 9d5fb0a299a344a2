use Rattle.std.proofs.Common.{◌+◌, ◌-◌, ◌*◌, true}
use Rattle.rn_term.proofs.Extents.{extent, greatest}
use Rattle.rn_unify.specs.link.Equations.{Adds}
use Rattle.rn_unify.proofs.SideBySide.{AreAt}
use Rattle.rn_unify.proofs.TermEquations.{AreFirst}
use Rattle.rn_unify.proofs.+comparing.Given as goal

abbrev pub decreases-comparing::compare : goal.decreases-comparing::compare
decreases-comparing::compare l = 4 * (extent l.store.now l.a + extent l.store.now l.b) + 3

abbrev pub decreases-comparing::compare_ends : goal.decreases-comparing::compare_ends
decreases-comparing::compare_ends l = 4 * (extent l.store.now l.x + extent l.store.now l.y) + 2

abbrev pub decreases-comparing::compare_each : goal.decreases-comparing::compare_each
decreases-comparing::compare_each l =
    4 * (greatest (extent l.store.now) l.xs.now + greatest (extent l.store.now) l.ys.now) + 4

abbrev pub decreases-comparing::compare_tuples : goal.decreases-comparing::compare_tuples
decreases-comparing::compare_tuples l =
    4 * (extent l.store.now l.a + extent l.store.now l.b) + 1

abbrev pub decreases-lists::compare_lists : goal.decreases-lists::compare_lists
decreases-lists::compare_lists l = 4 * (extent l.store.now l.a + extent l.store.now l.b) + 1

abbrev pub decreases-lists::compare_lists-loop-left : goal.decreases-lists::compare_lists-loop-left
decreases-lists::compare_lists-loop-left l =
    (extent l.store l.left.id - l.left.from) + (extent l.store l.right.id - l.right.from)

-- what makes the first of both one was added
abbrev pub invariant-comparing::compare_each-loop-k : goal.invariant-comparing::compare_each-loop-k
invariant-comparing::compare_each-loop-k l =
    Adds l.store (AreFirst l.k l.xs l.ys) l.made l.initial.found.items l.found.items true

abbrev pub invariant-lists::compare_lists-loop-left : goal.invariant-lists::compare_lists-loop-left
invariant-lists::compare_lists-loop-left l =
    AreAt l.store l.a l.b l.left l.right l.made l.initial.found.items l.found.items

-- Laws on unification.
use Rattle.std.specs.Prelude.{ℕ, ◌≡◌, ◌<◌, ◌↔◌, List, length}
use Rattle.rn_value.specs.declared.value.Value.{Value}
use Rattle.rn_term.specs.Stores.{State}
use Rattle.rn_term.specs.Assignments.{MayBeOne, Satisfies}
use Rattle.rn_term.specs.Undoing.{Rolled, mark_of, LeavesEarlier}
use Rattle.rn_unify.specs.Unifying.{AreOne, CanBeExtended, SaysBoth}

-- Two ids may be one exactly where the second may be one with the first, and once they are, the
-- store says the same of the ids from before, whichever came first.
abbrev pub UnifyIsSymmetric : Type 0
UnifyIsSymmetric = (s : State) (a b : ℕ) →
    (MayBeOne s a b ↔ MayBeOne s b a) ×
    ((one other : State) → SaysBoth s one a b → SaysBoth s other b a →
    (vs : List Value) → length vs ≡ length s.terms → (CanBeExtended one vs ↔ CanBeExtended other vs))

-- After two pairs of ids were made one, one after the other, a store says of the ids from before the
-- first that both pairs are one, where they are such ids.
abbrev pub SaysBothInTurn : Type 0
SaysBothInTurn = (old between new : State) (a b c d : ℕ) →
    LeavesEarlier old between → LeavesEarlier between new →
    c < length old.terms → d < length old.terms →
    SaysBoth old between a b → SaysBoth between new c d →
    (vs : List Value) → length vs ≡ length old.terms →
    (CanBeExtended new vs ↔ (Satisfies old vs × AreOne a b vs × AreOne c d vs))

-- rolled back to a mark taken just before, a store is as it was
abbrev pub UndoGivesBack : Type 0
UndoGivesBack = (old new : State) → LeavesEarlier old new → Rolled new (mark_of old) ≡ old

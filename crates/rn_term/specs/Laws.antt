-- Laws on what stores say.
use Rattle.std.specs.Prelude.{◌≡◌, ◌↔◌, List, [], ◌∷◌, ◌++◌, length}
use Rattle.rn_value.specs.declared.value.Value.{Value}
use Rattle.rn_term.specs.declared.term.Term.{Term}
use Rattle.rn_term.specs.Stores.{State, IsBuiltBelow, with_term}
use Rattle.rn_term.specs.Assignments.{HasValue, Satisfies, Keeps}

-- The assignments of a store with one more term are those of the store before, each with a value of
-- the term after it.
abbrev pub TermsExtend : Type 0
TermsExtend = (s : State) (term : Term) (vs : List Value) (v : Value) →
    Keeps s → IsBuiltBelow (length s.terms) term → length vs ≡ length s.terms →
    Satisfies (with_term s term) (vs ++ v ∷ []) ↔ (Satisfies s vs × HasValue vs term v)

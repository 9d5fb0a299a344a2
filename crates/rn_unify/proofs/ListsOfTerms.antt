-- Which terms may be lists.
use Rattle.std.proofs.Common.{◌≡◌, ◌<◌, ℕ, List, [], refl, length, sym}
use Rattle.std.specs.Prelude.{None}
use Rattle.rn_value.specs.declared.value.Value.{Value}
use Rattle.rn_value.specs.declared.value.Value.TheVariants as Value
use Rattle.rn_term.specs.declared.term.Term.{Term}
use Rattle.rn_term.specs.declared.term.Term.TheVariants as T
use Rattle.rn_term.specs.Stores.{State, term_at, link_of, Leads}
use Rattle.rn_term.specs.Assignments.{Keeps}
use Rattle.rn_term.specs.Occurring.{IsFree}
use Rattle.rn_term.specs.Forcing.{IsAlwaysList, MayBeList}
use Rattle.rn_term.proofs.Filling.{filled}
use Rattle.rn_term.proofs.ReadingLemmas.{list_is_list, cons_is_list}

-- what is always a list may be one
always_may_be : (s : State) (id : ℕ) → Keeps s → IsAlwaysList s id → MayBeList s id
always_may_be s id keeps list =
    let some = keeps.satisfied in (some.0, some.1, list some.0 some.1)

-- a free variable may be one, as all may be `{}`
free_may_be_list : (s : State) (var : ℕ) → Keeps s → IsFree s var → MayBeList s var
free_may_be_list s var keeps free =
    let all = filled s (λ id. Value.List []) keeps (λ id ids tail end is leads there. ([], refl)) in
    (all.0, all.1, ([], all.2 var free))

-- and what is neither a value nor a tuple
pub others_may_be_lists : (s : State) (id : ℕ) (t : Term) → Keeps s → id < length s.terms →
    link_of s.notes id ≡ None → t ≡ term_at s id → ((v : Value) → t ≡ T.Atom v → ⊥) →
    ((ids : List ℕ) → t ≡ T.Tuple ids → ⊥) → MayBeList s id
others_may_be_lists s id T.Free keeps within unbound is no_value no_tuple =
    free_may_be_list s id keeps
    (record { within = within; variable = sym is; unbound = unbound })
others_may_be_lists s id (T.Atom v) keeps within unbound is no_value no_tuple =
    absurd (no_value v refl)
others_may_be_lists s id (T.Tuple ids) keeps within unbound is no_value no_tuple =
    absurd (no_tuple ids refl)
others_may_be_lists s id (T.List ids) keeps within unbound is no_value no_tuple =
    always_may_be s id keeps (list_is_list s id id ids Leads.here within is)
others_may_be_lists s id (T.Cons ids tail) keeps within unbound is no_value no_tuple =
    always_may_be s id keeps (cons_is_list s id id ids tail Leads.here within is)

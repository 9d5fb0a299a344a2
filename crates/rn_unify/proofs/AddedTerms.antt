-- What a variable has to be, once it stands in the store.
use Rattle.std.proofs.Common.{◌≡◌, ◌≢◌, ◌<◌, ℕ, List, ◌++◌, refl, arith, drop}
use Rattle.std.proofs.Common.{length, sym, ◌∙◌, ap, subst}
use Rattle.std.specs.Prelude.{◌↔◌, Option, Some, None}
use Rattle.rn_value.specs.declared.value.Value.{Value}
use Rattle.rn_value.specs.declared.value.Value.TheVariants as Value
use Rattle.rn_term.specs.declared.term.Term.{Term}
use Rattle.rn_term.specs.declared.term.Term.TheVariants as T
use Rattle.rn_term.specs.Stores.{State, Leads, link_of, term_at}
use Rattle.rn_term.specs.Assignments.{value_at, HasListTail, Keeps}
use Rattle.rn_term.specs.Forcing.{items_of}
use Rattle.rn_term.proofs.AssignmentLemmas.{value_stays, link_within}
use Rattle.rn_term.proofs.Occurrences.{one_end}
use Rattle.rn_unify.specs.declared.equation.Equation.{Equation}
use Rattle.rn_unify.specs.declared.equation.Other.{Other}
use Rattle.rn_unify.specs.declared.equation.Other.TheVariants as O
use Rattle.rn_unify.specs.declared.rests.Rest.{Rest}
use Rattle.rn_unify.specs.link.Equations.{HasBefore, CanStand, GivesOther, IsFound}
use Rattle.rn_unify.specs.link.Adding.{HasTail, IsPlaced}
use Rattle.rn_unify.specs.link.Rests.{rest_value}
use Rattle.rn_unify.proofs.EarlierMarks.{IsGrown, term_stays}
use Rattle.rn_unify.proofs.Becoming.{Stays}

-- what may stand in a store may stand there still as it grows
pub can_stand : (old new : State) (other : Other) → IsGrown old new → CanStand old other →
    CanStand new other
can_stand old new (O.Here to) grown stands = omega (arith, stands, grown.not_later.0)
can_stand old new (O.Value v) grown stands = tt
can_stand old new (O.Values values) grown stands = tt
can_stand old new (O.Left rest) grown (within, before) = (
  omega (arith, within, grown.not_later.0),
  subst (HasBefore rest.from) (sym (term_stays old new rest.id grown within)) before,
)

-- what is left of a list stays as values of later ids come
pub rest_stays : (vs more : List Value) (rest : Rest) → rest.id < length vs →
    rest_value (vs ++ more) rest ≡ rest_value vs rest
rest_stays vs more rest within =
    ap (λ v. drop rest.from (items_of v)) (value_stays vs more rest.id within)

-- a tail that is always a list is one once
pub list_tail : (s : State) (t : Term) → Keeps s → HasTail s t → HasListTail s t
list_tail s T.Free keeps tail = tt
list_tail s (T.Atom v) keeps tail = tt
list_tail s (T.Tuple ids) keeps tail = tt
list_tail s (T.List ids) keeps tail = tt
list_tail s (T.Cons ids end) keeps tail =
    let some = tail keeps.satisfied.0 keeps.satisfied.1 in
    (keeps.satisfied.0, some.0, keeps.satisfied.1, some.1)

-- whether an equation is satisfied stays as values of later ids come
pub equation_stays : (s : State) (var : ℕ) (other : Other) → var < length s.terms →
    CanStand s other → Stays s (λ vs. GivesOther vs var other)
equation_stays s var other within stands vs more each =
    one_stays other stands (value_stays vs more var (rw each within))
  where
    one_stays : (o : Other) → CanStand s o → value_at (vs ++ more) var ≡ value_at vs var →
        GivesOther vs var o ↔ GivesOther (vs ++ more) var o
    one_stays (O.Here to) here left =
        let right = value_stays vs more to (rw each here) in
        (λ one. left ∙ one ∙ sym right, λ one. sym left ∙ one ∙ right)
    one_stays (O.Value v) here left = (λ is. left ∙ is, λ is. sym left ∙ is)
    one_stays (O.Values values) here left = (λ is. left ∙ is, λ is. sym left ∙ is)
    one_stays (O.Left rest) here left =
        let same = ap (λ xs. Value.List xs) (rest_stays vs more rest (rw each here.0)) in
        (λ is. left ∙ is ∙ sym same, λ is. sym left ∙ is ∙ same)

-- what isn't a variable is bound to nothing
no_link_of_built : (s : State) (id : ℕ) → Keeps s → term_at s id ≢ T.Free →
    link_of s.notes id ≡ None
no_link_of_built s id keeps other = split (link_of s.notes id) refl where
  split : (o : Option ℕ) → link_of s.notes id ≡ o → link_of s.notes id ≡ None
  split None is = is
  split (Some to) is = absurd (other (link_within s keeps id to is).2)

-- from what a found equation asks for no link leads to its variable
pub apart_from_end : (s new : State) (equation : Equation) (to end : ℕ) →
    IsFound s equation → Keeps new → new.notes ≡ s.notes →
    term_at new equation.var ≡ T.Free → IsPlaced new equation.other to → Leads new.notes to end →
    link_of new.notes end ≡ None → end ≢ equation.var
apart_from_end s new equation to end found keeps same variable placed leads unbound is =
    split equation.other refl placed
  where
    at_its_end : link_of new.notes to ≡ None → end ≡ to
    at_its_end none = one_end new to end to leads Leads.here unbound none

    built : term_at new to ≢ T.Free → ⊥
    built other =
        other (ap (term_at new) (sym (at_its_end (no_link_of_built new to keeps other)) ∙ is)
        ∙ variable)

    split : (other : Other) → equation.other ≡ other → IsPlaced new other to → ⊥
    split (O.Here id) is_here at_id =
        let far = found.apart id is_here in
        let none : link_of new.notes to ≡ None =
        ap (λ ns. link_of ns to) same ∙ ap (link_of s.notes) at_id ∙ far.1 in
        far.0 (sym at_id ∙ sym (at_its_end none) ∙ is)
    split (O.Value v) is_new other = built other
    split (O.Values values) is_new other = built other
    split (O.Left rest) is_new other = built other

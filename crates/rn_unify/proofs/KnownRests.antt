-- What is left of a list, where that was added already.
use Rattle.std.proofs.Common.{◌≡◌, ◌≢◌, ◌<◌, ℕ, List, [], refl, arith, drop}
use Rattle.std.proofs.Common.{length, sym, ◌∙◌, ap}
use Rattle.std.specs.Prelude.{Option, Some, None, Result, IfOk}
use Rattle.std.proofs.lemmas.List.{get_or-take}
use Rattle.std.proofs.lemmas.Result.{IfOk-weaker}
use Rattle.rn_value.specs.declared.value.Value.{Value}
use Rattle.rn_value.specs.declared.value.Value.TheVariants as Value
use Rattle.rn_term.specs.declared.term.Term.TheVariants as T
use Rattle.rn_term.specs.Stores.{State, term_at}
use Rattle.rn_term.specs.Assignments.{value_at, Satisfies, Keeps}
use Rattle.rn_term.specs.Forcing.{items_of}
use Rattle.rn_unify.specs.declared.equation.Other.TheVariants as O
use Rattle.rn_unify.specs.declared.rests.Rest.{Rest}
use Rattle.rn_unify.specs.link.Equations.{IsOther}
use Rattle.rn_unify.specs.link.Adding.{IsKnown, Turns}
use Rattle.rn_unify.specs.link.Binding.{prefix_of}
use Rattle.rn_unify.specs.link.Rests.{rest_value}
use Rattle.rn_unify.proofs.EarlierMarks.{IsGrown, grown, term_stays}
use Rattle.rn_unify.proofs.Turning.{Wish, turns_same}

-- a value from before is that of the assignment from before
value_before : (s : State) (ws : List Value) (id : ℕ) → id < length s.terms →
    value_at (prefix_of s ws) id ≡ value_at ws id
value_before s ws id within = get_or-take (length s.terms) ws id (Value.Tuple []) within

rest_before : (s : State) (ws : List Value) (rest : Rest) → rest.id < length s.terms →
    Value.List (rest_value (prefix_of s ws) rest) ≡ Value.List (rest_value ws rest)
rest_before s ws rest within =
    ap (λ v. Value.List (drop rest.from (items_of v))) (value_before s ws rest.id within)

-- it is known still as the store grows
pub known_grown : (s new : State) (known : Option (Rest × ℕ)) → IsGrown s new →
    ((vs : List Value) → Satisfies new vs → Satisfies s (prefix_of s vs)) → IsKnown s known →
    IsKnown new known
known_grown s new None grown back is = tt
known_grown s new (Some known) grown back (in_list, within, other, says) = (
  omega (arith, in_list, grown.not_later.0),
  omega (arith, within, grown.not_later.0),
  λ free. other (sym (term_stays s new known.1 grown within) ∙ free),
  λ ws sat.
      sym (value_before s ws known.1 within) ∙ says (prefix_of s ws) (back ws sat)
      ∙ rest_before s ws known.0 in_list,
)

known_turned : (s new : State) (known : Option (Rest × ℕ)) (wish left : Wish) →
    Turns s wish new left → IsKnown s known → IsKnown new known
known_turned s new known wish left turned =
    known_grown s new known (grown s new turned.earlier)
    (turned.becomes (Value.Tuple [])).back

-- it is known once it was added
pub known_added : (s new : State) (rest : Rest) (to : ℕ) →
    Turns s (IsOther (O.Left rest)) new (IsOther (O.Here to)) → rest.id < length s.terms →
    to < length new.terms → term_at new to ≢ T.Free → IsKnown new (Some (rest, to))
known_added s new rest to turned in_list within other = (
  omega (arith, in_list, (grown s new turned.earlier).not_later.0),
  within,
  other,
  λ ws sat.
      (turned.becomes (value_at ws to)).enough ws sat refl ∙ rest_before s ws rest in_list,
)

-- where it is known, what has to be that has to be its id
pub known_here : (s : State) (rest : Rest) (to : ℕ) → Keeps s → IsKnown s (Some (rest, to)) →
    Turns s (IsOther (O.Left rest)) s (IsOther (O.Here to))
known_here s rest to keeps (in_list, within, other, says) =
    turns_same s (IsOther (O.Left rest)) (IsOther (O.Here to)) keeps
    (λ vs v sat. (λ is. is ∙ sym (says vs sat), λ is. is ∙ says vs sat))

pub known_result : {E : Type 0} (s new : State) (known : Option (Rest × ℕ)) (wish : Wish)
    (r : Result ℕ E) → IsKnown s known →
    IfOk r (λ to. Turns s wish new (IsOther (O.Here to))) → IfOk r (λ to. IsKnown new known)
known_result s new known wish r is =
    IfOk-weaker r (λ to. Turns s wish new (IsOther (O.Here to))) (λ to. IsKnown new known)
    (λ to turned. known_turned s new known wish (IsOther (O.Here to)) turned is)

-- What is left of a list, where a variable has to be that.
use Rattle.std.proofs.Common.{◌≡◌, ◌≢◌, ◌-◌, ⊎_elim, ◌<◌, ◌≤◌, ℕ, List, ◌++◌, arith, length}
use Rattle.std.proofs.Common.{refl, sym, map}
use Rattle.std.proofs.Common.{◌∙◌, ap, subst, drop, Bool}
use Rattle.std.specs.Prelude.{Result, IfOk, Option, Some, None, ◌↔◌}
use Rattle.std.proofs.lemmas.Bool.{cases_lt}
use Rattle.std.proofs.lemmas.List.{length-drop, drop_all, nil_from_length}
use Rattle.std.proofs.lemmas.Result.{IfOk-weaker}
use Rattle.rn_value.specs.declared.value.Value.{Value}
use Rattle.rn_value.specs.declared.value.Value.TheVariants as Value
use Rattle.rn_term.specs.declared.term.Term.{Term}
use Rattle.rn_term.specs.declared.term.Term.TheVariants as T
use Rattle.rn_term.specs.Stores.{State, term_at}
use Rattle.rn_term.specs.Assignments.{value_at, HasValue, Satisfies, Keeps}
use Rattle.rn_term.specs.Occurring.{IsFree}
use Rattle.rn_term.specs.Forcing.{IsAlwaysList, items_of}
use Rattle.rn_term.proofs.FillingSteps.{items_of-list}
use Rattle.rn_term.proofs.OneValue.{said}
use Rattle.rn_unify.specs.declared.equation.Equation.{Equation}
use Rattle.rn_unify.specs.declared.equation.Other.TheVariants as O
use Rattle.rn_unify.specs.declared.rests.Rest.{Rest}
use Rattle.rn_unify.specs.link.Equations.{CanStand, Finds, HasBefore, IsOther, IsSource, left_other}
use Rattle.rn_unify.specs.link.Adding.{IsOf, Turns, list_of}
use Rattle.rn_unify.specs.link.Rests.{IsRest, elements_of, rest_value}
use Rattle.rn_unify.proofs.Findings.{finds_noted}
use Rattle.rn_unify.proofs.ListPositions.{list_of_items, rest-List, rest-Cons, tail_is_list}
use Rattle.rn_unify.proofs.TermEquations.{IsNoted}
use Rattle.rn_unify.proofs.Turning.{turns_same}
use Rattle.rn_unify.proofs.Blocks.{through_result}

-- What is left of a list of terms.
module _ (s : State) (rest : Rest) (keeps : Keeps s) (within : rest.id < length s.terms) where
  -- and has just this value
  rest_has : (vs : List Value) (ids : List ℕ) (tail : Option ℕ) (v : Value) → Satisfies s vs →
      term_at s rest.id ≡ list_of ids tail → HasBefore rest.from (list_of ids tail) →
      (v ≡ Value.List (rest_value vs rest)) ↔ HasValue vs (list_of (drop rest.from ids) tail) v
  rest_has vs ids None v sat is before =
      let left = ap (λ xs. Value.List xs) (rest-List s vs rest ids sat within is) in
      (λ same. same ∙ left, λ has. has ∙ sym left)
  rest_has vs ids (Some tail) v sat is before =
      let end = tail_is_list s vs rest.id ids tail sat within is in
      let prefix : List Value = map (value_at vs) (drop rest.from ids) in
      let left : rest_value vs rest ≡ prefix ++ items_of (value_at vs tail) =
      rest-Cons s vs rest ids tail sat within is (omega (arith, before)) in (
        λ same. (
          items_of (value_at vs tail),
          list_of_items (value_at vs tail) end,
          same ∙ ap (λ xs. Value.List xs) left,
        ),
        λ (more, tail_is, all_is).
            all_is
            ∙ ap (λ xs. Value.List (prefix ++ xs))
            (sym (ap items_of tail_is ∙ items_of-list more)) ∙ ap (λ xs. Value.List xs) (sym left),
      )

  rest_turns : (ids : List ℕ) (tail : Option ℕ) → term_at s rest.id ≡ list_of ids tail →
      HasBefore rest.from (list_of ids tail) →
      Turns s (IsOther (O.Left rest)) s (IsOf (list_of (drop rest.from ids) tail))
  rest_turns ids tail is before =
      turns_same s (IsOther (O.Left rest)) (IsOf (list_of (drop rest.from ids) tail)) keeps
      (λ vs v sat. rest_has vs ids tail v sat is before)

  pub list_added : {E : Type 0} (new : State) (ids left : List ℕ) (tail : Option ℕ)
      (r : Result ℕ E) → term_at s rest.id ≡ list_of ids tail →
      HasBefore rest.from (list_of ids tail) → left ≡ drop rest.from ids →
      IfOk r (λ to. Turns s (IsOf (list_of left tail)) new (IsOther (O.Here to))) →
      IfOk r (λ to. Turns s (IsOther (O.Left rest)) new (IsOther (O.Here to)))
  list_added new ids left tail r is before is_left =
      through_result s s new (IsOther (O.Left rest)) (IsOf (list_of left tail)) r
      (subst (λ xs. Turns s (IsOther (O.Left rest)) s (IsOf (list_of xs tail))) (sym is_left)
      (rest_turns ids tail is before))

  -- of a value's list it is the list of the later values
  values_turn : (list : Value) (values : List Value) → term_at s rest.id ≡ T.Atom list →
      list ≡ Value.List values →
      Turns s (IsOther (O.Left rest)) s (IsOther (O.Values (drop rest.from values)))
  values_turn list values is are =
      turns_same s (IsOther (O.Left rest)) (IsOther (O.Values (drop rest.from values))) keeps
      (λ vs v sat.
      let left : Value.List (rest_value vs rest) ≡ Value.List (drop rest.from values) =
      ap (λ w. Value.List (drop rest.from (items_of w)))
      (said s vs rest.id (T.Atom list) sat within is ∙ are)
      ∙ ap (λ xs. Value.List (drop rest.from xs)) (items_of-list values) in
      (λ same. same ∙ left, λ same. same ∙ sym left))

  pub values_added : {E : Type 0} (new : State) (list : Value) (values left : List Value)
      (r : Result ℕ E) → term_at s rest.id ≡ T.Atom list → list ≡ Value.List values →
      left ≡ drop rest.from values →
      IfOk r (λ to. Turns s (IsOther (O.Values left)) new (IsOther (O.Here to))) →
      IfOk r (λ to. Turns s (IsOther (O.Left rest)) new (IsOther (O.Here to)))
  values_added new list values left r is are is_left =
      through_result s s new (IsOther (O.Left rest)) (IsOther (O.Values left)) r
      (subst (λ xs. Turns s (IsOther (O.Left rest)) s (IsOther (O.Values xs))) (sym is_left)
      (values_turn list values is are))

-- a position after an element of a list is there
pub before_rest : (s : State) (rest : Rest) (t : Term) → IsRest s rest → 0 < rest.from →
    term_at s rest.id ≡ t → HasBefore rest.from t
before_rest s rest T.Free position some is =
    absurd (omega (arith, some, position.before, ap (λ u. length (elements_of u)) is))
before_rest s rest (T.Atom v) position some is =
    absurd (omega (arith, some, position.before, ap (λ u. length (elements_of u)) is))
before_rest s rest (T.Tuple ids) position some is =
    absurd (omega (arith, some, position.before, ap (λ u. length (elements_of u)) is))
before_rest s rest (T.List ids) position some is =
    omega (arith, position.before, ap (λ u. length (elements_of u)) is)
before_rest s rest (T.Cons ids tail) position some is = position.ahead ids tail is

-- a free variable whose value is always a list may have to be what is left of another
pub rest_noted : {E : Type 0} (s : State) (var : ℕ) (rest : Rest) (before after : List Equation)
    (r : Result Bool E) → IsFree s var → IsAlwaysList s var → IsRest s rest → 0 < rest.from →
    IfOk r (IsNoted before after (record { var = var; other = O.Left rest })) →
    IfOk r (Finds s (λ vs. items_of (value_at vs var) ≡ rest_value vs rest) before after)
rest_noted s var rest before after r free list position some = IfOk-weaker r
    (IsNoted before after (record { var = var; other = O.Left rest }))
    (Finds s (λ vs. items_of (value_at vs var) ≡ rest_value vs rest) before after)
    (λ answer noted. finds_noted s (λ vs. items_of (value_at vs var) ≡ rest_value vs rest) before
    after var (O.Left rest) answer noted.0 noted.1 free
    (position.within, before_rest s rest (term_at s rest.id) position some refl) (λ to is. cc)
    (λ vs sat. (
      λ same. list_of_items (value_at vs var) (list vs sat) ∙ ap (λ xs. Value.List xs) same,
      λ is. ap items_of is ∙ items_of-list (rest_value vs rest),
    )))

-- What is left of values.
module _ (s : State) (source : Option ℕ) (values left : List Value) (from : ℕ)
    (is : IsSource s source (Value.List values)) (are : left ≡ drop from values)
    (few : from ≤ length values) where
  pub left_stands : CanStand s (left_other source from left)
  left_stands = split source is where
    split : (o : Option ℕ) → IsSource s o (Value.List values) →
        CanStand s (left_other o from left)
    split None none = tt
    split (Some id) (within, at) =
        (within, subst (HasBefore from) (sym at) (values, refl, few))

  pub left_is : (vs : List Value) (v : Value) → Satisfies s vs →
      (v ≡ Value.List left) ↔ IsOther (left_other source from left) vs v
  left_is vs v sat = split source is where
    split : (o : Option ℕ) → IsSource s o (Value.List values) →
        (v ≡ Value.List left) ↔ IsOther (left_other o from left) vs v
    split None none = (λ same. same, λ same. same)
    split (Some id) (within, at) =
        let there : Value.List left ≡ Value.List (drop from (items_of (value_at vs id))) =
        ap (λ xs. Value.List xs) are
        ∙ ap (λ xs. Value.List (drop from xs)) (sym (items_of-list values))
        ∙ ap (λ w. Value.List (drop from (items_of w)))
        (sym (said s vs id (T.Atom (Value.List values)) sat within at)) in
        (λ same. same ∙ there, λ same. same ∙ sym there)

pub left_not_here : (source : Option ℕ) (from to : ℕ) (left : List Value) →
    left_other source from left ≢ O.Here to
left_not_here None from to left = λ is. cc
left_not_here (Some id) from to left = λ is. cc

-- as many of the last elements as there are, of a list
pub last_of_all : {X : Type 0} (n : ℕ) (all left : List X) → left ≡ drop n all →
    (length left ≤ length all) × (left ≡ drop (length all - length left) all)
last_of_all n all left is = ⊎_elim
    (λ small.
    let first : length all - length left ≡ n = omega (arith, long, small) in
    (omega (arith, long), is ∙ ap (λ k. drop k all) (sym first)))
    (λ big.
    let none : length left ≡ 0 = omega (arith, long, big) in (
      omega (arith, none),
      nil_from_length left none
          ∙ sym (drop_all (length all - length left) all (omega (arith, none))),
    ))
    (cases_lt n (length all))
  where
    long : length left ≡ length all - n
    long = ap length is ∙ length-drop n all

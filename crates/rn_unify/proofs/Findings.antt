-- What is found of one wish on the assignments of a store, from what is found of others.
use Rattle.std.proofs.Common.{◌≡◌, ◌≢◌, ◌<◌, ℕ, length, List, [], ◌∷◌, ◌++◌, Bool, true, false}
use Rattle.std.proofs.Common.{refl, sym, ◌∙◌, ap, subst}
use Rattle.std.specs.Prelude.{◌↔◌, None, Result, IfOk, IsTrue}
use Rattle.std.specs.List.{AllByRecursion}
use Rattle.std.proofs.lemmas.Bool.{false≢true}
use Rattle.std.proofs.lemmas.List.{append-nil, append_assoc}
use Rattle.std.proofs.Common.{reverse}
use Rattle.std.proofs.lemmas.Grind.{reverse_onto}
use Rattle.std.proofs.lemmas.Result.{IfOk-weaker}
use Rattle.rn_value.specs.declared.value.Value.{Value}
use Rattle.rn_term.specs.Stores.{State, link_of}
use Rattle.rn_term.specs.Assignments.{Satisfies, value_at}
use Rattle.rn_term.specs.Occurring.{IsFree}
use Rattle.rn_unify.specs.declared.equation.Equation.{Equation}
use Rattle.rn_unify.specs.declared.equation.Other.{Other}
use Rattle.rn_unify.specs.declared.equation.Other.TheVariants as O
use Rattle.rn_unify.specs.declared.classes.Classes.{Classes}
use Rattle.rn_unify.specs.link.Classes.{Fits}
use Rattle.rn_unify.specs.link.Equations.{Finds, IsFound, CanStand, GivesOther, Solves, Adds, AreMade}
use Rattle.rn_unify.specs.Unifying.{AreOne}

-- what is found of a wish is found of each other that is true exactly where it is
pub finds_same : (s : State) (wish other : List Value → Type 0) (before after : List Equation)
    (answer : Bool) → ((vs : List Value) → Satisfies s vs → wish vs ↔ other vs) →
    Finds s other before after answer → Finds s wish before after answer
finds_same s wish other before after true same (more, is, each, just) = (
  more,
  is,
  each,
  λ vs sat. (
    λ w. (just vs sat).0 ((same vs sat).0 w),
    λ solves. (same vs sat).1 ((just vs sat).1 solves),
  ),
)
finds_same s wish other before after false same never =
    λ vs sat w. never vs sat ((same vs sat).0 w)

pub finds_same_result : {E : Type 0} (s : State) (wish other : List Value → Type 0)
    (before after : List Equation) (r : Result Bool E) →
    ((vs : List Value) → Satisfies s vs → wish vs ↔ other vs) →
    IfOk r (Finds s other before after) → IfOk r (Finds s wish before after)
finds_same_result s wish other before after r same found =
    IfOk-weaker r (Finds s other before after) (Finds s wish before after)
    (λ answer. finds_same s wish other before after answer same) found

-- a wish that each assignment makes true asks for no equation
pub finds_nothing : (s : State) (wish : List Value → Type 0) (before : List Equation) →
    ((vs : List Value) → Satisfies s vs → wish vs) → Finds s wish before before true
finds_nothing s wish before always =
    ([], sym (append-nil before), tt, λ vs sat. (λ w. tt, λ solves. always vs sat))

-- a wish that each assignment makes true, or none
pub finds_answer : (s : State) (wish : List Value → Type 0) (before : List Equation) (answer : Bool) →
    ((vs : List Value) → Satisfies s vs → IsTrue answer ↔ wish vs) → Finds s wish before before answer
finds_answer s wish before true same = finds_nothing s wish before (λ vs sat. (same vs sat).0 refl)
finds_answer s wish before false same = λ vs sat w. false≢true ((same vs sat).1 w)

-- one equation that is noted
pub finds_one : (s : State) (wish : List Value → Type 0) (before after : List Equation)
    (equation : Equation) → after ≡ before ++ equation ∷ [] → IsFound s equation →
    ((vs : List Value) → Satisfies s vs → wish vs ↔ GivesOther vs equation.var equation.other) →
    Finds s wish before after true
finds_one s wish before after equation is found same = (
  equation ∷ [],
  is,
  (found, tt),
  λ vs sat. (λ w. ((same vs sat).0 w, tt), λ solves. (same vs sat).1 solves.0),
)

-- what holds of each element of two lists holds of each of both joined, and the other way round
pub all_joined : {X : Type 0} (P : X → Type 0) (xs ys : List X) →
    (AllByRecursion P xs × AllByRecursion P ys) ↔ AllByRecursion P (xs ++ ys)
all_joined P [] ys = (λ both. both.1, λ all. (tt, all))
all_joined P (x ∷ xs) ys = (
  λ both. (both.0.0, (all_joined P xs ys).0 (both.0.1, both.1)),
  λ all.
      let rest = (all_joined P xs ys).1 all.1 in
      ((all.0, rest.0), rest.1),
)

-- two wishes, the equations of one after those of the other
pub finds_both : (s : State) (wish other : List Value → Type 0)
    (before middle after : List Equation) → Finds s wish before middle true →
    Finds s other middle after true → Finds s (λ vs. wish vs × other vs) before after true
finds_both s wish other before middle after (prefix, is_prefix, each_prefix, exact_prefix)
    (back, is_back, each_back, exact_back) = (
      prefix ++ back,
      is_back ∙ ap (λ es. es ++ back) is_prefix ∙ append_assoc before prefix back,
      (all_joined (IsFound s) prefix back).0 (each_prefix, each_back),
      λ vs sat.
          let split = all_joined (λ e. GivesOther vs e.var e.other) prefix back in (
            λ w. split.0 ((exact_prefix vs sat).0 w.0, (exact_back vs sat).0 w.1),
            λ solves.
                let both = split.1 solves in
                ((exact_prefix vs sat).1 both.0, (exact_back vs sat).1 both.1),
          ),
    )

-- two wishes, of which nothing keeps the first from being true
pub finds_then : (s : State) (wish other : List Value → Type 0)
    (before middle after : List Equation) (answer : Bool) → Finds s wish before middle true →
    Finds s other middle after answer → Finds s (λ vs. wish vs × other vs) before after answer
finds_then s wish other before middle after true first second =
    finds_both s wish other before middle after first second
finds_then s wish other before middle after false first never =
    λ vs sat both. never vs sat both.1

-- a free variable that has to be another id
pub finds_here : (s : State) (wish : List Value → Type 0) (before after : List Equation)
    (var to : ℕ) (answer : Bool) → IsTrue answer →
    after ≡ before ++ record { var = var; other = O.Here to } ∷ [] → IsFree s var →
    to < length s.terms → link_of s.notes to ≡ None → to ≢ var →
    ((vs : List Value) → Satisfies s vs → wish vs ↔ (value_at vs var ≡ value_at vs to)) →
    Finds s wish before after answer
finds_here s wish before after var to true is noted free within unbound apart same =
    finds_one s wish before after (record { var = var; other = O.Here to }) noted
    (record {
      free = free;
      stands = within;
      apart = λ id e.
          let at : to ≡ id = cc in
          (λ same_id. apart (at ∙ same_id), subst (λ i. link_of s.notes i ≡ None) at unbound);
    })
    same
finds_here s wish before after var to false is noted free within unbound apart same =
    absurd (false≢true is)

-- a free variable that has to be something new
pub finds_noted : (s : State) (wish : List Value → Type 0) (before after : List Equation)
    (var : ℕ) (other : Other) (answer : Bool) → IsTrue answer →
    after ≡ before ++ record { var = var; other = other } ∷ [] → IsFree s var → CanStand s other →
    ((to : ℕ) → other ≢ O.Here to) →
    ((vs : List Value) → Satisfies s vs → wish vs ↔ GivesOther vs var other) →
    Finds s wish before after answer
finds_noted s wish before after var other true is noted free stands new same =
    finds_one s wish before after (record { var = var; other = other }) noted
    (record { free = free; stands = stands; apart = λ to e. absurd (new to e) }) same
finds_noted s wish before after var other false is noted free stands new same =
    absurd (false≢true is)

-- classes that fit go on fitting as equations come
pub made_stays : (s : State) (made : Classes) (before more after : List Equation) →
    after ≡ before ++ more → AreMade s made before → AreMade s made after
made_stays s made before more after is fits vs sat solves =
    fits vs sat
    ((all_joined (λ e. GivesOther vs e.var e.other) before more).1
    (subst (Solves vs) is solves)).0

-- what is found alone is added
pub adds_found : (s : State) (wish : List Value → Type 0) (made : Classes)
    (before after : List Equation) (answer : Bool) → AreMade s made before →
    Finds s wish before after answer → Adds s wish made before after answer
adds_found s wish made before after true fits (more, is, each, just) = (
  more,
  is,
  each,
  λ vs sat solves. just vs sat,
  made_stays s made before more after is fits,
)
adds_found s wish made before after false fits never = λ vs sat solves. never vs sat

pub adds_found_result : {E : Type 0} (s : State) (wish : List Value → Type 0) (made : Classes)
    (before after : List Equation) (r : Result Bool E) → AreMade s made before →
    IfOk r (Finds s wish before after) → IfOk r (Adds s wish made before after)
adds_found_result s wish made before after r fits =
    IfOk-weaker r (Finds s wish before after) (Adds s wish made before after)
    (λ answer. adds_found s wish made before after answer fits)

-- what is added for a wish is added for each other that is true exactly where it is
pub adds_same : (s : State) (wish other : List Value → Type 0) (made : Classes)
    (before after : List Equation) (answer : Bool) →
    ((vs : List Value) → Satisfies s vs → Solves vs before → wish vs ↔ other vs) →
    Adds s other made before after answer → Adds s wish made before after answer
adds_same s wish other made before after true same (more, is, each, just, fits) = (
  more,
  is,
  each,
  λ vs sat solves. (
    λ w. (just vs sat solves).0 ((same vs sat solves).0 w),
    λ all. (same vs sat solves).1 ((just vs sat solves).1 all),
  ),
  fits,
)
adds_same s wish other made before after false same never =
    λ vs sat solves w. never vs sat solves ((same vs sat solves).0 w)

-- a wish that asks for more than one that can't be added
pub adds_never : (s : State) (wish other : List Value → Type 0) (made others : Classes)
    (before after back : List Equation) →
    ((vs : List Value) → Satisfies s vs → Solves vs before → wish vs → other vs) →
    Adds s other made before after false → Adds s wish others before back false
adds_never s wish other made others before after back asks never =
    λ vs sat solves w. never vs sat solves (asks vs sat solves w)

-- where there are no equations before, what is added is found
pub adds_alone : (s : State) (wish : List Value → Type 0) (made : Classes)
    (before after : List Equation) (answer : Bool) → before ≡ [] →
    Adds s wish made before after answer → Finds s wish before after answer
adds_alone s wish made before after true none (more, is, each, just, fits) = (
  more,
  is,
  each,
  λ vs sat. just vs sat (subst (Solves vs) (sym none) tt),
)
adds_alone s wish made before after false none never =
    λ vs sat. never vs sat (subst (Solves vs) (sym none) tt)

pub adds_same_result : {E : Type 0} (s : State) (wish other : List Value → Type 0)
    (made : Classes) (before after : List Equation) (r : Result Bool E) →
    ((vs : List Value) → Satisfies s vs → Solves vs before → wish vs ↔ other vs) →
    IfOk r (Adds s other made before after) → IfOk r (Adds s wish made before after)
adds_same_result s wish other made before after r same =
    IfOk-weaker r (Adds s other made before after) (Adds s wish made before after)
    (λ answer. adds_same s wish other made before after answer same)

-- a wish that each assignment makes true which satisfies the equations asks for no more
pub adds_nothing : (s : State) (wish : List Value → Type 0) (made : Classes)
    (before : List Equation) → AreMade s made before →
    ((vs : List Value) → Satisfies s vs → Solves vs before → wish vs) →
    Adds s wish made before before true
adds_nothing s wish made before fits always =
    ([], sym (append-nil before), tt, λ vs sat solves. (λ w. tt, λ all. always vs sat solves), fits)

-- two wishes, the equations of one after those of the other
pub adds_then : (s : State) (wish other : List Value → Type 0) (between made : Classes)
    (before middle after : List Equation) (answer : Bool) →
    Adds s wish between before middle true → Adds s other made middle after answer →
    Adds s (λ vs. wish vs × other vs) made before after answer
adds_then s wish other between made before middle after true
    (prefix, is_prefix, each_prefix, exact_prefix, fits_prefix)
    (back, is_back, each_back, exact_back, fits) = (
      prefix ++ back,
      is_back ∙ ap (λ es. es ++ back) is_prefix ∙ append_assoc before prefix back,
      (all_joined (IsFound s) prefix back).0 (each_prefix, each_back),
      λ vs sat solves.
          let split = all_joined (λ e. GivesOther vs e.var e.other) prefix back in
          let on = all_joined (λ e. GivesOther vs e.var e.other) before prefix in (
            λ w.
                let first = (exact_prefix vs sat solves).0 w.0 in
                let here = subst (Solves vs) (sym is_prefix) (on.0 (solves, first)) in
                split.0 (first, (exact_back vs sat here).0 w.1),
            λ all.
                let both = split.1 all in
                let here = subst (Solves vs) (sym is_prefix) (on.0 (solves, both.0)) in
                ((exact_prefix vs sat solves).1 both.0, (exact_back vs sat here).1 both.1),
          ),
      fits,
    )
adds_then s wish other between made before middle after false
    (prefix, is_prefix, each_prefix, exact_prefix, fits_prefix) never =
    λ vs sat solves both.
    let on = all_joined (λ e. GivesOther vs e.var e.other) before prefix in
    never vs sat
    (subst (Solves vs) (sym is_prefix) (on.0 (solves, (exact_prefix vs sat solves).0 both.0)))
    both.1

-- ids that were made one may be remembered
pub adds_joined : (s : State) (a b x y : ℕ) (made after_join : Classes)
    (before after : List Equation) →
    ((vs : List Value) → Satisfies s vs → AreOne a b vs ↔ AreOne x y vs) →
    Adds s (AreOne x y) made before after true →
    ((f : ℕ → Value) → Fits made f → f x ≡ f y → Fits after_join f) →
    Adds s (AreOne a b) after_join before after true
adds_joined s a b x y made after_join before after same (more, is, each, just, fits) joined = (
  more,
  is,
  each,
  λ vs sat solves. (
    λ w. (just vs sat solves).0 ((same vs sat).0 w),
    λ all. (same vs sat).1 ((just vs sat solves).1 all),
  ),
  λ vs sat solves.
      let both = (all_joined (λ e. GivesOther vs e.var e.other) before more).1
      (subst (Solves vs) is solves) in
      joined (value_at vs) (fits vs sat solves) ((just vs sat both.0).1 both.1),
)

-- what holds of each element holds of each of the list the other way round
pub all_reversed : {X : Type 0} (P : X → Type 0) (xs : List X) →
    AllByRecursion P xs → AllByRecursion P (reverse xs)
all_reversed P [] all = tt
all_reversed P (x ∷ xs) all =
    subst (AllByRecursion P) (sym (reverse_onto xs x []))
    ((all_joined P (reverse xs) (x ∷ [])).0 (all_reversed P xs all.1, (all.0, tt)))

-- What a store is between the rounds of making two ids one.
use Rattle.std.proofs.Common.{◌≡◌, ℕ, true, false, List, [], ◌∷◌, ◌++◌, arith, refl}
use Rattle.std.proofs.Common.{length, sym, ◌∙◌, ap, subst}
use Rattle.std.specs.Prelude.{IsTrue, ◌↔◌}
use Rattle.std.specs.List.{AllByRecursion}
use Rattle.rn_value.specs.declared.value.Value.{Value}
use Rattle.rn_term.specs.Stores.{State}
use Rattle.rn_term.specs.Assignments.{Satisfies, MayBeOne, Keeps}
use Rattle.rn_term.specs.Undoing.{LeavesEarlier}
use Rattle.rn_unify.specs.declared.equation.Equation.{Equation}
use Rattle.rn_unify.specs.link.Equations.{Solves, AreEachOne, AreWithin, Finds, IsFound}
use Rattle.rn_unify.specs.link.Binding.{Becomes, IsBound, IsSolved, prefix_of}
use Rattle.rn_unify.specs.Unifying.{AreOne, SaysBoth}
use Rattle.rn_unify.proofs.SolvedPairs.{solved}
use Rattle.rn_unify.proofs.EarlierMarks.{IsGrown, grown, grown_through}
use Rattle.rn_unify.proofs.Becoming.{prefix_of-append, becomes_same, becomes_through}

-- Some pairs are left to be made one.
pub record IsUnderWay (old : State) (a b : ℕ) (s : State) (pairs : List (ℕ × ℕ)) : Type 0 where
  pub grown : IsGrown old s
  pub within : AreWithin s pairs
  pub kept : Keeps s
  pub becomes : Becomes old (AreOne a b) s (AreEachOne pairs)

-- binding the variables of equations in another order is binding them
pub bound_reordered : (s new : State) (es others : List Equation) (pairs : List (ℕ × ℕ)) →
    ((vs : List Value) → Solves vs es ↔ Solves vs others) → length others ≡ length es →
    IsBound s others new pairs → IsBound s es new pairs
bound_reordered s new es others pairs same each bound = record {
  within = bound.within;
  kept = bound.kept;
  becomes =
      becomes_through s s new (λ vs. Solves vs es) (λ vs. Solves vs others) (AreEachOne pairs)
      (omega arith)
      (becomes_same s (λ vs. Solves vs es) (λ vs. Solves vs others) (λ vs sat. same vs))
      bound.becomes;
  fewer = λ some. bound.fewer (omega (arith, some, each));
}

-- two ids were made one, but for pairs that are left
pub first_round : (old new : State) (a b : ℕ) (before pairs : List (ℕ × ℕ)) → before ≡ [] →
    Keeps new → IsSolved old a b before new pairs → IsUnderWay old a b new pairs
first_round old new a b before pairs none keeps is =
    let made = solved old new a b before pairs
    (subst (AreWithin old) (sym none) tt) is in
    record {
      grown = made.grown;
      within = made.within;
      kept = keeps;
      becomes =
          becomes_through old old new (AreOne a b) (λ vs. AreOne a b vs × AreEachOne before vs)
          (AreEachOne pairs) (omega arith)
          (becomes_same old (AreOne a b) (λ vs. AreOne a b vs × AreEachOne before vs)
          (λ vs sat. (
            λ one. (one, subst (λ ps. AreEachOne ps vs) (sym none) tt),
            λ both. both.0,
          )))
          made.becomes;
    }

-- what was found alone
found_alone : (s : State) (wish : List Value → Type 0) (before found : List Equation) →
    Finds s wish before found true → before ≡ [] →
    AllByRecursion (IsFound s) found
    × ((vs : List Value) → Satisfies s vs → wish vs ↔ Solves vs found)
found_alone s wish before found (more, is, each, just) none =
    let same : found ≡ more = is ∙ ap (λ es. es ++ more) none in
    subst (λ es. AllByRecursion (IsFound s) es
    × ((vs : List Value) → Satisfies s vs → wish vs ↔ Solves vs es)) (sym same) (each, just)

module _ (old s : State) (a b : ℕ) (pairs : List (ℕ × ℕ)) (way : IsUnderWay old a b s pairs) where
  -- where no assignment makes each pair one none makes both ids one
  pub never_one : ((vs : List Value) → Satisfies s vs → ¬ AreEachOne pairs vs) →
      IsTrue false ↔ MayBeOne old a b
  never_one never = (
    λ is. cc,
    λ (vs, sat, one).
        let on = way.becomes.forth vs sat one in
        absurd (never (vs ++ on.0) on.1 on.2),
  )

  -- each assignment makes each pair one: the store says that both ids are one
  pub says_always : ((vs : List Value) → Satisfies s vs → AreEachOne pairs vs) → SaysBoth old s a b
  says_always always vs each = (
    λ on.
        let same = prefix_of-append old vs on.0 each in (
          subst (Satisfies old) same (way.becomes.back (vs ++ on.0) on.1),
          subst (AreOne a b) same
              (way.becomes.enough (vs ++ on.0) on.1 (always (vs ++ on.0) on.1)),
        ),
    λ both.
        let on = way.becomes.forth vs both.0 both.1 in
        (on.0, on.1),
  )

  -- no pair is left
  pub none_left : length pairs ≡ 0 → (vs : List Value) → Satisfies s vs → AreEachOne pairs vs
  none_left none vs sat = all_of_none pairs none where
    all_of_none : (ps : List (ℕ × ℕ)) → length ps ≡ 0 → AreEachOne ps vs
    all_of_none [] empty = tt
    all_of_none (p ∷ ps) empty = absurd (omega (arith, empty))

  pub may_be_one : ((vs : List Value) → Satisfies s vs → AreEachOne pairs vs) →
      IsTrue true ↔ MayBeOne old a b
  may_be_one always = (
    λ is.
        let (ws, sat) = way.kept.satisfied in (
          prefix_of old ws,
          way.becomes.back ws sat,
          way.becomes.enough ws sat (always ws sat),
        ),
    λ one. refl,
  )

  module _ (before found : List Equation) (is : Finds s (AreEachOne pairs) before found true)
      (none_before : before ≡ []) where
    -- no assignment satisfies the equations
    pub never_solved : ((vs : List Value) → Satisfies s vs → ¬ Solves vs found) →
        IsTrue false ↔ MayBeOne old a b
    never_solved never =
        never_one (λ vs sat all. never vs sat
        (((found_alone s (AreEachOne pairs) before found is none_before).1 vs sat).0 all))

    -- the equations' variables were bound
    pub next_round : (new : State) (later : List (ℕ × ℕ)) → IsBound s found new later →
        LeavesEarlier s new → IsUnderWay old a b new later
    next_round new later bound earlier = record {
      grown = grown_through old s new way.grown (grown s new earlier);
      within = bound.within;
      kept = bound.kept;
      becomes =
          becomes_through old s new (AreOne a b) (AreEachOne pairs) (AreEachOne later)
          way.grown.not_later.0 way.becomes
          (becomes_through s s new (AreEachOne pairs) (λ vs. Solves vs found) (AreEachOne later)
          (omega arith)
          (becomes_same s (AreEachOne pairs) (λ vs. Solves vs found)
          (found_alone s (AreEachOne pairs) before found is none_before).1)
          bound.becomes);
    }

    -- there is no equation: each assignment makes each pair one
    pub always_one : length found ≡ 0 → (vs : List Value) → Satisfies s vs → AreEachOne pairs vs
    always_one none vs sat =
        ((found_alone s (AreEachOne pairs) before found is none_before).1 vs sat).1
        (no_equation found none)
      where
        no_equation : (es : List Equation) → length es ≡ 0 → Solves vs es
        no_equation [] empty = tt
        no_equation (e ∷ es) empty = absurd (omega (arith, empty))

-- What a store is on the way as the variables of equations are bound.
use Rattle.std.proofs.Common.{◌≡◌, ◌≢◌, ◌<◌, ◌⊎◌, ⊎_elim, inl, inr, ℕ, List, [], ◌∷◌, ◌++◌, refl}
use Rattle.std.proofs.Common.{arith, length, sym, ◌∙◌, ap, subst, append_assoc}
use Rattle.std.specs.Prelude.{Option}
use Rattle.std.specs.List.{AllByRecursion}
use Rattle.std.proofs.lemmas.List.{append-nil}
use Rattle.rn_value.specs.declared.value.Value.{Value}
use Rattle.rn_term.specs.declared.term.Term.TheVariants as T
use Rattle.rn_term.specs.Stores.{State, Leads, link_of, term_at}
use Rattle.rn_term.specs.Assignments.{Satisfies, MayBeOne, Keeps}
use Rattle.rn_term.proofs.Occurrences.{end_is_here}
use Rattle.rn_unify.specs.declared.equation.Equation.{Equation}
use Rattle.rn_unify.specs.declared.equation.Other.TheVariants as O
use Rattle.rn_unify.specs.link.Equations.{Solves, GivesOther, AreEachOne, AreWithin, IsFound, CanStand}
use Rattle.rn_unify.specs.link.Equations.{IsOther}
use Rattle.rn_unify.specs.link.Adding.{IsKnown, IsPlaced, Turns}
use Rattle.rn_unify.specs.declared.rests.Rest.{Rest}
use Rattle.rn_unify.specs.link.Binding.{Becomes, IsSolved, free_number}
use Rattle.rn_unify.specs.Unifying.{AreOne}
use Rattle.rn_unify.proofs.EarlierMarks.{IsGrown, grown, grown_not, grown_through}
use Rattle.rn_unify.proofs.EarlierMarks.{term_stays}
use Rattle.rn_unify.proofs.Becoming.{becomes_same, becomes_through, becomes_with}
use Rattle.rn_unify.proofs.Becoming.{becomes_after}
use Rattle.rn_unify.proofs.Findings.{all_joined}
use Rattle.rn_unify.proofs.PairsLeft.{pairs_within, pairs_stay}
use Rattle.rn_unify.proofs.Turning.{becomes_at}
use Rattle.rn_unify.proofs.KnownRests.{known_grown}
use Rattle.rn_unify.proofs.SolvedPairs.{solved}
use Rattle.rn_unify.proofs.AddedTerms.{can_stand, equation_stays, apart_from_end}

-- Some equations are left, and the others, after them, were taken: of those variables were bound,
-- but for later pairs.
pub record IsOnTheWay (old : State) (equations : List Equation) (s : State) (rest : List Equation)
    (later : List (ℕ × ℕ)) : Type 0 where
  pub taken : List Equation
  pub all : equations ≡ rest ++ taken
  pub grown : IsGrown old s
  pub keeps : Keeps s
  pub within : AreWithin s later
  pub becomes : Becomes old (λ vs. Solves vs taken) s (AreEachOne later)
  pub number : ((taken ≡ []) × (s ≡ old)) ⊎ (free_number s < free_number old)

-- none was taken
pub start : (s : State) (equations : List Equation) (later : List (ℕ × ℕ)) → Keeps s →
    later ≡ [] → IsOnTheWay s equations s equations later
start s equations later keeps none =
    subst (IsOnTheWay s equations s equations) (sym none) (record {
      taken = [];
      all = sym (append-nil equations);
      grown = grown_not s;
      keeps = keeps;
      within = tt;
      becomes = becomes_same s (λ vs. Solves vs []) (AreEachOne []) (λ vs sat. (λ _. tt, λ _. tt));
      number = inl (refl, refl);
    })

-- one equation more is taken
module _ (old s : State) (equations before rest : List Equation) (later : List (ℕ × ℕ))
    (equation : Equation) (found : AllByRecursion (IsFound old) equations)
    (way : IsOnTheWay old equations s before later) (last : before ≡ rest ++ equation ∷ []) where
  all_but : equations ≡ rest ++ equation ∷ way.taken
  all_but =
      way.all ∙ ap (λ es. es ++ way.taken) last ∙ append_assoc rest (equation ∷ []) way.taken

  found_here : IsFound old equation
  found_here =
      ((all_joined (IsFound old) rest (equation ∷ way.taken)).1
      (subst (AllByRecursion (IsFound old)) all_but found)).1.0

  -- what its variable has to be may stand in the store
  pub stands : CanStand s equation.other
  stands = can_stand old s equation.other way.grown found_here.stands

  var_within : equation.var < length s.terms
  var_within = omega (arith, found_here.free.within, way.grown.not_later.0)

  module _ (new : State) (to : ℕ)
      (added_as : Turns s (IsOther equation.other) new (IsOther (O.Here to))) where
    grown_now : IsGrown s new
    grown_now = grown s new added_as.earlier

    pub var_within_new : equation.var < length new.terms
    var_within_new = omega (arith, var_within, grown_now.not_later.0)

    pub grown_new : IsGrown old new
    grown_new = grown_through old s new way.grown grown_now

    -- that the equations taken are satisfied becomes that this variable is one with what it has to
    -- be, and each pair is made one
    becomes_new : Becomes old (λ vs. Solves vs (equation ∷ way.taken)) new
        (λ vs. AreOne equation.var to vs × AreEachOne later vs)
    becomes_new =
        becomes_through old s new (λ vs. Solves vs (equation ∷ way.taken))
        (λ vs. GivesOther vs equation.var equation.other × AreEachOne later vs)
        (λ vs. AreOne equation.var to vs × AreEachOne later vs) way.grown.not_later.0
        (becomes_after old s (λ vs. GivesOther vs equation.var equation.other)
        (λ vs. Solves vs way.taken) (AreEachOne later) way.grown.not_later.0
        (equation_stays old equation.var equation.other found_here.free.within found_here.stands)
        way.becomes)
        (becomes_with s new (λ vs. GivesOther vs equation.var equation.other)
        (AreOne equation.var to) (AreEachOne later) grown_now.not_later.0
        (pairs_stay s later way.within)
        (becomes_at s new (IsOther equation.other) (IsOther (O.Here to)) equation.var added_as
        var_within))

    -- the variable and what it has to be may not be one, so no assignment satisfies the equations
    pub refused : ¬ MayBeOne new equation.var to → (vs : List Value) → Satisfies old vs →
        ¬ Solves vs equations
    refused never vs sat solves =
        let taken = (all_joined (λ e. GivesOther vs e.var e.other) rest (equation ∷ way.taken)).1
        (subst (Solves vs) all_but solves) in
        let on = becomes_new.forth vs sat taken.1 in
        never (vs ++ on.0, on.1, on.2.0)

    -- a variable that isn't bound yet leads to itself
    unbound_at_first : (x : ℕ) → s ≡ old → Leads new.notes equation.var x → equation.var ≡ x
    unbound_at_first x same leads =
        end_is_here new equation.var x
        (ap (λ ns. link_of ns equation.var) (added_as.notes ∙ ap (λ u. u.notes) same)
        ∙ found_here.free.unbound) leads

    still_variable : term_at new equation.var ≡ T.Free
    still_variable =
        term_stays old new equation.var grown_new found_here.free.within
        ∙ found_here.free.variable

    -- so the first equation binds a variable
    not_left_at_first : (after : State) (pairs : List (ℕ × ℕ))
        (is : IsSolved new equation.var to later after pairs) → s ≡ old →
        IsPlaced new equation.other to → (is.x ≡ is.y) ⊎ (term_at new is.x ≢ T.Free) → ⊥
    not_left_at_first after pairs is same placed = ⊎_elim
        (λ one. apart_from_end s new equation to is.y
        (subst (λ u. IsFound u equation) (sym same) found_here) added_as.keeps added_as.notes
        still_variable placed is.ends.second is.ends.second_end
        (sym one ∙ sym (unbound_at_first is.x same is.ends.first)))
        (λ built. built
        (subst (λ n. term_at new n ≡ T.Free) (unbound_at_first is.x same is.ends.first)
        still_variable))

    -- what is left of a list that was known is known
    pub known_solved : (after : State) (pairs : List (ℕ × ℕ)) (known : Option (Rest × ℕ)) →
        IsSolved new equation.var to later after pairs → IsKnown new known → IsKnown after known
    known_solved after pairs known is =
        let made = solved new after equation.var to later pairs
        (pairs_within s new later grown_now.not_later.0 way.within) is in
        known_grown new after known made.grown made.becomes.back

    -- the variable and what it has to be are one
    pub one_more_solved : (after : State) (pairs : List (ℕ × ℕ)) → Keeps after →
        IsPlaced new equation.other to → IsSolved new equation.var to later after pairs →
        IsOnTheWay old equations after rest pairs
    one_more_solved after pairs keeps placed is =
        let made = solved new after equation.var to later pairs
        (pairs_within s new later grown_now.not_later.0 way.within) is in
        record {
          taken = equation ∷ way.taken;
          all = all_but;
          grown = grown_through old new after grown_new made.grown;
          keeps = keeps;
          within = made.within;
          becomes =
              becomes_through old new after (λ vs. Solves vs (equation ∷ way.taken))
              (λ vs. AreOne equation.var to vs × AreEachOne later vs) (AreEachOne pairs)
              grown_new.not_later.0 becomes_new made.becomes;
          number = inr (⊎_elim
              (λ fewer. ⊎_elim
              (λ both. omega (arith, fewer, added_as.number, ap free_number both.1))
              (λ less. omega (arith, fewer, less, added_as.number)) way.number)
              (λ left. ⊎_elim
              (λ both. absurd (not_left_at_first after pairs is both.1 placed left.1))
              (λ less. omega (arith, less, added_as.number, ap free_number left.0))
              way.number)
              made.number);
        }

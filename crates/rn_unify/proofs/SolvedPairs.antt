-- What a store says after two ids were made one, but for pairs that are left.
use Rattle.std.proofs.Common.{◌≡◌, ◌≢◌, ◌<◌, ◌⊎◌, ⊎_elim, inl, inr, ℕ, List, [], ◌∷◌, ◌++◌}
use Rattle.std.proofs.Common.{arith, length, sym, ◌∙◌, ap, subst}
use Rattle.std.specs.Prelude.{◌↔◌}
use Rattle.rn_value.specs.declared.value.Value.{Value}
use Rattle.rn_term.specs.declared.term.Term.TheVariants as T
use Rattle.rn_term.specs.Stores.{State, Leads, term_at, with_note}
use Rattle.rn_term.specs.Assignments.{Satisfies, value_at}
use Rattle.rn_term.specs.Occurring.{IsFree}
use Rattle.rn_term.proofs.Agreement.{leads-same}
use Rattle.rn_unify.specs.link.Equations.{AreEachOne, AreWithin}
use Rattle.rn_unify.specs.link.Binding.{Becomes, IsLinked, IsSolved, free_number}
use Rattle.rn_unify.specs.Unifying.{AreOne}
use Rattle.rn_unify.proofs.EarlierMarks.{IsGrown, grown_not, grown_by_note}
use Rattle.rn_unify.proofs.Becoming.{becomes_same, becomes_through, becomes_note}
use Rattle.rn_unify.proofs.Findings.{all_joined}
use Rattle.rn_unify.proofs.FreeNumbers.{free_number-note}
use Rattle.rn_unify.proofs.PairsLeft.{pairs_within}

-- That two ids are one, and each pair from before, becomes that each pair left is. A free variable
-- is bound, or the store is as it was.
pub record IsMade (old new : State) (a b : ℕ) (before after : List (ℕ × ℕ))
    (is : IsSolved old a b before new after) : Type 0 where
  pub grown : IsGrown old new
  pub within : AreWithin new after
  pub becomes : Becomes old (λ vs. AreOne a b vs × AreEachOne before vs) new (AreEachOne after)
  pub number : (free_number new < free_number old)
      ⊎ ((new ≡ old) × ((is.x ≡ is.y) ⊎ (term_at old is.x ≢ T.Free)))

module _ (old new : State) (a b : ℕ) (before after : List (ℕ × ℕ))
    (room : AreWithin old before) (is : IsSolved old a b before new after) where
  ends_alike : (vs : List Value) → Satisfies old vs → AreOne a b vs ↔ AreOne is.x is.y vs
  ends_alike vs sat =
      let first = leads-same old vs a is.x sat is.ends.first in
      let second = leads-same old vs b is.y sat is.ends.second in
      (λ one. sym first ∙ one ∙ second, λ one. first ∙ one ∙ sym second)

  -- both are one already
  alike : new ≡ old → after ≡ before →
      ((vs : List Value) → Satisfies old vs → AreOne is.x is.y vs) →
      (is.x ≡ is.y) ⊎ (term_at old is.x ≢ T.Free) → IsMade old new a b before after is
  alike same left one why = record {
    grown = subst (IsGrown old) (sym same) (grown_not old);
    within = subst (λ u. AreWithin u after) (sym same) (subst (AreWithin old) (sym left) room);
    becomes =
        subst (λ u. Becomes old (λ vs. AreOne a b vs × AreEachOne before vs) u (AreEachOne after))
        (sym same)
        (becomes_same old (λ vs. AreOne a b vs × AreEachOne before vs) (AreEachOne after)
        (λ vs sat. (
          λ both. subst (λ ps. AreEachOne ps vs) (sym left) both.1,
          λ all. ((ends_alike vs sat).1 (one vs sat), subst (λ ps. AreEachOne ps vs) left all),
        )));
    number = inr (same, why);
  }

  -- the ends are a pair that is left
  left_over : new ≡ old → after ≡ before ++ (is.x, is.y) ∷ [] → (term_at old is.x ≢ T.Free) →
      IsMade old new a b before after is
  left_over same left built = record {
    grown = subst (IsGrown old) (sym same) (grown_not old);
    within =
        subst (λ u. AreWithin u after) (sym same) (subst (AreWithin old) (sym left)
        ((all_joined (λ p. (p.0 < length old.terms) × (p.1 < length old.terms)) before
        ((is.x, is.y) ∷ [])).0
        (room, ((is.ends.first_within, is.ends.second_within), tt))));
    becomes =
        subst (λ u. Becomes old (λ vs. AreOne a b vs × AreEachOne before vs) u (AreEachOne after))
        (sym same)
        (becomes_same old (λ vs. AreOne a b vs × AreEachOne before vs) (AreEachOne after)
        (λ vs sat.
        let joined = all_joined (λ p. AreOne p.0 p.1 vs) before ((is.x, is.y) ∷ []) in (
          λ both.
              subst (λ ps. AreEachOne ps vs) (sym left)
              (joined.0 (both.1, ((ends_alike vs sat).0 both.0, tt))),
          λ all.
              let two = joined.1 (subst (λ ps. AreEachOne ps vs) left all) in
              ((ends_alike vs sat).1 two.1.0, two.0),
        )));
    number = inr (same, inr built);
  }

  -- one end was bound to the other
  bound : (p q : ℕ) → IsFree old p → new ≡ with_note old p q → after ≡ before →
      ((vs : List Value) → Satisfies old vs → AreOne a b vs ↔ AreOne p q vs) →
      IsMade old new a b before after is
  bound p q free noted left same = record {
    grown = subst (IsGrown old) (sym noted) (grown_by_note old p q);
    within =
        subst (λ u. AreWithin u after) (sym noted)
        (subst (AreWithin (with_note old p q)) (sym left)
        (pairs_within old (with_note old p q) before (omega arith) room));
    becomes =
        subst (λ u. Becomes old (λ vs. AreOne a b vs × AreEachOne before vs) u (AreEachOne after))
        (sym noted)
        (subst (λ ps. Becomes old (λ vs. AreOne a b vs × AreEachOne before vs)
        (with_note old p q) (AreEachOne ps)) (sym left)
        (becomes_through old old (with_note old p q)
        (λ vs. AreOne a b vs × AreEachOne before vs) (λ vs. AreOne p q vs × AreEachOne before vs)
        (AreEachOne before) (omega arith)
        (becomes_same old (λ vs. AreOne a b vs × AreEachOne before vs)
        (λ vs. AreOne p q vs × AreEachOne before vs) (λ vs sat. (
          λ both. ((same vs sat).0 both.0, both.1),
          λ both. ((same vs sat).1 both.0, both.1),
        )))
        (becomes_note old p q q (AreEachOne before) free.unbound Leads.here)));
    number = inl (subst (λ u. free_number u < free_number old) (sym noted)
        (free_number-note old p q free));
  }

  linked : IsLinked old is.x is.y new → after ≡ before → IsMade old new a b before after is
  linked way left = ⊎_elim
      (λ first. bound is.x is.y first.0 first.1 left ends_alike)
      (λ second. bound is.y is.x second.0 second.1 left (λ vs sat. (
        λ one. sym ((ends_alike vs sat).0 one),
        λ one. (ends_alike vs sat).1 (sym one),
      )))
      way

  pub solved : IsMade old new a b before after is
  solved = ⊎_elim
      (λ same. alike same.1 same.2 (λ vs sat. ap (value_at vs) same.0) (inl same.0))
      (λ other. ⊎_elim
      (λ way. linked way.0 way.1)
      (λ left. ⊎_elim
      (λ one. alike left.1 one.1 one.0 (inr left.0))
      (λ pair. left_over left.1 pair left.0)
      left.2)
      other)
      is.way

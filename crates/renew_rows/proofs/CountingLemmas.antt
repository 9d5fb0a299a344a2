-- Counting one row more.
use Rattle.std.proofs.Common.{◌≡◌, ◌∙◌, ◌↔◌, ℕ, ◌+◌, Bool, true, false, List, [], ◌∷◌, ◌++◌, Some, None}
use Rattle.std.proofs.Common.{refl, sym, ap, subst, inl, inr, append_assoc, add-zero, if◌then◌else◌}
use Rattle.std.specs.Prelude.{IsTrue, ◌⊎◌}
use Rattle.std.proofs.lemmas.Bool.{false≢true}
use Rattle.std.proofs.lemmas.List.{append-nil}
use Rattle.renew_rows.specs.declared.judging.Judged.{Judged}
use Rattle.renew_rows.specs.declared.row.Row.{Row}
use Rattle.renew_rows.specs.declared.tally.RowTally.{RowTally}
use Rattle.renew_rows.specs.Judging.{AreJudged, IsOfRow, IsWrong}
use Rattle.renew_rows.specs.Counting.{Counts, CountsNext}
use Rattle.renew_rows.specs.Rows.{heading_of}

-- a row is counted as wrong where a test of that says so
counts : (judged : Judged) (tally more : RowTally) (wrong : Bool) → (IsTrue wrong ↔ IsWrong judged) →
    more.rows ≡ tally.rows + 1 → more.differ ≡ tally.differ + (if wrong then 1 else 0) →
    Counts judged tally more
counts judged tally more true is rows differ = (rows, inl (is.0 refl, differ))
counts judged tally more false is rows differ =
    (rows, inr ((λ w. absurd (false≢true (is.1 w))), differ ∙ add-zero tally.differ))

-- the next row is counted
pub counts_next : (before after : List (List ℕ × Bool)) (tally more : RowTally) (row : Row)
    (judged : Judged) (wrong : Bool) → before ≡ heading_of row ∷ after → IsOfRow row judged →
    (IsTrue wrong ↔ IsWrong judged) → more.rows ≡ tally.rows + 1 →
    more.differ ≡ tally.differ + (if wrong then 1 else 0) →
    CountsNext before after tally (Some more)
counts_next before after tally more row judged wrong first of_row is rows differ =
    (row, judged, first, of_row, counts judged tally more wrong is rows differ)

-- rows that were judged, and one more
one_more : (before : List (List ℕ × Bool)) (tally more : RowTally) (row : Row) (judged : Judged) →
    AreJudged before tally.rows tally.differ → IsOfRow row judged →
    ((IsWrong judged × (more.differ ≡ tally.differ + 1))
    ⊎ ((¬ IsWrong judged) × (more.differ ≡ tally.differ))) →
    AreJudged (before ++ heading_of row ∷ []) (tally.rows + 1) more.differ
one_more before tally more row judged are of_row (inl (wrong, differ)) =
    subst (λ n. AreJudged (before ++ heading_of row ∷ []) (tally.rows + 1) n) (sym differ)
    (AreJudged.wrong row judged are of_row wrong)
one_more before tally more row judged are of_row (inr (right, differ)) =
    subst (λ n. AreJudged (before ++ heading_of row ∷ []) (tally.rows + 1) n) (sym differ)
    (AreJudged.right row judged are of_row right)

-- of all rows, some at the start were judged, and these rows stay
abbrev pub JudgedUpTo : List (List ℕ × Bool) → List (List ℕ × Bool) → RowTally → Type 0
JudgedUpTo all rest tally = (before : List (List ℕ × Bool)) × (all ≡ before ++ rest)
    × AreJudged before tally.rows tally.differ

pub begins : (all rest : List (List ℕ × Bool)) (tally : RowTally) → all ≡ rest → tally.rows ≡ 0 →
    tally.differ ≡ 0 → JudgedUpTo all rest tally
begins all rest tally is rows differ = (
  [],
  is,
  subst (λ n. AreJudged [] n tally.differ) (sym rows)
      (subst (λ n. AreJudged [] 0 n) (sym differ) AreJudged.none),
)

pub goes_on : (all rest after : List (List ℕ × Bool)) (tally more : RowTally) →
    JudgedUpTo all rest tally → CountsNext rest after tally (Some more) → JudgedUpTo all after more
goes_on all rest after tally more (before, is, are) (row, judged, first, of_row, counted) = (
  before ++ heading_of row ∷ [],
  is ∙ ap (λ hs. before ++ hs) first ∙ sym (append_assoc before (heading_of row ∷ []) after),
  subst (λ n. AreJudged (before ++ heading_of row ∷ []) n more.differ) (sym counted.0)
      (one_more before tally more row judged are of_row counted.1),
)

pub ends : (all rest after : List (List ℕ × Bool)) (tally : RowTally) → JudgedUpTo all rest tally →
    CountsNext rest after tally None → AreJudged all tally.rows tally.differ
ends all rest after tally (before, is, are) none =
    subst (λ hs. AreJudged hs tally.rows tally.differ)
    (sym (is ∙ ap (λ hs. before ++ hs) none ∙ append-nil before)) are

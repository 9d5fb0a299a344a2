-- Pairs of ids that are left to be made one, as a store grows.
use Rattle.std.proofs.Common.{◌≤◌, ℕ, List, [], ◌∷◌, arith, length, sym, ◌∙◌}
use Rattle.rn_term.specs.Stores.{State}
use Rattle.rn_term.proofs.AssignmentLemmas.{value_stays}
use Rattle.rn_unify.specs.link.Equations.{AreEachOne, AreWithin}
use Rattle.rn_unify.proofs.Becoming.{Stays}

-- pairs of a store are pairs of a greater one
pub pairs_within : (old new : State) (pairs : List (ℕ × ℕ)) → length old.terms ≤ length new.terms →
    AreWithin old pairs → AreWithin new pairs
pairs_within old new [] room within = tt
pairs_within old new (pair ∷ pairs) room ((left, right), within) = (
  (omega (arith, left, room), omega (arith, right, room)),
  pairs_within old new pairs room within,
)

-- whether each is made one stays as values of later ids come
pub pairs_stay : (s : State) (pairs : List (ℕ × ℕ)) → AreWithin s pairs → Stays s (AreEachOne pairs)
pairs_stay s [] within vs more each = (λ _. tt, λ _. tt)
pairs_stay s (pair ∷ pairs) ((left, right), within) vs more each =
    let first = value_stays vs more pair.0 (rw each left) in
    let second = value_stays vs more pair.1 (rw each right) in
    let others = pairs_stay s pairs within vs more each in (
      λ all. (first ∙ all.0 ∙ sym second, others.0 all.1),
      λ all. (sym first ∙ all.0 ∙ second, others.1 all.1),
    )

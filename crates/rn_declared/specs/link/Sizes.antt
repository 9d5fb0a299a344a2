-- How large a pattern is: larger than each of its parts.
use Rattle.std.specs.Prelude.{◌≡◌, ◌≤◌, ◌<◌, ℕ, ◌+◌, ◌*◌, List, [], ◌∷◌, map, max}
use Rattle.std.proofs.Common.{refl, ap, ◌∙◌, arith}
use denote.Param.Weighed.{most}
use Rattle.rn_declared.specs.declared.pattern.Pattern.{Pattern, fold-Pattern, fold_out-Pattern}
use Rattle.rn_declared.specs.declared.pattern.Pattern.TheVariants as Pattern
use Rattle.rn_declared.specs.declared.pattern.Pattern.TheOpen as P

abbrev pub size_step : P.Pattern-F ℕ → ℕ
size_step (P.Tuple sizes) = most (λ n. n + 1) sizes + 1
size_step (P.List size) = size + 1
size_step _ = 0

abbrev pub size_of : Pattern → ℕ
size_of = fold-Pattern ℕ size_step

most_mapped : (ps : List Pattern) → most (λ n. n + 1) (map size_of ps) ≡ most (λ p. size_of p + 1) ps
most_mapped [] = refl
most_mapped (p ∷ ps) = ap (max (size_of p + 1)) (most_mapped ps)

pub size-Tuple : (ps : List Pattern) → size_of (Pattern.Tuple ps) ≡ most (λ p. size_of p + 1) ps + 1
size-Tuple ps = fold_out-Pattern ℕ size_step (Pattern.Tuple ps) ∙ rw (Pattern.outs-Tuple ps) (ap (λ n. n + 1) (most_mapped ps))

pub size-List : (p : Pattern) → size_of (Pattern.List p) ≡ size_of p + 1
size-List p = fold_out-Pattern ℕ size_step (Pattern.List p) ∙ rw (Pattern.outs-List p) refl

most_twice : (ps : List Pattern) → most (λ p. 2 * (size_of p + 1) + 0) ps ≤ 2 * most (λ p. size_of p + 1) ps
most_twice [] = omega arith
most_twice (p ∷ ps) = omega (arith, most_twice ps)

-- a recursion over the parts of a tuple ends
pub parts_below : (ps : List Pattern) (p : Pattern) (t : ℕ) → p ≡ Pattern.Tuple ps →
    2 * (2 * (size_of p + 1) + 0) + 0 ≡ t →
    2 * most (λ p. 2 * (size_of p + 1) + 0) ps + 1 < t
parts_below ps p t is measure =
    let same : size_of p ≡ most (λ p. size_of p + 1) ps + 1 = ap size_of is ∙ size-Tuple ps in
    omega (arith, most_twice ps, same, measure)

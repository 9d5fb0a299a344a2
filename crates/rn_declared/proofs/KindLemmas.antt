-- Lists of constants beside lists of patterns.
use Rattle.std.proofs.Common.{◌≡◌, ◌≢◌, false, List, [], ◌∷◌, length, map, refl, arith}
use Rattle.std.proofs.lemmas.Bool.{and_right}
use Rattle.rn_net.specs.declared.constants.PConst.{PConst}
use Rattle.rn_declared.specs.declared.pattern.Pattern.{Pattern}
use Rattle.rn_declared.specs.Declarations.{fits, all_fit}

-- lists of different lengths don't fit
pub all_fit_lengths : (parts : List PConst) (patterns : List Pattern) →
    length parts ≢ length patterns → all_fit (map fits parts) patterns ≡ false
all_fit_lengths [] [] apart = absurd (apart refl)
all_fit_lengths [] (q ∷ qs) apart = refl
all_fit_lengths (p ∷ ps) [] apart = refl
all_fit_lengths (p ∷ ps) (q ∷ qs) apart =
    and_right (fits p q) (all_fit (map fits ps) qs) (all_fit_lengths ps qs (λ e. apart (omega arith)))

-- Lists of patterns beside one another.
use Rattle.std.proofs.Common.{◌≡◌, ◌≢◌, ℕ, zero, suc, false, List, [], ◌∷◌, ◌++◌, length}
use Rattle.std.proofs.Common.{map, refl, sym, ap, ◌∙◌, ◌+◌, ◌<◌, drop, get_or, slice_get, unwrap_or, arith}
use Rattle.std.proofs.Common.{add-one, append_assoc, drop-cons, drop_of_length-le}
use Rattle.std.proofs.lemmas.Bool.{and_right}
use Rattle.rn_declared.specs.declared.pattern.Pattern.{Pattern}
use Rattle.rn_declared.specs.Patterns.{share, all_share, both_of, all_both}

-- lists of different lengths share nothing
pub all_share_lengths : (parts others : List Pattern) → length parts ≢ length others →
    all_share (map share parts) others ≡ false
all_share_lengths [] [] apart = absurd (apart refl)
all_share_lengths [] (q ∷ qs) apart = refl
all_share_lengths (p ∷ ps) [] apart = refl
all_share_lengths (p ∷ ps) (q ∷ qs) apart =
    and_right (share p q) (all_share (map share ps) qs)
    (all_share_lengths ps qs (λ e. apart (omega arith)))

-- one more of both, where the second may have ended before
more_of_both : (p : Pattern) (ps others : List Pattern) (i : ℕ) →
    all_both (map both_of (p ∷ ps)) (drop i others)
    ≡ both_of p (unwrap_or (slice_get others i) Pattern.Any)
    ∷ all_both (map both_of ps) (drop (suc i) others)
more_of_both p ps [] zero = refl
more_of_both p ps [] (suc i) = refl
more_of_both p ps (q ∷ qs) zero = refl
more_of_both p ps (q ∷ qs) (suc i) = more_of_both p ps qs i

pub all_both_more : (parts others done : List Pattern) (i : ℕ) (p : Pattern) →
    i < length parts → p ≡ get_or parts i p →
    done ++ all_both (map both_of (drop i parts)) (drop i others)
    ≡ (done ++ both_of p (unwrap_or (slice_get others i) Pattern.Any) ∷ [])
    ++ all_both (map both_of (drop (i + 1) parts)) (drop (i + 1) others)
all_both_more parts others done i p inside is =
    let begins : drop i parts ≡ p ∷ drop (suc i) parts =
    drop-cons parts i p inside ∙ ap (λ x. x ∷ drop (suc i) parts) (sym is) in
    rw (begins, more_of_both p (drop (suc i) parts) others i, add-one, append_assoc) refl

-- past the end of the first there is nothing of both
pub all_both_past : (parts others : List Pattern) (n : ℕ) → n ≡ length parts →
    all_both (map both_of (drop n parts)) (drop n others) ≡ []
all_both_past parts others n e =
    let none : drop n parts ≡ [] = drop_of_length-le parts (omega arith) in
    ap (λ ps. all_both (map both_of ps) (drop n others)) none

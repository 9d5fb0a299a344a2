-- What a call writes, of equal words, inputs and outputs.
use Rattle.std.proofs.Common.{◌≡◌, ℕ, List, [], Option, Some, subst}
use Rattle.rn_app.specs.TopCall.{Writes}

pub writes_same : (words given : List (List ℕ)) (left bytes out err : List ℕ)
    (left_after out_after err_after : Option (List ℕ)) (status : ℕ) →
    words ≡ given → left ≡ bytes → out ≡ [] → err ≡ [] →
    Writes words (Some left) left_after status (Some out) out_after (Some err) err_after →
    Writes given (Some bytes) left_after status (Some []) out_after (Some []) err_after
writes_same words given left bytes out err left_after out_after err_after status words_are left_is out_is err_is writes =
    subst (λ ws. Writes ws (Some bytes) left_after status (Some []) out_after (Some []) err_after) words_are
    (subst (λ b. Writes words (Some b) left_after status (Some []) out_after (Some []) err_after) left_is
    (subst (λ b. Writes words (Some left) left_after status (Some b) out_after (Some []) err_after) out_is
    (subst (λ b. Writes words (Some left) left_after status (Some out) out_after (Some b) err_after) err_is
    writes)))

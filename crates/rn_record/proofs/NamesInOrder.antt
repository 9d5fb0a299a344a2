-- Names are taken one after another.
use Rattle.std.proofs.Common.{◌≡◌, ◌<◌, ◌+◌, ◌-◌, ℕ, List, [], ◌∷◌, ◌++◌, length, get_or, drop, sym, ap, ◌∙◌, append_assoc, add-one, drop-cons, arith}
use Rattle.std.specs.Prelude.{Some, slice_get, unwrap_or}
use Rattle.std.proofs.lemmas.Option.{slice_get-get_or}
use Rattle.rn_value.specs.Names.{name_of}
use Rattle.rn_value.proofs.Written.{name_of_some}

-- the name with the next number
pub numbered_name : (names : List (List ℕ)) (k : ℕ) → k < length names → name_of names (k + 1) ≡ Some (get_or names k [])
numbered_name names k below =
    let apart : ¬ (k + 1 ≡ 0) = λ e. let no : ⊥ = omega (arith, e) in no in
    let index : k + 1 - 1 ≡ k = omega arith in
    name_of_some names (k + 1) apart ∙ ap (slice_get names) index ∙ slice_get-get_or names k [] below

-- the next name is taken
pub next_name : (names copied after whole : List (List ℕ)) (k : ℕ) → k < length names → after ≡ copied ++ unwrap_or (name_of names (k + 1)) [] ∷ [] →
    copied ++ drop k names ≡ whole → after ++ drop (k + 1) names ≡ whole
next_name names copied after whole k below put so_far =
    ap (λ ns. ns ++ drop (k + 1) names) put
    ∙ append_assoc copied (unwrap_or (name_of names (k + 1)) [] ∷ []) (drop (k + 1) names)
    ∙ ap (λ name. copied ++ unwrap_or name [] ∷ drop (k + 1) names) (numbered_name names k below)
    ∙ ap (λ n. copied ++ get_or names k [] ∷ drop n names) (add-one k)
    ∙ ap (λ ns. copied ++ ns) (sym (drop-cons names k [] below))
    ∙ so_far

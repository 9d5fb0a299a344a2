-- The last entry of a state, as it is written.
use Rattle.std.proofs.Common.{◌≡◌, ◌-◌, List, [], ◌∷◌, ◌++◌, length, refl, ap, ◌∙◌, arith}
use Rattle.std.specs.Prelude.{Some, slice_get}
use Rattle.std.proofs.lemmas.List.{length-append}
use Rattle.rn_model.specs.declared.log.Entry.{Entry}

-- the last of entries
there : (xs : List Entry) (e : Entry) → slice_get (xs ++ e ∷ []) (length xs) ≡ Some e
there [] e = refl
there (x ∷ xs) e = there xs e

pub last_got : (es : List Entry) (e : Entry) → slice_get (es ++ e ∷ []) (length (es ++ e ∷ []) - 1) ≡ Some e
last_got es e =
    let long = length-append es (e ∷ []) in
    let at : length (es ++ e ∷ []) - 1 ≡ length es = omega (arith, long) in
    ap (slice_get (es ++ e ∷ [])) at ∙ there es e

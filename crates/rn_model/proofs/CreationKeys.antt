-- The keys of a node's creations, one after another.
use Rattle.std.proofs.Common.{◌≡◌, ◌<◌, ◌+◌, ℕ, List, [], ◌∷◌, ◌++◌, length, map, drop, sym, ap, ◌∙◌, append_assoc, add-one, drop-cons}
use Rattle.std.specs.List.{enumerate_from}
use Rattle.rn_model.specs.declared.numbers.MadeBy.{MadeBy}
use Rattle.rn_model.specs.declared.system.Creation.{Creation}
use Rattle.rn_model.specs.Numbers.{key_of}

-- the keys of creations, the first with this index
abbrev keys : List ℕ → ℕ → List Creation → List MadeBy
keys path n cs = map key_of (map (λ c. record { path = path; index = c.0; net = c.1.net }) (enumerate_from n cs))

no_creation : Creation
no_creation = record { var = 0; net = 0 }

-- the next key is put
pub next_key : (path : List ℕ) (cs : List Creation) (i : ℕ) (before after whole : List MadeBy) → i < length cs → after ≡ before ++ record { path = path; index = i } ∷ [] →
    before ++ keys path i (drop i cs) ≡ whole → after ++ keys path (i + 1) (drop (i + 1) cs) ≡ whole
next_key path cs i before after whole below put so_far =
    let key : MadeBy = record { path = path; index = i } in
    ap (λ made. made ++ keys path (i + 1) (drop (i + 1) cs)) put
    ∙ append_assoc before (key ∷ []) (keys path (i + 1) (drop (i + 1) cs))
    ∙ ap (λ n. before ++ key ∷ keys path (i + 1) (drop n cs)) (add-one i)
    ∙ ap (λ ds. before ++ keys path i ds) (sym (drop-cons cs i no_creation below))
    ∙ so_far

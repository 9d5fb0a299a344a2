-- What makes the instances of a node, one after another.
use Rattle.std.proofs.Common.{◌≡◌, ◌<◌, ◌+◌, ℕ, List, [], ◌∷◌, ◌++◌, length, map, drop, sym, ap, ◌∙◌, append_assoc, add-one, drop-cons}
use Rattle.std.specs.List.{enumerate_from}
use Rattle.rn_model.specs.declared.system.Creation.{Creation}
use Rattle.rn_record_reader.specs.declared.maker.Maker.{Maker}

-- what makes the instances of creations, the first with this number
abbrev makers : List ℕ → ℕ → List Creation → List Maker
makers path n cs = map (λ c. record { path = path; index = c.0 }) (enumerate_from n cs)

no_creation : Creation
no_creation = record { var = 0; net = 0 }

-- the next one is put
pub next_maker : (path : List ℕ) (cs : List Creation) (i : ℕ) (before after whole : List Maker) →
    i < length cs → after ≡ before ++ record { path = path; index = i } ∷ [] →
    before ++ makers path i (drop i cs) ≡ whole → after ++ makers path (i + 1) (drop (i + 1) cs) ≡ whole
next_maker path cs i before after whole below put so_far =
    let maker : Maker = record { path = path; index = i } in
    ap (λ made. made ++ makers path (i + 1) (drop (i + 1) cs)) put
    ∙ append_assoc before (maker ∷ []) (makers path (i + 1) (drop (i + 1) cs))
    ∙ ap (λ n. before ++ maker ∷ makers path (i + 1) (drop n cs)) (add-one i)
    ∙ ap (λ ds. before ++ makers path i ds) (sym (drop-cons cs i no_creation below))
    ∙ so_far

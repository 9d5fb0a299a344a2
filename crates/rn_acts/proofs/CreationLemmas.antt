-- The nets of what a binding makes.
use Rattle.std.proofs.Common.{◌≡◌, ℕ, ◌+◌, List, [], ◌∷◌, ◌++◌, map, refl, sym, ap, ◌∙◌}
use Rattle.std.specs.List.{flat_map, enumerate_from}
use Rattle.std.proofs.lemmas.List.{map-append}
use Rattle.rn_model.specs.declared.system.System.{System}
use Rattle.rn_model.specs.declared.system.Creation.{Creation}
use Rattle.rn_model.specs.declared.binding.Node.{Node}
use Rattle.rn_model.specs.Firing.{Made, made_by}
use Rattle.rn_model.specs.Systems.{transition_of}

numbered : (path : List ℕ) (k : ℕ) (cs : List Creation) →
    map (λ m. m.net)
    (map (λ c. let made : Made = record { path = path; index = c.0; net = c.1.net } in made)
    (enumerate_from k cs))
    ≡ map (λ c. c.net) cs
numbered path k [] = refl
numbered path k (c ∷ cs) = ap (λ nets. c.net ∷ nets) (numbered path (k + 1) cs)

pub nets_made : (system : System) (nodes : List Node) →
    flat_map (λ node. map (λ c. c.net) (transition_of system node).creations) nodes
    ≡ map (λ m. m.net) (flat_map (made_by system) nodes)
nets_made system [] = refl
nets_made system (node ∷ nodes) =
    let own = made_by system node in
    let others = flat_map (made_by system) nodes in
    ap (λ nets. nets
    ++ flat_map (λ node. map (λ c. c.net) (transition_of system node).creations) nodes)
    (sym (numbered node.path 0 (transition_of system node).creations))
    ∙ ap (λ nets. map (λ m. m.net) own ++ nets) (nets_made system nodes)
    ∙ sym (map-append (λ m. m.net) own others)

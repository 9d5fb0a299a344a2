-- What is known of the numbers and names of the instances that bindings make.
use Rattle.std.proofs.Common.{◌≡◌, ℕ, ◌+◌, zero, suc, List, [], ◌∷◌, ◌++◌, length, map, refl, ap, sym, ◌∙◌, length-append}
use Rattle.std.proofs.lemmas.List.{length-map}
use Rattle.std.specs.Prelude.{flat_map, slice_get, option_map}
use Rattle.rn_model.specs.declared.binding.Binding.{Binding}
use Rattle.rn_model.specs.declared.binding.Node.{Node}
use Rattle.rn_model.specs.declared.system.System.{System}
use Rattle.rn_model.specs.declared.system.Creation.{Creation}
use Rattle.rn_model.specs.Systems.{net_at, transition_of}
use Rattle.rn_model.specs.Firing.{made_by, numbered_inst, renamed_node, named}
use Rattle.rn_spell.specs.Made.{nets_by, nets_made, names_of_nets}
use Rattle.rn_spell.proofs.FirstCreation.{made_by_length}

-- the nodes of a binding with the numbers of what they make are those of the named binding
pub numbered_lines : (system : System) (b : Binding) (next : ℕ) →
    map (renamed_node (numbered_inst (flat_map (made_by system) b.nodes) next)) b.nodes ≡ (named system b next).nodes
numbered_lines system b next = refl

-- the names of the nets of nets one after another
pub names_of_append : (system : System) (xs ys : List ℕ) →
    names_of_nets system (xs ++ ys) ≡ names_of_nets system xs ++ names_of_nets system ys
names_of_append system [] ys = refl
names_of_append system (x ∷ xs) ys = ap (λ names. (net_at system x).name ∷ names) (names_of_append system xs ys)

names_of_creations : (system : System) (cs : List Creation) →
    names_of_nets system (map (λ c. c.net) cs) ≡ map (λ c. (net_at system c.net).name) cs
names_of_creations system [] = refl
names_of_creations system (c ∷ cs) = ap (λ names. (net_at system c.net).name ∷ names) (names_of_creations system cs)

-- the names of the nets of what nodes make, node by node
pub names_by_nodes : (system : System) (nodes : List Node) →
    names_of_nets system (flat_map (nets_by system) nodes)
    ≡ flat_map (λ node. map (λ c. (net_at system c.net).name) (transition_of system node).creations) nodes
names_by_nodes system [] = refl
names_by_nodes system (node ∷ nodes) =
    names_of_append system (nets_by system node) (flat_map (nets_by system) nodes)
    ∙ ap (λ names. names ++ names_of_nets system (flat_map (nets_by system) nodes)) (names_of_creations system (transition_of system node).creations)
    ∙ ap (λ names. map (λ c. (net_at system c.net).name) (transition_of system node).creations ++ names) (names_by_nodes system nodes)

-- the names of the nets of what a binding makes, node by node
pub names_made : (system : System) (b : Binding) →
    names_of_nets system (nets_made system b)
    ≡ flat_map (λ node. map (λ c. (net_at system c.net).name) (transition_of system node).creations) b.nodes
names_made system b = names_by_nodes system b.nodes

-- there is a net for each instance that nodes make
pub made_count : (system : System) (nodes : List Node) →
    length (flat_map (made_by system) nodes) ≡ length (flat_map (nets_by system) nodes)
made_count system [] = refl
made_count system (node ∷ nodes) =
    length-append (made_by system node) (flat_map (made_by system) nodes)
    ∙ ap (λ n. n + length (flat_map (made_by system) nodes)) (made_by_length system node ∙ sym (length-map (transition_of system node).creations (λ c. c.net)))
    ∙ ap (λ n. length (nets_by system node) + n) (made_count system nodes)
    ∙ sym (length-append (nets_by system node) (flat_map (nets_by system) nodes))

-- the name of the net of the instance at a place
pub named_at : (system : System) (nets : List ℕ) (i : ℕ) →
    slice_get (names_of_nets system nets) i ≡ option_map (λ net. (net_at system net).name) (slice_get nets i)
named_at system [] i = refl
named_at system (net ∷ nets) zero = refl
named_at system (net ∷ nets) (suc i) = named_at system nets i

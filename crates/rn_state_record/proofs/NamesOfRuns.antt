-- How many instances have a name after a binding.
use Rattle.std.proofs.Common.{◌≡◌, ◌≤◌, ℕ, ◌+◌, ◌*◌, List, [], ◌∷◌, ap, ◌∙◌, refl, length, arith}
use Rattle.std.specs.Prelude.{flat_map}
use Rattle.std.specs.List.{AllByRecursion, enumerate_from}
use Rattle.std.proofs.lemmas.List.{length-append, length-map}
use Rattle.std.proofs.lemmas.List.FromFn.{length-enumerate_from}
use Rattle.rn_model.specs.declared.system.System.{System}
use Rattle.rn_model.specs.declared.binding.Node.{Node}
use Rattle.rn_model.specs.declared.binding.Binding.{Binding}
use Rattle.rn_model.specs.Bindings.{IsNodeOf}
use Rattle.rn_model.specs.Firing.{creations_of, made_by}
use Rattle.rn_model.specs.Good.{Good}
use Rattle.rn_model.specs.Systems.{net_at, transition_of}
use Rattle.rn_model.proofs.MarkingsOfRuns.{good_transition}
use Rattle.rn_record.specs.RecordText.{names_after, names_by}

made_named : (system : System) (nodes : List Node) →
    length (flat_map (names_by system) nodes) ≡ length (flat_map (made_by system) nodes)
made_named system [] = refl
made_named system (node ∷ nodes) =
    let creations = (transition_of system node).creations in
    let names : length (names_by system node) ≡ length creations =
    length-map creations (λ c. (net_at system c.net).name) in
    let made : length (made_by system node) ≡ length creations =
    length-map (enumerate_from 0 creations) _ ∙ length-enumerate_from 0 creations in
    let both = length-append (names_by system node) (flat_map (names_by system) nodes) in
    let too = length-append (made_by system node) (flat_map (made_by system) nodes) in
    let rest = made_named system nodes in
    omega (arith, names, made, both, too, rest)

pub count_after : (system : System) (names : List (List ℕ)) (b : Binding) →
    length (names_after system names b) ≡ length names + length (creations_of system b)
count_after system names b =
    length-append names (flat_map (names_by system) b.nodes)
    ∙ ap (λ n. length names + n) (made_named system b.nodes)

-- A node of a good system names at most 200 instances.
pub few_names : (system : System) (nodes : List Node) → Good system →
    AllByRecursion (IsNodeOf system) nodes →
    length (flat_map (names_by system) nodes) ≤ length nodes * 200
few_names system [] good all = omega arith
few_names system (node ∷ nodes) good (of, all) =
    let t = transition_of system node in
    let many = (good_transition system node.net node.transition good of.net of.transition).many in
    let here : length (names_by system node) ≡ length t.creations =
    length-map t.creations (λ c. (net_at system c.net).name) in
    let both = length-append (names_by system node) (flat_map (names_by system) nodes) in
    let rest = few_names system nodes good all in
    omega (arith, many, here, both, rest)

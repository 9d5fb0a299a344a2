-- Where nothing is broken each name has its number.
use Rattle.std.proofs.Common.{◌≡◌, ℕ, ◌<◌, ◌^◌, not, List, [], ◌∷◌, ◌++◌, map, refl, arith}
use Rattle.std.specs.Prelude.{codes, flat_map}
use Rattle.std.specs.List.{list_any, AllByRecursion}
use Rattle.std.proofs.lemmas.List.{length-map}
use Rattle.std.proofs.lemmas.List.Elements.{All-from_recursion}
use Rattle.rn_notation.specs.declared.token.Spot.{Spot}
use Rattle.rn_model.specs.Limits.{most_nets, most_channels, most_vars, most_places, most_transitions}
use Rattle.rn_inscript.specs.declared.inscriptions.PName.{PName}
use Rattle.rn_net.specs.declared.plain.Plain.{Plain}
use Rattle.rn_net.specs.declared.plain.PNet.{PNet}
use Rattle.rn_declared.specs.declared.fault.Rule.TheVariants as Rule
use Rattle.rn_declared.specs.declared.fault.Fault.{Fault}
use Rattle.rn_declared.specs.Faults.{broken_if, past_limit}
use Rattle.rn_declared.specs.Names.{same_name, names_faults, declared_faults}
use Rattle.rn_declared.specs.Declarations.{kind_faults, place_faults}
use Rattle.rn_declared.specs.Channels.{channels_faults}
use Rattle.rn_rules.specs.Transitions.{transition_faults}
use Rattle.rn_rules.specs.Systems.{scope_of, net_faults, system_faults, text_start}
use Rattle.rn_numbered.specs.link.NumbersFound.{AreFew}
use Rattle.rn_numbering.specs.link.Making.{HasNetNumbers, HasNumbers}
use Rattle.rn_declared.proofs.Faultless.{both_nil, each_nil, within_limit}
use Rattle.rn_declared.proofs.DeclaredNames.{declared_few}

-- names that are declared without fault are new, and few
pub declared_once : (most : ℕ) (names : List PName) → declared_faults most names ≡ [] →
    names_faults [] names ≡ []
declared_once most names none =
    (both_nil (names_faults [] names) (past_limit most (map (λ name. name.spot) names)) none).0

pub declared_few_of : {X : Type 0} (get : X → PName) (most : ℕ) (xs : List X) → most < 2 ^ 32 →
    declared_faults most (map get xs) ≡ [] → AreFew xs
declared_few_of get most xs small none =
    let few = declared_few get get (λ name. name.text) (λ x. refl) most xs none in
    let count = length-map xs get in
    omega (arith, few, count, small)

net_declared : (plain : Plain) (net : PNet) → net_faults plain net ≡ [] → HasNetNumbers net
net_declared plain net none =
    let vars : List Fault = declared_faults most_vars (map (λ v. v.name) net.vars) in
    let kinds : List Fault = flat_map (λ v. kind_faults v.kind) net.vars in
    let places : List Fault = declared_faults most_places (map (λ p. p.name) net.places) in
    let inside : List Fault = flat_map place_faults net.places in
    let names : List Fault = declared_faults most_transitions (map (λ t. t.name) net.transitions) in
    let all : List Fault = flat_map (transition_faults (scope_of plain net)) net.transitions in
    let a = (both_nil (vars ++ kinds ++ places ++ inside ++ names) all none).0 in
    let b = (both_nil (vars ++ kinds ++ places ++ inside) names a).0 in
    let d = both_nil (vars ++ kinds) places (both_nil (vars ++ kinds ++ places) inside b).0 in
    let first = (both_nil vars kinds d.0).0 in
    record {
      vars = declared_once most_vars (map (λ v. v.name) net.vars) first;
      few_vars = declared_few_of (λ v. v.name) most_vars net.vars (omega arith) first;
      places = declared_once most_places (map (λ p. p.name) net.places) d.1;
      few_places = declared_few_of (λ p. p.name) most_places net.places (omega arith) d.1;
    }

nets_declared : (plain : Plain) (nets : List PNet) →
    AllByRecursion (λ net. net_faults plain net ≡ []) nets → AllByRecursion HasNetNumbers nets
nets_declared plain [] none = tt
nets_declared plain (net ∷ nets) none = (net_declared plain net none.0, nets_declared plain nets none.1)

-- where nothing is broken each name has its number
pub numbered : (plain : Plain) → system_faults plain ≡ [] → HasNumbers plain
numbered plain none =
    let has_main = list_any (λ net. same_name net.name.text (codes "main")) plain.nets in
    let main : List Fault = broken_if (not has_main) Rule.Main text_start in
    let channels : List Fault = channels_faults [] plain.channels in
    let spots : List Spot = map (λ c. c.name.spot) plain.channels in
    let past : List Fault = past_limit most_channels spots in
    let names : List Fault = declared_faults most_nets (map (λ n. n.name) plain.nets) in
    let a = both_nil (main ++ channels ++ past ++ names) (flat_map (net_faults plain) plain.nets) none in
    let b = both_nil (main ++ channels ++ past) names a.0 in
    let d = both_nil (main ++ channels) past b.0 in
    let few = within_limit most_channels spots d.1 in
    let count = length-map plain.channels (λ c. c.name.spot) in
    record {
      channels = (both_nil main channels d.0).1;
      few_channels = omega (arith, few, count);
      nets = declared_once most_nets (map (λ n. n.name) plain.nets) b.1;
      few_nets = declared_few_of (λ n. n.name) most_nets plain.nets (omega arith) b.1;
      each = All-from_recursion HasNetNumbers plain.nets
          (nets_declared plain plain.nets (each_nil (net_faults plain) plain.nets a.1));
    }

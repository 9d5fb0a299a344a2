-- A node that is written is read again.
use Rattle.std.proofs.Common.{◌≡◌, ℕ, suc, ◌+◌, ◌<◌, ◌≤◌, true, false, cond, List, [], ◌∷◌, ◌++◌, length, map, refl, sym, ap, ◌∙◌, subst, append_assoc, arith}
use Rattle.std.specs.Prelude.{Some, None, Contains, not, bytes_eq, codes, is_some, nat_le, unwrap_or}
use Rattle.std.specs.List.{AllZip, AllByRecursion, list_all}
use Rattle.std.specs.Option.{option_map_or}
use Rattle.std.proofs.lemmas.Bool.{false≢true}
use Rattle.std.proofs.lemmas.Bool.Decides.{nat_tests}
use Rattle.std.proofs.lemmas.List.{length-map}
use Rattle.std.proofs.lemmas.List.Elements.{All-contains, recursion_from_All}
use Rattle.std.proofs.lemmas.Slice.Eq.{bytes_eq-Decides}
use Rattle.rn_items.proofs.Bools.{and_left, and_right, true_both}
use Rattle.rn_items.proofs.Lists.{element_at}
use Rattle.rn_value.specs.Kinds.{HasKind, value_has_kind}
use Rattle.rn_value.specs.Names.{AreNamed, inst_within}
use Rattle.rn_value.specs.Text.{numeral, value_text}
use Rattle.rn_value.specs.Words.{IsName}
use Rattle.rn_value.proofs.Numerals.{IsNumeral-numeral}
use Rattle.rn_value.specs.declared.value.InstRef.{InstRef}
use Rattle.rn_value.specs.declared.value.InstRef.TheVariants.{Old, New}
use Rattle.rn_value.specs.declared.value.Value.{Value}
use Rattle.rn_model.specs.declared.system.System.{System}
use Rattle.rn_model.specs.declared.system.Net.{Net}
use Rattle.rn_model.specs.declared.system.Transition.{Transition}
use Rattle.rn_model.specs.declared.system.Var.{Var}
use Rattle.rn_model.specs.declared.binding.Node.{Node}
use Rattle.rn_model.specs.Bindings.{IsNodeOf}
use Rattle.rn_model.specs.Good.{Good, IsGoodKind, IsGoodNet, IsGoodTransition, occurring}
use Rattle.rn_model.specs.Names.{IsGoodName}
use Rattle.rn_model.specs.Systems.{empty_transition, net_at, transition_at, transition_of, unkinded, var_kind, var_kind_in}
use Rattle.rn_model.proofs.EachElement.{at_place}
use Rattle.rn_model.proofs.MarkingsOfRuns.{good_net, good_transition}
use Rattle.rn_lines.specs.NodeText.{AreGiven, Given, IsInstance, IsNode, NodeSaid}
use Rattle.rn_lines.specs.ValueText.{Said}
use Rattle.rn_lookup.specs.declared.refusal.Refusal.TheVariants.{Form, Name}
use Rattle.rn_lookup.specs.Faults.{given_fault, has_names, is_there, node_fault}
use Rattle.rn_lookup.specs.Found.{are_called, fits_var, is_called, is_var, name_nets, names_net, net_named, net_of_made, net_said, node_is_called, transition_named, transition_said, values_fit, variables_fit, vars_due}
use Rattle.rn_model.specs.NodeText.{IsWritable, all_given_text, instance_text, node_text, var_name}
use Rattle.rn_record_reader.specs.Nodes.{Placed, placed_at}
use Rattle.rn_record_reader.specs.Readable.{IsReadable}
use Rattle.rn_record_reader.proofs.SpelledNodes.{names_for}
use Rattle.rn_record_reader.proofs.WrittenValues.{IsNet, net_there, number_is, value_read}

-- a net that is there is found by its name
pub net_found : (system : System) → Good system → (net : ℕ) → IsNet system net →
    net_named system (net_at system net).name ≡ Some net
net_found system good net low =
    let from : 0 + net ≡ net = omega arith in
    number_is (λ (n : Net). n.name) (net_at system net).name 0 system.nets net (net_at system net) good.nets_distinct
    (net_there system net low) refl
    ∙ ap (λ n. Some n) from

-- so is one of its transitions
pub transition_found : (system : System) → Good system → (net t : ℕ) → IsNet system net →
    t < length (net_at system net).transitions →
    transition_named (net_at system net) (transition_at system net t).name ≡ Some t
transition_found system good net t low high =
    let from : 0 + t ≡ t = omega arith in
    let found = element_at (net_at system net).transitions t high in
    let same : transition_at system net t ≡ found.0 = ap (λ o. unwrap_or o empty_transition) found.1 in
    number_is (λ (t : Transition). t.name) (transition_at system net t).name 0 (net_at system net).transitions t found.0
    (good_net system net good low).transitions_distinct found.1 (ap (λ (t : Transition). t.name) (sym same))
    ∙ ap (λ n. Some n) from

pub instance_written : (m : Said) → IsName m.name → 1 ≤ m.number → m.number < 4294967296 →
    IsInstance m (instance_text m.name (Old m.number))
instance_written m name low high =
    let text : m.name ++ (91 ∷ numeral m.number ++ 93 ∷ []) ≡ instance_text m.name (Old m.number) = simp append_assoc in
    subst (IsInstance m) text (IsInstance.instance name low high (IsNumeral-numeral m.number))

given_cut : (word text more : List ℕ) → 32 ∷ (word ++ (61 ∷ (text ++ more))) ≡ (codes " " ++ word ++ codes "=" ++ text) ++ more
given_cut word text more = simp append_assoc

node_cut : (inst t given : List ℕ) → inst ++ (46 ∷ (t ++ given)) ≡ inst ++ codes "." ++ t ++ given
node_cut inst t given = simp append_assoc

-- nothing is wrong with what is given
given_fine : (system : System) (net : Net) (given : List Given) (xs : List ℕ) → values_fit net given xs ≡ true →
    variables_fit net given xs ≡ true → list_all (λ g. name_nets system g.named) given ≡ true →
    given_fault system net given xs ≡ None
given_fine system net given xs fit vars nets =
    let names : has_names system net given xs ≡ true = true_both (variables_fit net given xs) _ vars nets in
    ap (λ b. cond (not b) (Some Form) (cond (not (has_names system net given xs)) (Some Name) None)) fit
    ∙ ap (λ b. cond (not b) (Some Name) None) names

module _ (system : System) (good : Good system) (all : List ℕ) (real : AllByRecursion (IsNet system) all)
    (few : length all < 4294967296) where
  abbrev names : List (List ℕ)
  names = names_for system all

  -- what is read of variables and their values
  record GivenRead (net : Net) (xs : List ℕ) (vs : List Value) : Type 0 where
    given : List Given
    are : AreGiven given (all_given_text names net xs vs)
    values : map (λ g. g.value) given ≡ vs
    fit : values_fit net given xs ≡ true
    vars : variables_fit net given xs ≡ true
    nets : list_all (λ g. name_nets system g.named) given ≡ true
    called : list_all (λ g. are_called system all g.named) given ≡ true

  given_read : (net : Net) → IsGoodNet system net → (xs : List ℕ) (vs : List Value) →
      ((x : ℕ) → Contains xs x → x < length net.vars) → AllZip (λ x v. HasKind v (var_kind_in net x)) xs vs →
      AllByRecursion IsReadable vs → AllByRecursion (AreNamed names) vs → GivenRead net xs vs
  given_read net is [] [] low kinds readable named = record {
    given = [];
    are = AreGiven.none;
    values = refl;
    fit = refl;
    vars = refl;
    nets = refl;
    called = refl;
  }
  given_read net is [] (v ∷ vs) low kinds readable named = absurd kinds
  given_read net is (x ∷ xs) [] low kinds readable named = absurd kinds
  given_read net is (x ∷ xs) (v ∷ vs) low kinds readable named =
      let var = element_at net.vars x (low x (0, omega arith, refl)) in
      let word : List ℕ = var_name net x in
      let word_is : word ≡ var.0.name = ap (λ o. option_map_or (λ var. var.name) o []) var.1 in
      let one = value_read system good all real few v readable.0 named.0 in
      let rest = given_read net is xs vs (λ y there. low y (let (k, h, e) = there in (suc k, omega (arith, h), e))) kinds.1 readable.1 named.1 in
      let g : Given = record { variable = word; value = v; named = one.0 } in
      let kind : HasKind v var.0.kind = subst (HasKind v) (ap (λ o. option_map_or (λ (var : Var). var.kind) o unkinded) var.1) kinds.0 in
      let name : IsName word = subst IsName (sym word_is) (at_place (λ (var : Var). IsGoodName var.name × IsGoodKind var.kind) net.vars x var.0 is.vars var.1).0.0 in
      let text = value_text v names in
      let more = all_given_text names net xs vs in record {
        given = g ∷ rest.given;
        are =
            subst (AreGiven (g ∷ rest.given)) (given_cut word text more) (AreGiven.some name one.1 rest.are);
        values = ap (λ ws. v ∷ ws) rest.values;
        fit = true_both (fits_var net x v) (values_fit net rest.given xs)
            (ap (λ o. option_map_or (λ var. value_has_kind v var.kind) o false) var.1 ∙ kind) rest.fit;
        vars = true_both (is_var net x word) (variables_fit net rest.given xs)
            (ap (λ o. option_map_or (λ var. bytes_eq var.name word) o false) var.1
            ∙ (bytes_eq-Decides var.0.name word).1 (sym word_is)) rest.vars;
        nets = true_both (name_nets system one.0) (list_all (λ g. name_nets system g.named) rest.given) one.3 rest.nets;
        called = true_both (are_called system all one.0) (list_all (λ g. are_called system all g.named) rest.given) one.2 rest.called;
      }

  -- What is known of a node whose instances have numbers.
  pub record IsNumbered (node : Node) : Type 0 where
    pub writable : IsWritable system names node
    pub net : (n : ℕ) → node.inst ≡ Old n → net_of_made all n ≡ Some node.net
    pub kinds : AllZip (λ x v. HasKind v (var_kind system node.net x)) (transition_of system node).vars node.values
    pub readable : AllByRecursion IsReadable node.values

  -- where a node is read
  abbrev pub place_of : Node → NodeSaid → Placed
  place_of node n = record { path = node.path; net = node.net; transition = node.transition; said = n }

  -- What is read of such a node.
  pub record NodeRead (node : Node) : Type 0 where
    pub said : NodeSaid
    pub is : IsNode said (node_text system names node)
    pub fault : node_fault system said ≡ None
    pub called : node_is_called system all said ≡ true
    pub placed : placed_at system node.path said ≡ place_of node said
    pub number : Old said.inst.number ≡ node.inst
    pub values : map (λ g. g.value) said.given ≡ node.values

  module _ (node : Node) (is : IsNumbered node) (n : ℕ) (inst : node.inst ≡ Old n) where
    abbrev net : Net
    net = net_at system node.net

    abbrev t : Transition
    t = transition_of system node

    abbrev of : IsNodeOf system node
    of = is.writable.occurs

    good_here : IsGoodTransition system net t
    good_here = good_transition system node.net node.transition good of.net of.transition

    abbrev given : GivenRead net t.vars node.values
    given = given_read net (good_net system node.net good of.net) t.vars node.values
        (λ x there. All-contains (λ x. x < length net.vars) (occurring t) x good_here.in_range ((good_here.its_vars.vars x).0 there).0)
        is.kinds is.readable (recursion_from_All (AreNamed names) node.values is.writable.named)

    abbrev own : Said
    own = record { name = net.name; number = n }

    abbrev said : NodeSaid
    said = record { inst = own; transition = t.name; given = given.given }

    net_same : net_said system own ≡ node.net
    net_same = ap (λ o. unwrap_or o 0) (net_found system good node.net of.net)

    named_there : transition_named (net_at system (net_said system own)) t.name ≡ Some node.transition
    named_there =
        ap (λ k. transition_named (net_at system k) t.name) net_same
        ∙ transition_found system good node.net node.transition of.net of.transition

    transition_same : transition_said system said ≡ node.transition
    transition_same = ap (λ o. unwrap_or o 0) named_there

    vars_same : vars_due system said ≡ t.vars
    vars_same =
        ap (λ k. (transition_at system k (transition_said system said)).vars) net_same
        ∙ ap (λ k. (transition_at system node.net k).vars) transition_same

    there : is_there system said ≡ true
    there =
        true_both (names_net system own) (is_some (transition_named (net_at system (net_said system own)) t.name))
        (ap is_some (net_found system good node.net of.net)) (ap is_some named_there)

    no_fault : node_fault system said ≡ None
    no_fault =
        ap (λ b. cond (not b) (Some Name) (given_fault system (net_at system (net_said system own)) given.given (vars_due system said))) there
        ∙ ap (λ k. given_fault system (net_at system k) given.given (vars_due system said)) net_same
        ∙ ap (given_fault system net given.given) vars_same
        ∙ given_fine system net given.given t.vars given.fit given.vars given.nets

    own_called : is_called system all own ≡ true
    own_called =
        ap (λ o. option_map_or (λ k. bytes_eq (net_at system k).name net.name) o false) (is.net n inst)
        ∙ (bytes_eq-Decides net.name net.name).1 refl

    in_range : (1 ≤ n) × (n ≤ length all)
    in_range =
        let within : inst_within (Old n) (length names) ≡ true = ap (λ i. inst_within i (length names)) (sym inst) ∙ is.writable.exists in
        let one = and_left (nat_le 1 n) (nat_le n (length names)) within in
        let two = and_right (nat_le 1 n) (nat_le n (length names)) within in
        let count : length names ≡ length all = length-map all (λ net. (net_at system net).name) in
        let low : 1 ≤ n = grind (arith, nat_tests) in
        let high : n ≤ length names = grind (arith, nat_tests) in
        (low, omega (arith, high, count))

    read_as : NodeRead node
    read_as = record {
      said = said;
      is =
          let values = all_given_text names net t.vars node.values in
          let text : instance_text net.name (Old n) ++ (46 ∷ (t.name ++ values)) ≡ node_text system names node =
          ap (λ i. instance_text net.name i ++ (46 ∷ (t.name ++ values))) (sym inst) ∙ node_cut (instance_text net.name node.inst) t.name values in
          subst (IsNode said) text
          (IsNode.node (instance_written own (good_net system node.net good of.net).name.0 in_range.0 (let high = in_range.1 in omega (arith, few, high)))
          good_here.name.0 given.are);
      fault = no_fault;
      called = true_both (is_called system all own) (list_all (λ g. are_called system all g.named) given.given) own_called given.called;
      placed =
          ap (λ k. let x : Placed = record { path = node.path; net = k; transition = transition_said system said; said = said } in x) net_same
          ∙ ap (λ k. let x : Placed = record { path = node.path; net = node.net; transition = k; said = said } in x) transition_same;
      number = sym inst;
      values = given.values;
    }

  -- such a node is read
  pub node_read : (node : Node) → IsNumbered node → NodeRead node
  node_read node is = by node.inst refl
    where
      by : (i : InstRef) → node.inst ≡ i → NodeRead node
      by (Old n) inst = read_as node is n inst
      by (New path j) inst =
          absurd (false≢true (ap (λ i. inst_within i (length names)) (sym inst) ∙ is.writable.exists))

-- The text of a node is the one that is written.
use Rattle.std.proofs.Common.{◌≡◌, ℕ, suc, ◌+◌, Bool, true, false, cond, List, [], ◌∷◌, ◌++◌, map, refl, sym, ap, ◌∙◌, subst, append_assoc, arith}
use Rattle.std.specs.Prelude.{Option, Some, None, not, bytes_eq, nat_eq, slice_get, option_map, unwrap_or, is_some, ◌-◌}
use Rattle.std.specs.List.{list_all, AllByRecursion}
use Rattle.std.specs.Option.{option_map_or}
use Rattle.std.proofs.lemmas.Bool.{false≢true}
use Rattle.std.proofs.lemmas.Option.{slice_get-map}
use Rattle.std.proofs.lemmas.Slice.Eq.{bytes_eq-Decides}
use Rattle.rn_items.proofs.Bools.{and_left, and_right}
use Rattle.rn_value.specs.declared.value.Value.{Value}
use Rattle.rn_value.specs.declared.value.InstRef.{InstRef}
use Rattle.rn_value.specs.declared.value.InstRef.TheVariants.{Old}
use Rattle.rn_value.specs.Names.{AreNamed}
use Rattle.rn_value.specs.Text.{value_text}
use Rattle.rn_value.proofs.Numerals.{numeral_only}
use Rattle.rn_model.specs.declared.system.System.{System}
use Rattle.rn_model.specs.declared.system.Net.{Net}
use Rattle.rn_model.specs.declared.system.Var.{Var}
use Rattle.rn_model.specs.declared.binding.Node.{Node}
use Rattle.rn_model.specs.Systems.{net_at, transition_at, empty_net, empty_transition}
use Rattle.rn_lines.specs.Laws.{IsCalled, AreCalled}
use Rattle.rn_lines.specs.NodeText.{Given, NodeSaid, IsInstance, AreGiven, IsNode}
use Rattle.rn_lines.specs.ValueText.{Said, IsValue, most_brackets}
use Rattle.rn_lines.proofs.WrittenValues.{read_are_written}
use Rattle.rn_lookup.specs.declared.refusal.Refusal.{Refusal}
use Rattle.rn_lookup.specs.declared.refusal.Refusal.TheVariants.{Form, Name}
use Rattle.rn_lookup.specs.Faults.{is_there, has_names, given_fault, node_fault}
use Rattle.rn_lookup.specs.Found.{number_from, net_said, transition_said, vars_due, values_fit, variables_fit}
use Rattle.rn_lookup.specs.Found.{names_net, is_var, is_called, are_called, node_is_called}
use Rattle.rn_model.specs.NodeText.{instance_text, var_name, all_given_text, node_text}
use Rattle.rn_value.specs.declared.value.Value.TheVariants as Value
use Rattle.rn_lines.specs.ValueText.{IsRow, IsTail}
use Rattle.rn_model.specs.Firing.{renamed_value}
use Rattle.rn_model.proofs.NamingRules.{renamed_value-Int, renamed_value-Inst}
use Rattle.rn_model.proofs.NumberedInstances.{renamed-Text, renamed-Tuple, renamed-List}
use Rattle.rn_record_reader.specs.Nodes.{Placed, placed_at}

-- the names of the nets of instances
abbrev pub names_for : System → List ℕ → List (List ℕ)
names_for system made = map (λ net. (net_at system net).name) made

-- what is found by a name has it
module _ {X : Type 0} (name : X → List ℕ) (word : List ℕ) where
  found_from : (k : ℕ) (xs : List X) (j : ℕ) (d : X) → number_from name k xs word ≡ Some j →
      (i : ℕ) × (j ≡ k + i) × (name (unwrap_or (slice_get xs i) d) ≡ word)
  found_from k [] j d e = absurd (let no : ⊥ = cc in no)
  found_from k (x ∷ xs) j d e = by (bytes_eq (name x) word) refl e (found_from (k + 1) xs j d)
    where
      by : (same : Bool) → bytes_eq (name x) word ≡ same →
          cond same (Some k) (number_from name (k + 1) xs word) ≡ Some j →
          (number_from name (k + 1) xs word ≡ Some j →
          (i : ℕ) × (j ≡ (k + 1) + i) × (name (unwrap_or (slice_get xs i) d) ≡ word)) →
          (i : ℕ) × (j ≡ k + i) × (name (unwrap_or (slice_get (x ∷ xs) i) d) ≡ word)
      by true same first later =
          let here : k ≡ j = cc in
          (0, omega (arith, here), (bytes_eq-Decides (name x) word).0 same)
      by false other rest later =
          let found = later rest in
          (suc found.0, omega (arith, found.1), found.2)

  pub has_name : (xs : List X) (d : X) → is_some (number_from name 0 xs word) ≡ true →
      name (unwrap_or (slice_get xs (unwrap_or (number_from name 0 xs word) 0)) d) ≡ word
  has_name xs d some = by (number_from name 0 xs word) refl some
    where
      by : (o : Option ℕ) → number_from name 0 xs word ≡ o → is_some o ≡ true →
          name (unwrap_or (slice_get xs (unwrap_or o 0)) d) ≡ word
      by None e some = absurd (false≢true some)
      by (Some j) e some =
          let found = found_from 0 xs j d e in
          let same : found.0 ≡ j = let at = found.1 in omega (arith, at) in
          subst (λ i. name (unwrap_or (slice_get xs i) d) ≡ word) same found.2

-- an instance that is called by its net's name has that name
module _ (system : System) (made : List ℕ) where
  abbrev names : List (List ℕ)
  names = names_for system made

  called_by : (m : Said) (o : Option ℕ) →
      option_map_or (λ net. bytes_eq (net_at system net).name m.name) o false ≡ true →
      option_map (λ net. (net_at system net).name) o ≡ Some m.name
  called_by m None e = absurd (false≢true e)
  called_by m (Some net) e = ap Some ((bytes_eq-Decides (net_at system net).name m.name).0 e)

  pub is_called_by : (m : Said) → is_called system made m ≡ true → IsCalled names m
  is_called_by m e = by (nat_eq m.number 0) refl e
    where
      by : (none : Bool) → nat_eq m.number 0 ≡ none →
          option_map_or (λ net. bytes_eq (net_at system net).name m.name)
          (cond none None (slice_get made (m.number - 1))) false ≡ true →
          cond none None (slice_get names (m.number - 1)) ≡ Some m.name
      by true z e = absurd (false≢true e)
      by false z e =
          slice_get-map (λ net. (net_at system net).name) made (m.number - 1)
          ∙ called_by m (slice_get made (m.number - 1)) e

  pub all_called_by : (ms : List Said) → are_called system made ms ≡ true → AreCalled names ms
  all_called_by [] e = tt
  all_called_by (m ∷ ms) e = (
    is_called_by m (and_left (is_called system made m) (are_called system made ms) e),
    all_called_by ms (and_right (is_called system made m) (are_called system made ms) e),
  )

  -- a value's text
  pub value_spelled : (v : Value) (named : List Said) (text : List ℕ) → IsValue most_brackets v named text →
      are_called system made named ≡ true → AreNamed names v × (text ≡ value_text v names)
  value_spelled v named text is called =
      read_are_written names most_brackets v named text is (all_called_by named called)

  -- variables with their values
  given_spelled : (net : Net) (given : List Given) (xs : List ℕ) (bytes : List ℕ) → AreGiven given bytes →
      values_fit net given xs ≡ true → variables_fit net given xs ≡ true →
      list_all (λ g. are_called system made g.named) given ≡ true →
      bytes ≡ all_given_text names net xs (map (λ g. g.value) given)
  given_spelled net given xs bytes AreGiven.none fit vars called = by xs fit
    where
      by : (ys : List ℕ) → values_fit net [] ys ≡ true → [] ≡ all_given_text names net ys []
      by [] fit = refl
      by (y ∷ ys) fit = absurd (false≢true fit)
  given_spelled net given [] bytes (AreGiven.some name value rest) fit vars called = absurd (false≢true fit)
  given_spelled net given (x ∷ xs) bytes
      (AreGiven.some {name = word} {text = text} {rest = others} {v = v} {named = named} {given = more} name value rest) fit vars called =
      let g : Given = record { variable = word; value = v; named = named } in
      let first = value_spelled v named text value (and_left (are_called system made named) (list_all (λ g. are_called system made g.named) more) called) in
      let later = given_spelled net more xs others rest
      (and_right _ (values_fit net more xs) fit)
      (and_right (is_var net x word) (variables_fit net more xs) vars)
      (and_right (are_called system made named) (list_all (λ g. are_called system made g.named) more) called) in
      let variable : word ≡ var_name net x = var_is (slice_get net.vars x) (and_left (is_var net x word) (variables_fit net more xs) vars) in
      ap (λ w. 32 ∷ (w ++ (61 ∷ (text ++ others)))) variable
      ∙ ap (λ t. 32 ∷ (var_name net x ++ (61 ∷ (t ++ others)))) first.1
      ∙ ap (λ t. 32 ∷ (var_name net x ++ (61 ∷ (value_text v names ++ t)))) later
      ∙ simp append_assoc
    where
      var_is : (o : Option Var) → option_map_or (λ var. bytes_eq var.name word) o false ≡ true →
          word ≡ option_map_or (λ var. var.name) o []
      var_is None e = absurd (false≢true e)
      var_is (Some var) e = sym ((bytes_eq-Decides var.name word).0 e)

-- a node without its numbers changed
abbrev pub plain_node : Placed → Node
plain_node x = record {
  path = x.path;
  inst = Old x.said.inst.number;
  net = x.net;
  transition = x.transition;
  values = map (λ g. g.value) x.said.given;
}

pub unfaulty : (b : Bool) (r : Refusal) (o : Option Refusal) → cond (not b) (Some r) o ≡ None → (b ≡ true) × (o ≡ None)
unfaulty true r o e = (refl, e)
unfaulty false r o e = absurd (let no : ⊥ = cc in no)

pub instance_spelled : {m : Said} {a : List ℕ} → IsInstance m a → a ≡ instance_text m.name (Old m.number)
instance_spelled (IsInstance.instance {name = name} {digits = digits} is low high number) =
    ap (λ d. name ++ (91 ∷ d ++ 93 ∷ [])) (numeral_only number) ∙ simp append_assoc

module _ (system : System) (made : List ℕ) where
  pub node_spelled : (path : List ℕ) {n : NodeSaid} {b : List ℕ} → IsNode n b → node_fault system n ≡ None →
      node_is_called system made n ≡ true →
      b ≡ node_text system (names_for system made) (plain_node (placed_at system path n))
  node_spelled path {n = n} (IsNode.node {inst = inst} {given = given} {text = text} {transition = t} {rest = rest} is_inst is_name are) fine called =
      let net : Net = net_at system (net_said system inst) in
      let there = unfaulty (is_there system n) Name (given_fault system net given (vars_due system n)) fine in
      let fits = unfaulty (values_fit net given (vars_due system n)) Form _ there.1 in
      let has = unfaulty (has_names system net given (vars_due system n)) Name None fits.1 in
      let net_is : net.name ≡ inst.name =
      has_name (λ net. net.name) inst.name system.nets empty_net (and_left (names_net system inst) _ there.0) in
      let transition_is : (transition_at system (net_said system inst) (transition_said system n)).name ≡ t =
      has_name (λ t. t.name) t net.transitions empty_transition (and_right (names_net system inst) _ there.0) in
      let rest_is = given_spelled system made net given (vars_due system n) rest are fits.0
      (and_left _ (list_all (λ g. list_all (names_net system) g.named) given) has.0)
      (and_right (is_called system made inst) _ called) in
      let names = names_for system made in
      let all = all_given_text names net (vars_due system n) (map (λ g. g.value) given) in
      ap (λ a. a ++ (46 ∷ (t ++ rest))) (instance_spelled is_inst)
      ∙ ap (λ r. instance_text inst.name (Old inst.number) ++ (46 ∷ (t ++ r))) rest_is
      ∙ ap (λ w. instance_text w (Old inst.number) ++ (46 ∷ (t ++ all))) (sym net_is)
      ∙ ap (λ w. instance_text net.name (Old inst.number) ++ (46 ∷ (w ++ all))) (sym transition_is)
      ∙ simp append_assoc

-- Where instances by number are renamed to themselves, so is a value that a text spells.
abbrev pub KeepsNumbers : Value → Type 0
KeepsNumbers v = (f g : InstRef → InstRef) → ((n : ℕ) → f (g (Old n)) ≡ Old n) →
    renamed_value (renamed_value v g) f ≡ v

abbrev twice : (f g : InstRef → InstRef) → List Value → List Value
twice f g vs = map (λ v. renamed_value v f) (map (λ v. renamed_value v g) vs)

mutual
  pub keeps_numbers : {depth : ℕ} {v : Value} {said : List Said} {a : List ℕ} → IsValue depth v said a → KeepsNumbers v
  keeps_numbers (IsValue.number {n = n} fits is) f g same =
      ap (λ v. renamed_value v f) (renamed_value-Int n g) ∙ renamed_value-Int n f
  keeps_numbers (IsValue.text {s = s} utf8 is) f g same =
      ap (λ v. renamed_value v f) (renamed-Text s g) ∙ renamed-Text s f
  keeps_numbers (IsValue.tuple {vs = vs} row) f g same =
      ap (λ v. renamed_value v f) (renamed-Tuple vs g) ∙ renamed-Tuple (map (λ v. renamed_value v g) vs) f
      ∙ ap (λ ws. Value.Tuple ws) (row_keeps row f g same)
  keeps_numbers (IsValue.list {vs = vs} row) f g same =
      ap (λ v. renamed_value v f) (renamed-List vs g) ∙ renamed-List (map (λ v. renamed_value v g) vs) f
      ∙ ap (λ ws. Value.List ws) (row_keeps row f g same)
  keeps_numbers (IsValue.instance {number = n} is low high number) f g same =
      ap (λ v. renamed_value v f) (renamed_value-Inst (Old n) g) ∙ renamed_value-Inst (g (Old n)) f
      ∙ ap (λ i. Value.Inst i) (same n)

  row_keeps : {depth : ℕ} {vs : List Value} {said : List Said} {a : List ℕ} → IsRow depth vs said a →
      (f g : InstRef → InstRef) → ((n : ℕ) → f (g (Old n)) ≡ Old n) → twice f g vs ≡ vs
  row_keeps IsRow.none f g same = refl
  row_keeps (IsRow.some {v = v} {vs = vs} first others) f g same =
      ap (λ w. w ∷ twice f g vs) (keeps_numbers first f g same) ∙ ap (λ ws. v ∷ ws) (tail_keeps others f g same)

  tail_keeps : {depth : ℕ} {vs : List Value} {said : List Said} {a : List ℕ} → IsTail depth vs said a →
      (f g : InstRef → InstRef) → ((n : ℕ) → f (g (Old n)) ≡ Old n) → twice f g vs ≡ vs
  tail_keeps IsTail.end f g same = refl
  tail_keeps (IsTail.comma {v = v} {vs = vs} first others) f g same =
      ap (λ w. w ∷ twice f g vs) (keeps_numbers first f g same) ∙ ap (λ ws. v ∷ ws) (tail_keeps others f g same)

pub given_keep : {given : List Given} {a : List ℕ} → AreGiven given a → AllByRecursion (λ g. KeepsNumbers g.value) given
given_keep AreGiven.none = tt
given_keep (AreGiven.some name value rest) = (keeps_numbers value, given_keep rest)

pub node_keeps : {n : NodeSaid} {b : List ℕ} → IsNode n b → AllByRecursion (λ g. KeepsNumbers g.value) n.given
node_keeps (IsNode.node inst name are) = given_keep are

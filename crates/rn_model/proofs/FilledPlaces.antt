-- What the nodes of a binding put after their actions is at most what the binding fills.
use Rattle.std.proofs.Common.{◌≡◌, ℕ, ◌+◌, ◌≤◌, Bool, true, false, List, [], ◌∷◌, ◌++◌, map, length}
use Rattle.std.proofs.Common.{length-append, refl, sym, ap, ◌∙◌, arith}
use Rattle.std.specs.Prelude.{Some, filter, flat_map, nat_eq, if◌then◌else◌, ◌&&◌, option_map}
use Rattle.std.specs.List.{list_any, AllByRecursion}
use Rattle.std.specs.Ordering.{is_eq}
use Rattle.std.specs.Cmp.{Equal-is}
use Rattle.std.proofs.lemmas.Option.{same_Some, option_and_then_some}
use Rattle.std.proofs.lemmas.Bool.{or_parts}
use Rattle.rn_items.proofs.Options.{option_map_some}
use Rattle.rn_value.specs.Order.{inst_cmp}
use Rattle.rn_value.specs.link.OrderLaws.{insts_apart}
use Rattle.rn_value.specs.declared.value.InstRef.{InstRef}
use Rattle.rn_value.specs.declared.value.InstRef.TheVariants.{Old}
use Rattle.rn_value.specs.declared.value.Value.{Value}
use Rattle.rn_model.specs.declared.system.System.{System}
use Rattle.rn_model.specs.declared.system.NetArc.{NetArc}
use Rattle.rn_model.specs.declared.binding.Node.{Node}
use Rattle.rn_model.specs.declared.binding.Binding.{Binding}
use Rattle.rn_model.specs.Systems.{net_at, transition_of, puts_awaited, capacity}
use Rattle.rn_model.specs.Bindings.{env_of}
use Rattle.rn_model.specs.Demands.{Reading, readings, puts, asked_by_arc, asked_by_node, asked_at}
use Rattle.rn_model.specs.Demands.{awaited_by_node, filled_at}
use Rattle.rn_model.specs.Firing.{Acts, Effects, numbered_inst, renamed_node, creations_of}
use Rattle.rn_model.specs.Firing.{node_acts, effects_with, all_effects, effects}
use Rattle.rn_model.specs.FiringLaws.{put_by}
use Rattle.rn_model.specs.Good.{IsGoodTransition}
use Rattle.rn_model.proofs.AskedValues.{inst_itself}
use Rattle.rn_model.proofs.LengthsByCounts.{ordered_length}
use Rattle.rn_model.proofs.PutsOfArcs.{arcs_bound}

abbrev reading : System → Node → Reading
reading system node = record { node = node; env = env_of system node }

if_stands : {X : Type 0} (here there : Bool) (xs ys : List Value) (zs : List X) →
    (here ≡ true → there ≡ true) → (here ≡ true → length xs ≤ length ys + length zs) →
    length (if here then xs else [])
    ≤ length (if there then ys else []) + length (if there then zs else [])
if_stands false there xs ys zs stands bound = omega arith
if_stands true true xs ys zs stands bound = bound refl
if_stands true false xs ys zs stands bound =
    let both : false ≡ true = stands refl in absurd (let no : ⊥ = cc in no)

-- A node of a good transition stands on this instance where its new name is this number, and the
-- place has this capacity there.
pub record ComesFrom (system : System) (name : InstRef → InstRef) (inst : InstRef)
    (n place most : ℕ) (node : Node) : Type 0 where
  pub good : IsGoodTransition system (net_at system node.net) (transition_of system node)
  pub stands : name node.inst ≡ Old n → node.inst ≡ inst
  pub has : node.inst ≡ inst → capacity system node.net place ≡ Some most

module _ (system : System) (step : ℕ) (name : InstRef → InstRef) (inst : InstRef)
    (n place most : ℕ) where
  abbrev Comes : Node → Type 0
  Comes node = ComesFrom system name inst n place most node

  stands_there : (node : Node) → Comes node → is_eq (inst_cmp (name node.inst) (Old n)) ≡ true →
      node.inst ≡ inst
  stands_there node from e =
      from.stands
      (insts_apart (name node.inst) (Old n) ((Equal-is (inst_cmp (name node.inst) (Old n))).0 e))

  node_bound : (node : Node) → Comes node → (acts : Acts) →
      node_acts system step (renamed_node name node) ≡ Some acts →
      length (asked_by_node puts system (Old n) place
      (record { node = renamed_node name node; env = acts.env }))
      ≤ length (asked_by_node puts system inst place (reading system node))
      + length (awaited_by_node system inst place node)
  node_bound node from acts are =
      let t = transition_of system node in
      if_stands (is_eq (inst_cmp (name node.inst) (Old n))) (is_eq (inst_cmp node.inst inst))
      (flat_map (asked_by_arc puts acts.env place) t.arcs)
      (flat_map (asked_by_arc puts (env_of system node) place) t.arcs)
      (filter (λ arc. nat_eq arc.place place && puts_awaited t arc) t.arcs)
      (λ here.
      ap (λ i. is_eq (inst_cmp node.inst i)) (sym (stands_there node from here))
      ∙ inst_itself node.inst)
      (λ here.
      arcs_bound system step name node acts from.good are place most
      (from.has (stands_there node from here)))

  -- what the nodes put after their actions
  abbrev put : Effects → List Value
  put acts = asked_at puts system acts.read (Old n) place

  -- what they put before, as far as it is known
  abbrev known : List Node → List Value
  known nodes = asked_at puts system (map (reading system) nodes) inst place

  -- the arcs that await an action
  abbrev awaited : List Node → List NetArc
  awaited nodes = flat_map (awaited_by_node system inst place) nodes

  nodes_bound : (nodes : List Node) → AllByRecursion Comes nodes → (acts : Effects) →
      all_effects system step (map (renamed_node name) nodes) ≡ Some acts →
      length (put acts) ≤ length (known nodes) + length (awaited nodes)
  nodes_bound [] all acts e =
      let none = same_Some (record { read = []; outs = [] }) acts e in
      let nothing : length (put acts) ≡ 0 = ap (λ a. length (put a)) (sym none) in
      omega (arith, nothing)
  nodes_bound (node ∷ nodes) all acts e =
      option_and_then_some
      (λ acts. option_map (effects_with (renamed_node name node) acts)
      (all_effects system step (map (renamed_node name) nodes)))
      (node_acts system step (renamed_node name node)) acts e (λ own first rest.
      option_map_some (effects_with (renamed_node name node) own)
      (all_effects system step (map (renamed_node name) nodes)) acts rest (λ others come made.
      let here = node_bound node all.0 own first in
      let there = nodes_bound nodes all.1 others come in
      let same = same_Some (effects_with (renamed_node name node) own others) acts made in
      let now = ap (λ a. length (put a)) (sym same) in
      let by_own = asked_by_node puts system (Old n) place
      (record { node = renamed_node name node; env = own.env }) in
      let joined = length-append by_own (put others) in
      let before = length-append (asked_by_node puts system inst place (reading system node))
      (known nodes) in
      let waits = length-append (awaited_by_node system inst place node) (awaited nodes) in
      omega (arith, here, there, now, joined, before, waits)))

-- what a firing puts is at most what its binding fills
pub put_bound : (system : System) (b : Binding) (next step : ℕ) (acts : Effects) (inst : InstRef)
    (n place most : ℕ) → effects system b next step ≡ Some acts →
    AllByRecursion
    (ComesFrom system (numbered_inst (creations_of system b) next) inst n place most) b.nodes →
    length (put_by system acts n place) ≤ filled_at system b inst place
put_bound system b next step acts inst n place most are all =
    let name = numbered_inst (creations_of system b) next in
    let bound = nodes_bound system step name inst n place most b.nodes all acts are in
    let many = ordered_length (asked_at puts system (readings system b) inst place) in
    omega (arith, bound, many)

-- where no node stands on an instance, nothing is filled there
module _ (system : System) (inst : InstRef) (place : ℕ) where
  abbrev stands : Node → Bool
  stands node = is_eq (inst_cmp node.inst inst)

  none_known : (nodes : List Node) → list_any stands nodes ≡ false →
      asked_at puts system (map (reading system) nodes) inst place ≡ []
  none_known [] e = refl
  none_known (node ∷ nodes) e =
      let both = or_parts (stands node) (list_any stands nodes) e in
      let own = flat_map (asked_by_arc puts (env_of system node) place)
      (transition_of system node).arcs in
      let others = asked_at puts system (map (reading system) nodes) inst place in
      ap (λ here. (if here then own else []) ++ others) both.0 ∙ none_known nodes both.1

  none_awaited : (nodes : List Node) → list_any stands nodes ≡ false →
      flat_map (awaited_by_node system inst place) nodes ≡ []
  none_awaited [] e = refl
  none_awaited (node ∷ nodes) e =
      let both = or_parts (stands node) (list_any stands nodes) e in
      let t = transition_of system node in
      let own = filter (λ arc. nat_eq arc.place place && puts_awaited t arc) t.arcs in
      let others = flat_map (awaited_by_node system inst place) nodes in
      ap (λ here. (if here then own else []) ++ others) both.0 ∙ none_awaited nodes both.1

  pub none_filled : (b : Binding) → list_any stands b.nodes ≡ false →
      filled_at system b inst place ≡ 0
  none_filled b e =
      let many = ordered_length (asked_at puts system (readings system b) inst place) in
      let known = ap length (none_known b.nodes e) in
      let awaited = ap length (none_awaited b.nodes e) in
      omega (arith, many, known, awaited)

-- Where the values come from that a firing puts, and which instances they name.
use Rattle.std.proofs.Common.{◌≡◌, ℕ, zero, suc, Bool, true, false, List, [], ◌∷◌, map, refl, sym, ap, ◌∙◌, subst, inl, inr, arith}
use Rattle.std.specs.Prelude.{Option, Some, None, Contains, flat_map, zip, nat_eq, unwrap_or, option_map, if◌then◌else◌}
use Rattle.std.specs.Option.{option_map_or}
use Rattle.std.specs.Ordering.{is_eq}
use Rattle.std.specs.Cmp.{Equal-is}
use Rattle.std.specs.List.{list_all, AllByRecursion}
use Rattle.std.proofs.lemmas.Bool.{eqb-true}
use Rattle.std.proofs.lemmas.Option.{same_Some, option_and_then_some}
use Rattle.std.proofs.lemmas.List.Elements.{Contains-append_cases}
use Rattle.rn_items.proofs.Options.{option_map_some}
use Rattle.rn_items.proofs.Bools.{both_true, true_both}
use Rattle.rn_value.specs.Order.{inst_cmp}
use Rattle.rn_value.specs.declared.value.InstRef.{InstRef}
use Rattle.rn_value.specs.declared.value.Value.{Value, map-Value, fold-roll-Value, out-roll-Value, ind-Value}
use Rattle.rn_value.specs.declared.value.Value.TheOpen as V
use Rattle.rn_model.specs.declared.expr.Expr.{Expr}
use Rattle.rn_model.specs.declared.system.System.{System}
use Rattle.rn_model.specs.declared.system.Action.{Action}
use Rattle.rn_model.specs.declared.system.Action.TheVariants.{Set, Print}
use Rattle.rn_model.specs.declared.system.ArcKind.{ArcKind}
use Rattle.rn_model.specs.declared.system.ArcKind.TheVariants.{Input, Output, Test, Reserve, FlexInput, FlexOutput, Inhibit, Clear}
use Rattle.rn_model.specs.declared.system.NetArc.{NetArc}
use Rattle.rn_model.specs.declared.binding.Node.{Node}
use Rattle.rn_model.specs.declared.binding.Binding.{Binding}
use Rattle.rn_model.specs.Systems.{transition_of}
use Rattle.rn_model.specs.Evaluation.{Env, worth, list_step}
use Rattle.rn_model.specs.Bindings.{env_of}
use Rattle.rn_model.specs.Demands.{Reading, elements, puts, asked_by_arc, asked_by_node, asked_at}
use Rattle.rn_model.specs.Firing.{Acts, Effects, numbered_inst, creations_of, renamed_value, renamed_node, named, with_set, with_out, after_actions, acts_before, node_acts, outputs_defined, effects_with, all_effects, effects}
use Rattle.rn_model.proofs.EnablingLemmas.{not_in_nil, the_one}
use Rattle.rn_value.specs.link.OrderLaws.{insts_apart}
use Rattle.rn_model.proofs.AskedValues.{later, map_source, flat_source}
use Rattle.rn_model.proofs.ReplacedValues.{replaced, replaced_step, renamed_is_replaced}
use Rattle.rn_model.proofs.PassingInstances.{only, only_step, only-Int, only-Text, only-Tuple, only-List, only-Inst, IsPassingEnv, worth_passes}

-- Values in values that pass.
in_passing : (good : InstRef → Bool) (vs : List Value) → list_all (λ p. p) (map (only good) vs) ≡ true → (v : Value) → Contains vs v → only good v ≡ true
in_passing good [] e v there = absurd (not_in_nil v there)
in_passing good (w ∷ vs) e v (zero, h, is) = ap (only good) (sym is) ∙ (both_true (only good w) (list_all (λ p. p) (map (only good) vs)) e).0
in_passing good (w ∷ vs) e v (suc k, h, is) = in_passing good vs (both_true (only good w) (list_all (λ p. p) (map (only good) vs)) e).1 v (k, omega (arith, h), is)

elements_layer : (good : InstRef → Bool) (x : V.Value-F Value) → only_step good (map-Value Value Bool (only good) x) ≡ true → (v : Value) → Contains (unwrap_or (list_step x) []) v → only good v ≡ true
elements_layer good (V.Int n) e v there = absurd (not_in_nil v there)
elements_layer good (V.Text s) e v there = absurd (not_in_nil v there)
elements_layer good (V.Tuple vs) e v there = absurd (not_in_nil v there)
elements_layer good (V.List vs) e v there = in_passing good vs e v there
elements_layer good (V.Inst i) e v there = absurd (not_in_nil v there)

pub elements_pass : (good : InstRef → Bool) (w : Value) → only good w ≡ true → (v : Value) → Contains (elements w) v → only good v ≡ true
elements_pass good = ind-Value (λ w. only good w ≡ true → (v : Value) → Contains (elements w) v → only good v ≡ true) (λ x y is e v there.
    elements_layer good x (sym (fold-roll-Value Bool (only_step good) x) ∙ e) v (subst (λ z. Contains (unwrap_or (list_step z) []) v) (out-roll-Value x) there))

pub each_put_passes : (good : InstRef → Bool) (kind : ArcKind) (w v : Value) → only good w ≡ true → Contains (puts kind w) v → only good v ≡ true
each_put_passes good Output w v e there = ap (only good) (sym (the_one w v there)) ∙ e
each_put_passes good Reserve w v e there = ap (only good) (sym (the_one w v there)) ∙ e
each_put_passes good FlexOutput w v e there = elements_pass good w e v there
each_put_passes good Input w v e there = absurd (not_in_nil v there)
each_put_passes good Test w v e there = absurd (not_in_nil v there)
each_put_passes good FlexInput w v e there = absurd (not_in_nil v there)
each_put_passes good Inhibit w v e there = absurd (not_in_nil v there)
each_put_passes good Clear w v e there = absurd (not_in_nil v there)

-- A value with its instances renamed passes where the new names of passing instances do.
module _ (before good : InstRef → Bool) (name : InstRef → InstRef) (renames : (i : InstRef) → before i ≡ true → good (name i) ≡ true) where
  abbrev rename : Value → Value
  rename = replaced (λ i. Value.Inst (name i))

  abbrev RenamedPasses : Value → Type 0
  RenamedPasses v = only before v ≡ true → only good (rename v) ≡ true

  abbrev Part : Type 0
  Part = (v : Value) × RenamedPasses v

  parts_pass : (parts : List Part) → list_all (λ p. p) (map (only before) (map (λ e. e.0) parts)) ≡ true → list_all (λ p. p) (map (only good) (map rename (map (λ e. e.0) parts))) ≡ true
  parts_pass [] e = refl
  parts_pass (part ∷ parts) e =
      let both = both_true (only before part.0) (list_all (λ p. p) (map (only before) (map (λ e. e.0) parts))) e in
      true_both (only good (rename part.0)) (list_all (λ p. p) (map (only good) (map rename (map (λ e. e.0) parts)))) (part.1 both.0) (parts_pass parts both.1)

  abbrev LayerPasses : V.Value-F Value → Type 0
  LayerPasses x = only_step before (map-Value Value Bool (only before) x) ≡ true → only good (replaced_step (λ i. Value.Inst (name i)) (map-Value Value Value rename x)) ≡ true

  layer : (y : V.Value-F Part) → LayerPasses (map-Value Part Value (λ e. e.0) y)
  layer (V.Int n) e = only-Int good n
  layer (V.Text s) e = only-Text good s
  layer (V.Tuple parts) e = only-Tuple good (map rename (map (λ e. e.0) parts)) ∙ parts_pass parts e
  layer (V.List parts) e = only-List good (map rename (map (λ e. e.0) parts)) ∙ parts_pass parts e
  layer (V.Inst i) e = only-Inst good (name i) ∙ renames i e

  replaced_passes : (v : Value) → RenamedPasses v
  replaced_passes = ind-Value RenamedPasses (λ x y is e.
      ap (only good) (fold-roll-Value Value (replaced_step (λ i. Value.Inst (name i))) x) ∙ subst LayerPasses is (layer y) (sym (fold-roll-Value Bool (only_step before) x) ∙ e))

  -- a value that passed passes once its instances are renamed
  pub renamed_passes : (v : Value) → only before v ≡ true → only good (renamed_value v name) ≡ true
  renamed_passes v e = ap (only good) (renamed_is_replaced name v) ∙ replaced_passes v e

-- What nodes are read under after their actions.
pub record StaysSo (system : System) (step : ℕ) (nodes : List Node) (P : Node → Env → Type 0) : Type 0 where
  pub begins : (node : Node) → Contains nodes node → P node (record (env_of system node) { step = Some step })
  pub goes_on : (node : Node) (x : ℕ) (e : Expr) (v : Value) (env : Env) → Contains nodes node → Contains (transition_of system node).actions (Set x e) → P node env → worth e env ≡ Some v → P node (record env { pairs = (x, v) ∷ env.pairs })

where_defined : (defined : Bool) (a b : Acts) → (if defined then Some a else None) ≡ Some b → a ≡ b
where_defined true a b e = same_Some a b e
where_defined false a b e = absurd (let no : ⊥ = cc in no)

after_each : (P : Env → Type 0) (actions : List Action) → ((x : ℕ) (e : Expr) (v : Value) (env : Env) → Contains actions (Set x e) → P env → worth e env ≡ Some v → P (record env { pairs = (x, v) ∷ env.pairs })) →
    (so_far acts : Acts) → P so_far.env → after_actions actions so_far ≡ Some acts → P acts.env
after_each P [] f so_far acts p e = subst (λ a. P a.env) (same_Some so_far acts e) p
after_each P (Set x e ∷ actions) f so_far acts p is =
    option_and_then_some (λ v. after_actions actions (with_set x v so_far)) (worth e so_far.env) acts is (λ v value rest.
    after_each P actions (λ x2 e2 v2 env there. f x2 e2 v2 env (later (Set x e) (Set x2 e2) actions there)) (with_set x v so_far) acts (f x e v so_far.env (0, omega arith, refl) p value) rest)
after_each P (Print e ∷ actions) f so_far acts p is =
    option_and_then_some (λ v. after_actions actions (with_out v so_far)) (worth e so_far.env) acts is (λ v value rest.
    after_each P actions (λ x2 e2 v2 env there. f x2 e2 v2 env (later (Print e) (Set x2 e2) actions there)) (with_out v so_far) acts p rest)

module _ (system : System) (step : ℕ) (P : Node → Env → Type 0) where
  node_stays : (nodes : List Node) → StaysSo system step nodes P → (node : Node) (acts : Acts) → Contains nodes node → node_acts system step node ≡ Some acts → P node acts.env
  node_stays nodes s node acts there e =
      option_and_then_some (λ acts. if outputs_defined system node acts.env then Some acts else None) (after_actions (transition_of system node).actions (acts_before system step node)) acts e (λ a first rest.
      subst (λ b. P node b.env) (where_defined (outputs_defined system node a.env) a acts rest)
      (after_each (P node) (transition_of system node).actions (λ x e v env has. s.goes_on node x e v env there has) (acts_before system step node) a (s.begins node there) first))

  tail_stays : (node : Node) (nodes : List Node) → StaysSo system step (node ∷ nodes) P → StaysSo system step nodes P
  tail_stays node nodes s = record { begins = λ n there. s.begins n (later node n nodes there); goes_on = λ n x e v env there. s.goes_on n x e v env (later node n nodes there) }

  -- each reading is of a node that is there, and what stays so holds of it
  pub reading_stays : (nodes : List Node) → StaysSo system step nodes P → (acts : Effects) → all_effects system step nodes ≡ Some acts → (r : Reading) → Contains acts.read r → Contains nodes r.node × P r.node r.env
  reading_stays [] s acts e r there =
      let none = same_Some (record { read = []; outs = [] }) acts e in
      absurd (not_in_nil r (subst (λ a. Contains a.read r) (sym none) there))
  reading_stays (node ∷ nodes) s acts e r there =
      option_and_then_some (λ acts. option_map (effects_with node acts) (all_effects system step nodes)) (node_acts system step node) acts e (λ a first rest.
      option_map_some (effects_with node a) (all_effects system step nodes) acts rest (λ others come made.
      let P_of = λ (q : Reading). Contains (node ∷ nodes) q.node × P q.node q.env in
      let there_too : Contains ((record { node = node; env = a.env }) ∷ others.read) r = subst (λ a. Contains a.read r) (sym (same_Some (effects_with node a others) acts made)) there in
      first_or_later (record { node = node; env = a.env }) others.read r P_of ((0, omega arith, refl), node_stays (node ∷ nodes) s node a (0, omega arith, refl) first)
      (λ in_others. let found = reading_stays nodes (tail_stays node nodes s) others come r in_others in (later node r.node nodes found.0, found.1)) there_too))
    where
      first_or_later : (q : Reading) (qs : List Reading) (r : Reading) (Q : Reading → Type 0) → Q q → (Contains qs r → Q r) → Contains (q ∷ qs) r → Q r
      first_or_later q qs r Q here f (zero, h, e) = subst Q e here
      first_or_later q qs r Q here f (suc k, h, e) = f (k, omega (arith, h), e)

-- What holds of each value that is printed.
out_after : (P : Env → Type 0) (Q : Value → Type 0) (actions : List Action) → ((x : ℕ) (e : Expr) (v : Value) (env : Env) → Contains actions (Set x e) → P env → worth e env ≡ Some v → P (record env { pairs = (x, v) ∷ env.pairs })) →
    ((e : Expr) (v : Value) (env : Env) → Contains actions (Print e) → P env → worth e env ≡ Some v → Q v) →
    (so_far acts : Acts) → P so_far.env → ((v : Value) → Contains so_far.outs v → Q v) → after_actions actions so_far ≡ Some acts → (v : Value) → Contains acts.outs v → Q v
out_after P Q [] f g so_far acts p q is = subst (λ a. (v : Value) → Contains a.outs v → Q v) (same_Some so_far acts is) q
out_after P Q (Set x e ∷ actions) f g so_far acts p q is =
    option_and_then_some (λ v. after_actions actions (with_set x v so_far)) (worth e so_far.env) acts is (λ v value rest.
    out_after P Q actions (λ x2 e2 v2 env there. f x2 e2 v2 env (later (Set x e) (Set x2 e2) actions there)) (λ e2 v2 env there. g e2 v2 env (later (Set x e) (Print e2) actions there))
    (with_set x v so_far) acts (f x e v so_far.env (0, omega arith, refl) p value) q rest)
out_after P Q (Print e ∷ actions) f g so_far acts p q is =
    option_and_then_some (λ v. after_actions actions (with_out v so_far)) (worth e so_far.env) acts is (λ v value rest.
    out_after P Q actions (λ x2 e2 v2 env there. f x2 e2 v2 env (later (Print e) (Set x2 e2) actions there)) (λ e2 v2 env there. g e2 v2 env (later (Print e) (Print e2) actions there))
    (with_out v so_far) acts p (λ w there. elim (Contains-append_cases so_far.outs (v ∷ []) w there) as (λ _. Q w) [
      | inl before ↦ q w before
      | inr new ↦ subst Q (the_one v w new) (g e v so_far.env (0, omega arith, refl) p value)
    ]) rest)

module _ (system : System) (step : ℕ) (P : Node → Env → Type 0) (Q : Value → Type 0) where
  abbrev pub PrintsSo : List Node → Type 0
  PrintsSo nodes = (node : Node) (e : Expr) (v : Value) (env : Env) → Contains nodes node → Contains (transition_of system node).actions (Print e) → P node env → worth e env ≡ Some v → Q v

  node_prints : (nodes : List Node) → StaysSo system step nodes P → PrintsSo nodes → (node : Node) (acts : Acts) → Contains nodes node → node_acts system step node ≡ Some acts → (v : Value) → Contains acts.outs v → Q v
  node_prints nodes s prints node acts there e =
      option_and_then_some (λ acts. if outputs_defined system node acts.env then Some acts else None) (after_actions (transition_of system node).actions (acts_before system step node)) acts e (λ a first rest.
      subst (λ b. (v : Value) → Contains b.outs v → Q v) (where_defined (outputs_defined system node a.env) a acts rest)
      (out_after (P node) Q (transition_of system node).actions (λ x e v env has. s.goes_on node x e v env there has) (λ e v env has. prints node e v env there has) (acts_before system step node) a (s.begins node there) (λ v none. absurd (not_in_nil v none)) first))

  -- each value that is printed is so
  pub printed : (nodes : List Node) → StaysSo system step nodes P → PrintsSo nodes → (acts : Effects) → all_effects system step nodes ≡ Some acts → (v : Value) → Contains acts.outs v → Q v
  printed [] s prints acts e v there =
      let none = same_Some (record { read = []; outs = [] }) acts e in
      absurd (not_in_nil v (subst (λ a. Contains a.outs v) (sym none) there))
  printed (node ∷ nodes) s prints acts e v there =
      option_and_then_some (λ acts. option_map (effects_with node acts) (all_effects system step nodes)) (node_acts system step node) acts e (λ a first rest.
      option_map_some (effects_with node a) (all_effects system step nodes) acts rest (λ others come made.
      elim (Contains-append_cases a.outs others.outs v (subst (λ a. Contains a.outs v) (sym (same_Some (effects_with node a others) acts made)) there)) as (λ _. Q v) [
        | inl own ↦ node_prints (node ∷ nodes) s prints node a (0, omega arith, refl) first v own
        | inr behind ↦ printed nodes (tail_stays system step P node nodes s) (λ n e w env there. prints n e w env (later node n nodes there)) others come v behind
      ]))

-- Where a value comes from that is put.
pub record PutFrom (system : System) (read : List Reading) (inst : InstRef) (place : ℕ) (v : Value) : Type 0 where
  pub reading : Reading
  pub there : Contains read reading
  pub stands : reading.node.inst ≡ inst
  pub arc : NetArc
  pub arc_there : Contains (transition_of system reading.node).arcs arc
  pub place_is : arc.place ≡ place
  pub value : Value
  pub worth_is : worth arc.inscription reading.env ≡ Some value
  pub put : Contains (puts arc.kind value) v

arc_source : (env : Env) (place : ℕ) (arc : NetArc) (v : Value) (o : Option Value) (here : Bool) → nat_eq arc.place place ≡ here → worth arc.inscription env ≡ o → Contains (if here then option_map_or (puts arc.kind) o [] else []) v →
    (arc.place ≡ place) × ((w : Value) × (worth arc.inscription env ≡ Some w) × Contains (puts arc.kind w) v)
arc_source env place arc v o false e is there = absurd (not_in_nil v there)
arc_source env place arc v None true e is there = absurd (not_in_nil v there)
arc_source env place arc v (Some w) true e is there = (eqb-true arc.place place e, (w, is, there))

node_source : (system : System) (inst : InstRef) (place : ℕ) (r : Reading) (v : Value) (here : Bool) → is_eq (inst_cmp r.node.inst inst) ≡ here → Contains (if here then flat_map (asked_by_arc puts r.env place) (transition_of system r.node).arcs else []) v →
    (r.node.inst ≡ inst) × Contains (flat_map (asked_by_arc puts r.env place) (transition_of system r.node).arcs) v
node_source system inst place r v false e there = absurd (not_in_nil v there)
node_source system inst place r v true e there = (insts_apart r.node.inst inst ((Equal-is (inst_cmp r.node.inst inst)).0 e), there)

-- each value that is put comes from there
pub put_from : (system : System) (read : List Reading) (inst : InstRef) (place : ℕ) (v : Value) → Contains (asked_at puts system read inst place) v → PutFrom system read inst place v
put_from system read inst place v there =
    let r = flat_source (asked_by_node puts system inst place) read v there in
    let node = node_source system inst place r.0 v (is_eq (inst_cmp r.0.node.inst inst)) refl r.2 in
    let arc = flat_source (asked_by_arc puts r.0.env place) (transition_of system r.0.node).arcs v node.1 in
    let value = arc_source r.0.env place arc.0 v (worth arc.0.inscription r.0.env) (nat_eq arc.0.place place) refl refl arc.2 in
    record { reading = r.0; there = r.1; stands = node.0; arc = arc.0; arc_there = arc.1; place_is = value.0; value = value.1.0; worth_is = value.1.1; put = value.1.2 }

zip_passes : (good : InstRef → Bool) (xs : List ℕ) (vs : List Value) → ((v : Value) → Contains vs v → only good v ≡ true) → AllByRecursion (λ p. only good p.1 ≡ true) (zip xs vs)
zip_passes good [] vs f = tt
zip_passes good (x ∷ xs) [] f = tt
zip_passes good (x ∷ xs) (v ∷ vs) f = (f v (0, omega arith, refl), zip_passes good xs vs (λ w there. f w (later v w vs there)))

-- What a firing puts names passing instances, where those in the binding pass once they have their numbers.
module _ (system : System) (b : Binding) (next step : ℕ) (acts : Effects) (are : effects system b next step ≡ Some acts) (before good : InstRef → Bool)
    (renames : (i : InstRef) → before i ≡ true → good (numbered_inst (creations_of system b) next i) ≡ true)
    (insts_pass : (node : Node) → Contains b.nodes node → before node.inst ≡ true)
    (values_pass : (node : Node) (v : Value) → Contains b.nodes node → Contains node.values v → only before v ≡ true) where
  abbrev name : InstRef → InstRef
  name = numbered_inst (creations_of system b) next

  abbrev Env_passes : Node → Env → Type 0
  Env_passes node env = IsPassingEnv good env

  named_passes : (node : Node) → Contains b.nodes node → IsPassingEnv good (record (env_of system (renamed_node name node)) { step = Some step })
  named_passes node there = record {
    this = renames node.inst (insts_pass node there);
    pairs = zip_passes good (transition_of system node).vars (map (λ v. renamed_value v name) node.values)
        (λ v has. let from = map_source (λ v. renamed_value v name) node.values v has in ap (only good) (sym from.2) ∙ renamed_passes before good name renames from.0 (values_pass node from.0 there from.1));
  }

  begins : (node : Node) → Contains (named system b next).nodes node → IsPassingEnv good (record (env_of system node) { step = Some step })
  begins node there =
      let from = map_source (renamed_node name) b.nodes node there in
      subst (λ n. IsPassingEnv good (record (env_of system n) { step = Some step })) from.2 (named_passes from.0 from.1)

  stays : StaysSo system step (named system b next).nodes Env_passes
  stays = record {
    begins = begins;
    goes_on = λ node x e v env there has p value. record { this = p.this; pairs = (worth_passes good e env v p value, p.pairs) };
  }

  pub put_passes : (inst : InstRef) (place : ℕ) (v : Value) → Contains (asked_at puts system acts.read inst place) v → only good v ≡ true
  put_passes inst place v there =
      let from = put_from system acts.read inst place v there in
      let reading = reading_stays system step Env_passes (named system b next).nodes stays acts are from.reading from.there in
      each_put_passes good from.arc.kind from.value v (worth_passes good from.arc.inscription from.reading.env from.value reading.1 from.worth_is) from.put

  -- and so does what is printed
  pub outs_pass : (v : Value) → Contains acts.outs v → only good v ≡ true
  outs_pass v there = printed system step Env_passes (λ w. only good w ≡ true) (named system b next).nodes stays (λ node e w env has prints p value. worth_passes good e env w p value) acts are v there

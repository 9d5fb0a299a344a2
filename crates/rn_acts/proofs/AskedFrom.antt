-- Which arc asks what is asked of a place, and what it asks under the numbers of new instances.
use Rattle.std.proofs.Common.{◌≡◌, ℕ, Bool, true, false, List, [], ◌∷◌, map, refl, sym, ap, ◌∙◌, subst}
use Rattle.std.specs.Prelude.{Option, Some, None, Contains, nat_eq, zip, option_map, flat_map}
use Rattle.std.specs.Prelude.{if◌then◌else◌}
use Rattle.std.specs.Ordering.{is_eq}
use Rattle.std.specs.Option.{option_map_or}
use Rattle.std.specs.Cmp.{Equal-is}
use Rattle.std.proofs.lemmas.Bool.{eqb-true, eq-eqb}
use Rattle.std.proofs.lemmas.Option.{same_Some}
use Rattle.rn_value.specs.Order.{inst_cmp}
use Rattle.rn_value.specs.link.OrderLaws.{insts_apart}
use Rattle.rn_value.specs.declared.value.InstRef.{InstRef}
use Rattle.rn_value.specs.declared.value.InstRef.TheVariants.{Old}
use Rattle.rn_value.specs.declared.value.Value.{Value}
use Rattle.rn_model.specs.declared.system.System.{System}
use Rattle.rn_model.specs.declared.system.ArcKind.{ArcKind}
use Rattle.rn_model.specs.declared.system.NetArc.{NetArc}
use Rattle.rn_model.specs.declared.binding.Node.{Node}
use Rattle.rn_model.specs.declared.binding.Binding.{Binding}
use Rattle.rn_model.specs.Systems.{transition_of}
use Rattle.rn_model.specs.Evaluation.{Env, worth}
use Rattle.rn_model.specs.ExpressionLaws.{renamed_env}
use Rattle.rn_model.specs.Bindings.{env_of}
use Rattle.rn_model.specs.Demands.{Reading, readings, asked_by_arc, asked_by_node, asked_at}
use Rattle.rn_model.specs.Firing.{creations_of, named, numbered_inst, renamed_node}
use Rattle.rn_model.specs.Firing.{renamed_value}
use Rattle.rn_model.proofs.AskedValues.{contained_flat, flat_source, map_source, contained_mapped}
use Rattle.rn_model.proofs.AskedValues.{inst_itself}
use Rattle.rn_model.proofs.EnablingLemmas.{not_in_nil}
use Rattle.rn_model.proofs.RenamedReadings.{values_are_renamed}

module _ {A : Type 0} (pick : ArcKind → Value → List A) where
  -- something that an arc of a node asks, by the value of its inscription
  pub record AskedFrom (system : System) (read : List Reading) (inst : InstRef) (place : ℕ) (x : A)
      : Type 0 where
    pub reading : Reading
    pub there : Contains read reading
    pub stands : reading.node.inst ≡ inst
    pub arc : NetArc
    pub arc_there : Contains (transition_of system reading.node).arcs arc
    pub place_is : arc.place ≡ place
    pub value : Value
    pub worth_is : worth arc.inscription reading.env ≡ Some value
    pub picked : Contains (pick arc.kind value) x

  abbrev ByArc : Env → ℕ → NetArc → A → Type 0
  ByArc env place arc x =
      (arc.place ≡ place)
      × ((w : Value) × (worth arc.inscription env ≡ Some w) × Contains (pick arc.kind w) x)

  arc_source : (env : Env) (place : ℕ) (arc : NetArc) (x : A) (o : Option Value) (here : Bool) →
      nat_eq arc.place place ≡ here → worth arc.inscription env ≡ o →
      Contains (if here then option_map_or (pick arc.kind) o [] else []) x → ByArc env place arc x
  arc_source env place arc x o false e is there = absurd (not_in_nil x there)
  arc_source env place arc x None true e is there = absurd (not_in_nil x there)
  arc_source env place arc x (Some w) true e is there =
      (eqb-true arc.place place e, (w, is, there))

  abbrev by_arcs : System → ℕ → Reading → List A
  by_arcs system place r =
      flat_map (asked_by_arc pick r.env place) (transition_of system r.node).arcs

  node_source : (system : System) (inst : InstRef) (place : ℕ) (r : Reading) (x : A)
      (here : Bool) → is_eq (inst_cmp r.node.inst inst) ≡ here →
      Contains (if here then by_arcs system place r else []) x →
      (r.node.inst ≡ inst) × Contains (by_arcs system place r) x
  node_source system inst place r x false e there = absurd (not_in_nil x there)
  node_source system inst place r x true e there =
      (insts_apart r.node.inst inst ((Equal-is (inst_cmp r.node.inst inst)).0 e), there)

  -- what is asked of a place is asked by an arc of a node on its instance
  pub asked_from : (system : System) (read : List Reading) (inst : InstRef) (place : ℕ) (x : A) →
      Contains (asked_at pick system read inst place) x → AskedFrom system read inst place x
  asked_from system read inst place x there =
      let r = flat_source (asked_by_node pick system inst place) read x there in
      let node = node_source system inst place r.0 x (is_eq (inst_cmp r.0.node.inst inst)) refl r.2 in
      let arc = flat_source (asked_by_arc pick r.0.env place) (transition_of system r.0.node).arcs x node.1 in
      let value = arc_source r.0.env place arc.0 x (worth arc.0.inscription r.0.env) (nat_eq arc.0.place place) refl refl arc.2 in
      record {
        reading = r.0;
        there = r.1;
        stands = node.0;
        arc = arc.0;
        arc_there = arc.1;
        place_is = value.0;
        value = value.1.0;
        worth_is = value.1.1;
        picked = value.1.2;
      }

  -- what an arc of a node asks is asked of its place
  pub asked_to : (system : System) (b : Binding) (node : Node) (arc : NetArc) (value : Value) (x : A) →
      Contains b.nodes node → Contains (transition_of system node).arcs arc →
      worth arc.inscription (env_of system node) ≡ Some value → Contains (pick arc.kind value) x →
      Contains (asked_at pick system (readings system b) node.inst arc.place) x
  asked_to system b node arc value x there arc_there worth_is picked =
      let r : Reading = record { node = node; env = env_of system node } in
      let same_place : nat_eq arc.place arc.place ≡ true = eq-eqb arc.place arc.place refl in
      let by_arc : Contains (asked_by_arc pick r.env arc.place arc) x =
      subst (λ here. Contains (if here then option_map_or (pick arc.kind) (worth arc.inscription r.env) [] else []) x)
      (sym same_place)
      (subst (λ o. Contains (option_map_or (pick arc.kind) o []) x) (sym worth_is) picked) in
      let by_node : Contains (asked_by_node pick system node.inst arc.place r) x =
      subst (λ here. Contains (if here then by_arcs system arc.place r else []) x)
      (sym (inst_itself node.inst))
      (contained_flat (asked_by_arc pick r.env arc.place) (transition_of system node).arcs arc x arc_there by_arc) in
      contained_flat (asked_by_node pick system node.inst arc.place) (readings system b) r x
      (contained_mapped (λ n. let r : Reading = record { node = n; env = env_of system n } in r) b.nodes node there) by_node

-- Under the numbers of new instances.
module _ (system : System) (b : Binding) (next : ℕ) where
  abbrev name : InstRef → InstRef
  name = numbered_inst (creations_of system b) next

  renamed_pairs : (xs : List ℕ) (vs : List Value) →
      zip xs (map (λ v. renamed_value v name) vs)
      ≡ map (λ p. (p.0, renamed_value p.1 name)) (zip xs vs)
  renamed_pairs [] vs = refl
  renamed_pairs (x ∷ xs) [] = refl
  renamed_pairs (x ∷ xs) (v ∷ vs) =
      ap (λ ps. (x, renamed_value v name) ∷ ps) (renamed_pairs xs vs)

  env_is_renamed : (node : Node) →
      env_of system (renamed_node name node) ≡ renamed_env name (env_of system node)
  env_is_renamed node =
      ap (λ ps. let env : Env = record { this = name node.inst; step = None; pairs = ps } in env)
      (renamed_pairs (transition_of system node).vars node.values)

  -- a node with numbers is a node of the binding
  pub record NumberedFrom (node : Node) : Type 0 where
    pub first : Node
    pub there : Contains b.nodes first
    pub is : renamed_node name first ≡ node

  pub numbered_from : (node : Node) → Contains (named system b next).nodes node →
      NumberedFrom node
  numbered_from node there =
      let from = map_source (renamed_node name) b.nodes node there in
      record { first = from.0; there = from.1; is = from.2 }

  some_renamed : (o : Option Value) (w : Value) →
      option_map (λ v. renamed_value v name) o ≡ Some w →
      (v : Value) × (o ≡ Some v) × (renamed_value v name ≡ w)
  some_renamed None w e = absurd (let no : ⊥ = cc in no)
  some_renamed (Some v) w e = (v, refl, same_Some (renamed_value v name) w e)

  module _ {A : Type 0} (pick : ArcKind → Value → List A) (new : A → A)
      (commutes : (kind : ArcKind) (v : Value) →
      pick kind (renamed_value v name) ≡ map new (pick kind v)) where
    -- what a node asks under numbers, some node of the binding asks without them
    pub record AskedBefore (n place : ℕ) (x : A) : Type 0 where
      pub node : Node
      pub there : Contains b.nodes node
      pub stands : name node.inst ≡ Old n
      pub asked : A
      pub at : Contains (asked_at pick system (readings system b) node.inst place) asked
      pub is : new asked ≡ x

    pub asked_before : (n place : ℕ) (x : A) →
        Contains (asked_at pick system (readings system (named system b next)) (Old n) place) x →
        AskedBefore n place x
    asked_before n place x asked =
        let from = asked_from pick system (readings system (named system b next)) (Old n) place x asked in
        let at = map_source (λ n. let r : Reading = record { node = n; env = env_of system n } in r) (named system b next).nodes from.reading from.there in
        let first = numbered_from at.0 at.1 in
        let reads : from.reading.env ≡ renamed_env name (env_of system first.first) =
        ap (λ (r : Reading). r.env) (sym at.2) ∙ ap (env_of system) (sym first.is) ∙ env_is_renamed first.first in
        let node_is : from.reading.node ≡ renamed_node name first.first = ap (λ (r : Reading). r.node) (sym at.2) ∙ sym first.is in
        let value = some_renamed (worth from.arc.inscription (env_of system first.first)) from.value
        (sym (values_are_renamed name from.arc.inscription (env_of system first.first)) ∙ ap (worth from.arc.inscription) (sym reads) ∙ from.worth_is) in
        let picked = map_source new (pick from.arc.kind value.0) x
        (subst (λ xs. Contains xs x) (commutes from.arc.kind value.0) (subst (λ w. Contains (pick from.arc.kind w) x) (sym value.2) from.picked)) in
        let arc_there : Contains (transition_of system first.first).arcs from.arc = subst (λ n. Contains (transition_of system n).arcs from.arc) node_is from.arc_there in
        record {
          node = first.first;
          there = first.there;
          stands = ap (λ n. n.inst) (sym node_is) ∙ from.stands;
          asked = picked.0;
          at = subst (λ p. Contains (asked_at pick system (readings system b) first.first.inst p) picked.0) from.place_is
              (asked_to pick system b first.first from.arc value.0 picked.0 first.there arc_there value.1 picked.1);
          is = picked.2;
        }

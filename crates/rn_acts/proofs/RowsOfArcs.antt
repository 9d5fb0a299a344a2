-- Rows stand at places that arcs of nodes name.
use Rattle.std.proofs.Common.{◌≡◌, ℕ, List, [], ◌∷◌, refl, sym, ap, ◌∙◌, subst, arith}
use Rattle.std.specs.Prelude.{Option, Some, None, All, Contains, IfSome, filter, flat_map, option_map}
use Rattle.std.proofs.lemmas.List.Elements.{All-from_recursion}
use Rattle.rn_value.specs.declared.value.InstRef.{InstRef}
use Rattle.rn_value.specs.declared.value.InstRef.TheVariants.{Old, New}
use Rattle.rn_value.specs.declared.value.Value.{Value}
use Rattle.rn_model.specs.declared.system.System.{System}
use Rattle.rn_model.specs.declared.system.ArcKind.{ArcKind}
use Rattle.rn_model.specs.declared.binding.Node.{Node}
use Rattle.rn_model.specs.declared.binding.Binding.{Binding}
use Rattle.rn_model.specs.Systems.{transition_of}
use Rattle.rn_model.specs.Evaluation.{Env}
use Rattle.rn_model.specs.Bindings.{env_of}
use Rattle.rn_model.specs.Demands.{Reading, readings, asked_at, takes, clears, taken_at}
use Rattle.rn_model.specs.Firing.{Effects, all_effects}
use Rattle.rn_model.proofs.AskedValues.{contained_mapped, flat_source, from_ordered, map_source}
use Rattle.rn_model.proofs.EnablingLemmas.{not_in_nil, the_one}
use Rattle.rn_model.proofs.PutValues.{StaysSo, reading_stays}
use Rattle.rn_model.proofs.ReadConditions.{each_in}
use Rattle.rn_arcs.proofs.PlaceOrder.{at_itself}
use Rattle.rn_arcs.specs.Demanded.{AreTakingsOf, one_row, row_place, rows_at}
use Rattle.rn_arcs.specs.Places.{is_at}
use Rattle.rn_arcs.specs.declared.demands.Place2.{Place2}
use Rattle.rn_arcs.specs.declared.demands.Takings.{Takings}
use Rattle.rn_table.specs.declared.change.Row.{Row}
use Rattle.rn_acts.specs.Acted.{AreOfArcs, IsOfArc}
use Rattle.rn_acts.specs.link.Acted.{arc_rows, node_rows, nothing, row_of, with_effects}
use Rattle.rn_acts.specs.link.ChangeRows.{numbered_row, row_at}
use Rattle.rn_acts.specs.declared.acts.Acted.{Acted}
use Rattle.rn_acts.proofs.AskedFrom.{asked_from}
use Rattle.rn_items.proofs.Lists.{in_filter}

-- what is true of each element is true of all
pub all_in : {X : Type 0} (P : X → Type 0) (xs : List X) → ((x : X) → Contains xs x → P x) → All P xs
all_in P xs each = All-from_recursion P xs (each_in P xs each)

-- Rows of demands.
module _ (system : System) (b : Binding) where
  module _ {A : Type 0} (pick : ArcKind → Value → List A) where
    of_asked : (row : Row) (x : A) →
        Contains (asked_at pick system (readings system b) (Old row.inst) row.place) x →
        IsOfArc system b.nodes row
    of_asked row x asked =
        let from = asked_from pick system (readings system b) (Old row.inst) row.place x asked in
        let at = map_source (λ n. let r : Reading = record { node = n; env = env_of system n } in r) b.nodes from.reading from.there in
        record {
          node = from.reading.node;
          there = subst (Contains b.nodes) (ap (λ (r : Reading). r.node) at.2) at.1;
          stands = from.stands;
          arc = from.arc;
          arc_there = from.arc_there;
          place = from.place_is;
        }

  abbrev as_place : Row → Place2
  as_place row = record { inst = Old row.inst; place = row.place; values = row.values }

  numbered_is : (row : Row) (r : Place2) (i : InstRef) → r.inst ≡ i →
      Contains (row_at i r.place r.values) row → r ≡ as_place row
  numbered_is row r (Old n) e there =
      let one : Row = record { inst = n; place = r.place; values = r.values } in
      ap (λ i. let p : Place2 = record { inst = i; place = r.place; values = r.values } in p) e
      ∙ ap as_place (the_one one row there)
  numbered_is row r (New path j) e there = absurd (not_in_nil row there)

  -- a row with a number, among those of its place
  row_source : (rows : List Place2) (row : Row) → Contains (flat_map numbered_row rows) row →
      Contains (rows_at rows (Old row.inst) row.place) row.values
  row_source rows row there =
      let from = flat_source numbered_row rows row there in
      let r = from.0 in
      let kept = in_filter (λ s. is_at (r.inst, r.place) (row_place s)) rows r from.1 (at_itself (r.inst, r.place)) in
      subst (λ (r : Place2). Contains (rows_at rows r.inst r.place) r.values)
      (numbered_is row r r.inst refl from.2)
      (contained_mapped (λ (r : Place2). r.values) (filter (λ s. is_at (r.inst, r.place) (row_place s)) rows) r kept)

  in_one_row : (vs us : List Value) → Contains (one_row vs) us → (v : Value) × Contains vs v
  in_one_row [] us there = absurd (not_in_nil us there)
  in_one_row (v ∷ vs) us there = (v, (0, omega arith, refl))

  pub taken_of_arcs : (d : Takings) (rows : List Row) → AreTakingsOf system b d →
      rows ≡ flat_map numbered_row d.taken → AreOfArcs system b.nodes rows
  taken_of_arcs d rows are is = all_in (IsOfArc system b.nodes) rows (λ row there.
      let listed = row_source d.taken row (subst (λ rs. Contains rs row) is there) in
      let some = in_one_row (taken_at system b (Old row.inst) row.place) row.values
      (subst (λ vss. Contains vss row.values) (are.taken.exact (Old row.inst) row.place) listed) in
      of_asked takes row some.0 (from_ordered some.0 (asked_at takes system (readings system b) (Old row.inst) row.place) some.1))

  pub cleared_of_arcs : (d : Takings) (rows : List Row) → AreTakingsOf system b d →
      rows ≡ flat_map numbered_row d.cleared → AreOfArcs system b.nodes rows
  cleared_of_arcs d rows are is = all_in (IsOfArc system b.nodes) rows (λ row there.
      let listed = row_source d.cleared row (subst (λ rs. Contains rs row) is there) in
      of_asked clears row row.values
      (subst (λ vss. Contains vss row.values) (are.cleared.exact (Old row.inst) row.place) listed))

-- Rows of what is put.
module _ (system : System) (step : ℕ) where
  abbrev OwnRead : Node → Env → Type 0
  OwnRead node env = env.this ≡ node.inst

  own_read : (nodes : List Node) → StaysSo system step nodes OwnRead
  own_read nodes = record {
    begins = λ node there. refl;
    goes_on = λ node x e v env there has before value. before;
  }

  row_is : (inst : InstRef) (place : ℕ) (vs : List Value) (row : Row) →
      Contains (row_of inst place vs) row → (inst ≡ Old row.inst) × (place ≡ row.place)
  row_is (Old n) place [] row there = absurd (not_in_nil row there)
  row_is (Old n) place (v ∷ vs) row there =
      let same = the_one _ row there in
      (ap (λ (r : Row). Old r.inst) same, ap (λ (r : Row). r.place) same)
  row_is (New path j) place vs row there = absurd (not_in_nil row there)

  rows_of_arcs : (nodes : List Node) (fx : Effects) → all_effects system step nodes ≡ Some fx →
      AreOfArcs system nodes (flat_map (λ r. node_rows system r.node r.env) fx.read)
  rows_of_arcs nodes fx are = all_in (IsOfArc system nodes) _ (λ row there.
      let r = flat_source (λ (r : Reading). node_rows system r.node r.env) fx.read row there in
      let own = reading_stays system step OwnRead nodes (own_read nodes) fx are r.0 r.1 in
      let arc = flat_source (arc_rows r.0.env) (transition_of system r.0.node).arcs row r.2 in
      let is = row_is r.0.env.this arc.0.place _ row arc.2 in
      record {
        node = r.0.node;
        there = own.0;
        stands = sym own.1 ∙ is.0;
        arc = arc.0;
        arc_there = arc.1;
        place = is.1;
      })

  pub put_of_arcs : (nodes : List Node) (acted : Option Acted) →
      acted ≡ option_map (with_effects system nothing) (all_effects system step nodes) →
      IfSome acted (λ a. AreOfArcs system nodes a.put)
  put_of_arcs nodes acted is = by_effects acted (all_effects system step nodes) refl is
    where
      by_effects : (acted : Option Acted) (o : Option Effects) → all_effects system step nodes ≡ o →
          acted ≡ option_map (with_effects system nothing) o → IfSome acted (λ a. AreOfArcs system nodes a.put)
      by_effects acted None are is = subst (λ a. IfSome a (λ a. AreOfArcs system nodes a.put)) (sym is) tt
      by_effects acted (Some fx) are is =
          subst (λ a. IfSome a (λ a. AreOfArcs system nodes a.put)) (sym is) (rows_of_arcs nodes fx are)

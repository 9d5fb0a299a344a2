-- A start that calls nothing needs room for what its own arcs put.
use Rattle.std.proofs.Common.{◌≡◌, ℕ, ◌+◌, ◌≤◌, Bool, true, false, ◌&&◌, not, List, [], ◌∷◌, ◌++◌}
use Rattle.std.proofs.Common.{map, length, length-append, refl, sym, ap, ◌∙◌, subst, arith}
use Rattle.std.specs.Prelude.{Option, Some, None, Contains, count_by, filter, flat_map, nat_eq}
use Rattle.std.specs.Prelude.{if◌then◌else◌}
use Rattle.std.specs.List.{list_all}
use Rattle.std.specs.Option.{option_map_or}
use Rattle.std.specs.Ordering.{is_eq}
use Rattle.std.proofs.lemmas.Bool.{not-true}
use Rattle.std.proofs.lemmas.List.{append-nil}
use Rattle.std.proofs.lemmas.List.Elements.{All-contains}
use Rattle.std.proofs.lemmas.List.Sums.{sum_by-cons, length-filter}
use Rattle.rn_items.proofs.Bools.{both_true}
use Rattle.rn_value.specs.Order.{inst_cmp}
use Rattle.rn_value.specs.declared.value.InstRef.TheVariants.{Old}
use Rattle.rn_value.specs.declared.value.Value.{Value}
use Rattle.rn_model.specs.declared.system.System.{System}
use Rattle.rn_model.specs.declared.system.Transition.{Transition}
use Rattle.rn_model.specs.declared.system.ArcKind.{ArcKind}
use Rattle.rn_model.specs.declared.system.ArcKind.TheVariants.{Input, Output, Test, Reserve}
use Rattle.rn_model.specs.declared.system.ArcKind.TheVariants.{FlexInput, FlexOutput, Inhibit}
use Rattle.rn_model.specs.declared.system.ArcKind.TheVariants.{Clear}
use Rattle.rn_model.specs.declared.system.NetArc.{NetArc}
use Rattle.rn_model.specs.declared.binding.Node.{Node}
use Rattle.rn_model.specs.declared.binding.Binding.{Binding}
use Rattle.rn_model.specs.Systems.{transition_of, holds_action_var, is_out, is_output}
use Rattle.rn_model.specs.Systems.{puts_awaited}
use Rattle.rn_model.specs.Evaluation.{worth}
use Rattle.rn_model.specs.Bindings.{env_of}
use Rattle.rn_model.specs.Agreement.{ArcAgrees, NodeAgrees}
use Rattle.rn_model.specs.Demands.{Reading, readings, takes, puts, clears, asked_by_arc, asked_at}
use Rattle.rn_model.specs.Demands.{asked_by_node, awaited_by_node, cleared_at}
use Rattle.rn_model.specs.Enabling.{HasRoom, held_after}
use Rattle.rn_model.specs.RoomLaws.{takes_one, puts_one, moves_list}
use Rattle.rn_model.specs.RoomLaws.{StartsFindRoom}
use Rattle.rn_model.proofs.AskedValues.{inst_itself, later}
use Rattle.rn_model.proofs.LengthsByCounts.{ordered_length}
use Rattle.rn_model.proofs.SingleNodes.{start_alone}
use Rattle.rn_model.proofs.ValueLists.{one_if}

-- What one arc asks, by its kind and its inscription's value.
abbrev asked_of : {A : Type 0} → (ArcKind → Value → List A) → ArcKind → Option Value → List A
asked_of pick kind o = option_map_or (pick kind) o []

-- a plain arc takes at most one, where it takes one
kind_takes : (kind : ArcKind) (o : Option Value) → moves_list kind ≡ false →
    length (asked_of takes kind o) ≤ one_if (takes_one kind)
kind_takes Input None plain = omega arith
kind_takes Input (Some v) plain = omega arith
kind_takes Reserve None plain = omega arith
kind_takes Reserve (Some v) plain = omega arith
kind_takes Output None plain = omega arith
kind_takes Output (Some v) plain = omega arith
kind_takes Test None plain = omega arith
kind_takes Test (Some v) plain = omega arith
kind_takes Inhibit None plain = omega arith
kind_takes Inhibit (Some v) plain = omega arith
kind_takes FlexInput o plain = let no : ⊥ = cc in absurd no
kind_takes FlexOutput o plain = let no : ⊥ = cc in absurd no
kind_takes Clear o plain = let no : ⊥ = cc in absurd no

-- it clears nothing
kind_clears : (kind : ArcKind) (o : Option Value) → moves_list kind ≡ false →
    asked_of clears kind o ≡ []
kind_clears Input None plain = refl
kind_clears Input (Some v) plain = refl
kind_clears Reserve None plain = refl
kind_clears Reserve (Some v) plain = refl
kind_clears Output None plain = refl
kind_clears Output (Some v) plain = refl
kind_clears Test None plain = refl
kind_clears Test (Some v) plain = refl
kind_clears Inhibit None plain = refl
kind_clears Inhibit (Some v) plain = refl
kind_clears FlexInput o plain = let no : ⊥ = cc in absurd no
kind_clears FlexOutput o plain = let no : ⊥ = cc in absurd no
kind_clears Clear o plain = let no : ⊥ = cc in absurd no

-- an arc that puts one has a value, or awaits an action
kind_puts : (kind : ArcKind) (held : Bool) (o : Option Value) →
    (is_output kind && held ≡ false → (v : Value) × (o ≡ Some v)) →
    one_if (puts_one kind) ≤ length (asked_of puts kind o) + one_if (is_out kind && held)
kind_puts Output true o has = omega arith
kind_puts Output false o has =
    let is = (has refl).1 in
    let one : length (asked_of puts Output o) ≡ 1 = ap (λ o. length (asked_of puts Output o)) is in
    omega (arith, one)
kind_puts Reserve held o has =
    let is = (has refl).1 in
    let one : length (asked_of puts Reserve o) ≡ 1 =
    ap (λ o. length (asked_of puts Reserve o)) is in
    omega (arith, one)
kind_puts Input held o has = omega arith
kind_puts Test held o has = omega arith
kind_puts Inhibit held o has = omega arith
kind_puts FlexInput held o has = omega arith
kind_puts FlexOutput held o has = omega arith
kind_puts Clear held o has = omega arith

-- The arcs of a node at a place.
module _ (system : System) (node : Node) (place : ℕ) where
  abbrev t : Transition
  t = transition_of system node

  abbrev asked : {A : Type 0} → (ArcKind → Value → List A) → NetArc → List A
  asked pick arc = asked_by_arc pick (env_of system node) place arc

  abbrev value_of : NetArc → Option Value
  value_of arc = worth arc.inscription (env_of system node)

  abbrev is_plain : NetArc → Bool
  is_plain arc = not (nat_eq arc.place place && moves_list arc.kind)

  abbrev takes_here : NetArc → Bool
  takes_here arc = nat_eq arc.place place && takes_one arc.kind

  abbrev puts_here : NetArc → Bool
  puts_here arc = nat_eq arc.place place && puts_one arc.kind

  abbrev awaited_here : NetArc → Bool
  awaited_here arc = nat_eq arc.place place && puts_awaited t arc

  arc_takes : (arc : NetArc) → is_plain arc ≡ true →
      length (asked takes arc) ≤ one_if (takes_here arc)
  arc_takes arc plain = by (nat_eq arc.place place) plain
    where
      by : (here : Bool) → not (here && moves_list arc.kind) ≡ true →
          length (if here then asked_of takes arc.kind (value_of arc) else [])
          ≤ one_if (here && takes_one arc.kind)
      by true plain = kind_takes arc.kind (value_of arc) (not-true (moves_list arc.kind) plain)
      by false plain = omega arith

  arc_clears : (arc : NetArc) → is_plain arc ≡ true → asked clears arc ≡ []
  arc_clears arc plain = by (nat_eq arc.place place) plain
    where
      by : (here : Bool) → not (here && moves_list arc.kind) ≡ true →
          (if here then asked_of clears arc.kind (value_of arc) else []) ≡ []
      by true plain = kind_clears arc.kind (value_of arc) (not-true (moves_list arc.kind) plain)
      by false plain = refl

  arc_puts : (arc : NetArc) → ArcAgrees system node arc →
      one_if (puts_here arc) ≤ length (asked puts arc) + one_if (awaited_here arc)
  arc_puts arc agrees = by (nat_eq arc.place place)
    where
      by : (here : Bool) → one_if (here && puts_one arc.kind)
          ≤ length (if here then asked_of puts arc.kind (value_of arc) else [])
          + one_if (here && puts_awaited t arc)
      by true = kind_puts arc.kind (holds_action_var t arc.inscription) (value_of arc)
          (λ none. let has = agrees none in (has.0, has.1))
      by false = omega arith

  takes_bound : (arcs : List NetArc) → list_all is_plain arcs ≡ true →
      length (flat_map (asked takes) arcs) ≤ count_by takes_here arcs
  takes_bound [] plain = omega arith
  takes_bound (arc ∷ arcs) plain =
      let both = both_true (is_plain arc) (list_all is_plain arcs) plain in
      let first = arc_takes arc both.0 in
      let rest = takes_bound arcs both.1 in
      let joined = length-append (asked takes arc) (flat_map (asked takes) arcs) in
      let counted = sum_by-cons (λ arc. one_if (takes_here arc)) arc arcs in
      omega (arith, first, rest, joined, counted)

  none_cleared : (arcs : List NetArc) → list_all is_plain arcs ≡ true →
      flat_map (asked clears) arcs ≡ []
  none_cleared [] plain = refl
  none_cleared (arc ∷ arcs) plain =
      let both = both_true (is_plain arc) (list_all is_plain arcs) plain in
      ap (λ xs. xs ++ flat_map (asked clears) arcs) (arc_clears arc both.0)
      ∙ none_cleared arcs both.1

  puts_bound : (arcs : List NetArc) → ((arc : NetArc) → Contains arcs arc →
      ArcAgrees system node arc) → count_by puts_here arcs
      ≤ length (flat_map (asked puts) arcs) + count_by awaited_here arcs
  puts_bound [] agree = omega arith
  puts_bound (arc ∷ arcs) agree =
      let first = arc_puts arc (agree arc (0, omega arith, refl)) in
      let rest = puts_bound arcs (λ other there. agree other (later arc other arcs there)) in
      let joined = length-append (asked puts arc) (flat_map (asked puts) arcs) in
      let counted = sum_by-cons (λ arc. one_if (puts_here arc)) arc arcs in
      let also = sum_by-cons (λ arc. one_if (awaited_here arc)) arc arcs in
      omega (arith, first, rest, joined, counted, also)

-- A binding of one node asks what the arcs of that node ask.
module _ (system : System) (b : Binding) (node : Node) (n place : ℕ) (is : node.inst ≡ Old n)
    (alone : b.nodes ≡ node ∷ []) where
  abbrev its_arcs : List NetArc
  its_arcs = (transition_of system node).arcs

  abbrev reading : Node → Reading
  reading node = record { node = node; env = env_of system node }

  on_it : is_eq (inst_cmp node.inst (Old n)) ≡ true
  on_it = ap (λ i. is_eq (inst_cmp i (Old n))) is ∙ inst_itself (Old n)

  asked_alone : {A : Type 0} (pick : ArcKind → Value → List A) →
      asked_at pick system (readings system b) (Old n) place
      ≡ flat_map (asked_by_arc pick (env_of system node) place) its_arcs
  asked_alone pick =
      let own = flat_map (asked_by_arc pick (env_of system node) place) its_arcs in
      ap (λ nodes. flat_map (asked_by_node pick system (Old n) place) (map reading nodes)) alone
      ∙ ap (λ here. (if here then own else []) ++ []) on_it ∙ append-nil own

  awaited_alone : flat_map (awaited_by_node system (Old n) place) b.nodes
      ≡ filter (awaited_here system node place) its_arcs
  awaited_alone =
      let own = filter (awaited_here system node place) its_arcs in
      ap (flat_map (awaited_by_node system (Old n) place)) alone
      ∙ ap (λ here. (if here then own else []) ++ []) on_it ∙ append-nil own

-- the place of plain arcs of such a start has room for what they put, after what they take
pub starts_find_room : StartsFindRoom
starts_find_room system m b depth n place most node enabled at is none plain has =
    let alone = start_alone system b depth node enabled.shape at none in
    let there : Contains b.nodes node =
    subst (λ nodes. Contains nodes node) (sym alone) (0, omega arith, refl) in
    let arcs = (transition_of system node).arcs in
    let room = All-contains (HasRoom system m b) b.nodes node enabled.fits.room there in
    let after : held_after system m b n place ≤ most = room n place most is has in
    let agrees = All-contains (NodeAgrees system) b.nodes node enabled.agrees.nodes there in
    let taken = ordered_length (asked_at takes system (readings system b) (Old n) place)
    ∙ ap length (asked_alone system b node n place is alone takes) in
    let put = ordered_length (asked_at puts system (readings system b) (Old n) place)
    ∙ ap length (asked_alone system b node n place is alone puts) in
    let awaited = ap length (awaited_alone system b node n place is alone)
    ∙ length-filter (awaited_here system node place) arcs in
    let cleared : length (flat_map (λ vs. vs) (cleared_at system b (Old n) place)) ≡ 0 =
    ap (λ vss. length (flat_map (λ vs. vs) vss))
    (asked_alone system b node n place is alone clears
    ∙ none_cleared system node place arcs plain) in
    let takes_most = takes_bound system node place arcs plain in
    let puts_least = puts_bound system node place arcs
    (λ arc in_arcs. All-contains (ArcAgrees system node) arcs arc agrees.arcs in_arcs) in
    omega (arith, after, taken, put, awaited, cleared, takes_most, puts_least)

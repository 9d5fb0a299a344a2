-- Places have room after a firing exactly where none gets more tokens than its capacity.
use Rattle.std.proofs.Common.{◌≡◌, ℕ, zero, suc, ◌+◌, ◌-◌, ◌≤◌, Bool, true, false, ◌||◌, List, []}
use Rattle.std.proofs.Common.{◌∷◌, ◌++◌, length, map, refl, sym, ap, ◌∙◌, subst, arith}
use Rattle.std.specs.Prelude.{Option, None, Some, ◌↔◌, All, IsTrue, filter, is_some, slice_get}
use Rattle.std.specs.Prelude.{option_and_then}
use Rattle.std.specs.List.{flat_map, list_any, sum, sum_by, enumerate_from, AllByRecursion}
use Rattle.std.proofs.lemmas.Bool.{false≢true}
use Rattle.std.proofs.lemmas.List.{append-nil}
use Rattle.std.proofs.lemmas.List.Elements.{All-from_recursion, recursion_from_All}
use Rattle.std.proofs.lemmas.List.Sums.{sum-map}
use Rattle.rn_value.specs.declared.value.InstRef.{InstRef}
use Rattle.rn_value.specs.declared.value.InstRef.TheVariants.{Old, New}
use Rattle.rn_value.specs.declared.value.Value.{Value}
use Rattle.rn_model.specs.declared.system.System.{System}
use Rattle.rn_model.specs.declared.system.Place.{Place}
use Rattle.rn_model.specs.declared.system.Creation.{Creation}
use Rattle.rn_model.specs.declared.binding.Node.{Node}
use Rattle.rn_model.specs.declared.binding.Binding.{Binding}
use Rattle.rn_model.specs.Demands.{filled_at}
use Rattle.rn_model.specs.Enabling.{HasRoom, MadeHasRoom, held_after}
use Rattle.rn_model.specs.Firing.{Made, made_by, creations_of}
use Rattle.rn_model.specs.Markings.{Marking, tokens, tokens_at}
use Rattle.rn_model.specs.Systems.{net_at, transition_of, capacity}
use Rattle.rn_model.proofs.EachElement.{each_append}
use Rattle.rn_arcs.specs.Demanded.{HasFills, fill_place, one_count}
use Rattle.rn_arcs.specs.link.Groups.{AreAsked, place_of}
use Rattle.rn_arcs.specs.Places.{InstPlace, is_at}
use Rattle.rn_arcs.specs.link.Room.{net_is_limited, node_is_limited, remaining_in, filled_in, staying}
use Rattle.rn_arcs.specs.link.Room.{PlacesHaveRoom, NodeHasRoom, AllHaveRoom}
use Rattle.rn_arcs.specs.link.Seats.{seat_inst}
use Rattle.rn_arcs.specs.declared.asked.Asked.{Asked}
use Rattle.rn_arcs.specs.declared.demands.Fill.{Fill}
use Rattle.rn_arcs.specs.declared.room.Firing.{Firing}
use Rattle.rn_arcs.specs.declared.seat.Seat.{Seat}
use Rattle.rn_arcs.specs.declared.seat.Seat.TheVariants.{There}

none_before : (n : ℕ) → 0 + n ≡ n
none_before n = omega arith

-- the number of one row
sum_of_one : (n : ℕ) → sum (one_count n) ≡ n
sum_of_one zero = refl
sum_of_one (suc n) = none_before (suc n)

-- what holds of all of two lists holds of each
all_part : {X : Type 0} (P : X → Type 0) (xs ys : List X) → AllByRecursion P (xs ++ ys) →
    AllByRecursion P xs × AllByRecursion P ys
all_part P [] ys all = (tt, all)
all_part P (x ∷ xs) ys all =
    let parts = all_part P xs ys all.1 in
    ((all.0, parts.0), parts.1)

none_lost : (held : ℕ) → held ≡ held - (0 + 0)
none_lost held = omega arith

less_both : (held less left taken cleared : ℕ) → less ≡ held - taken → left ≡ less - cleared →
    left ≡ held - (taken + cleared)
less_both held less left taken cleared one other = omega (arith, one, other)

-- What remains of a place by the only one that asks of it, or by none.
module _ (gs : List Asked) (k : InstPlace) (held : ℕ) where
  abbrev remaining_by : List Asked → ℕ
  remaining_by hs =
      held - (length (flat_map (λ g. g.taken) hs)
      + length (flat_map (λ vs. vs) (flat_map (λ g. g.cleared) hs)))

  pub none_remaining : filter (λ g. is_at k (place_of g)) gs ≡ [] → held ≡ remaining_in gs k held
  none_remaining none =
      none_lost held ∙ ap remaining_by (sym none)

  pub some_remaining : (g : Asked) (less left : ℕ) (lists : List (List Value)) →
      filter (λ g. is_at k (place_of g)) gs ≡ g ∷ [] → less ≡ held - length g.taken →
      left ≡ less - length (flat_map (λ vs. vs) lists) → lists ≡ g.cleared →
      left ≡ remaining_in gs k held
  some_remaining g less left lists only taken cleared are =
      less_both held less left (length g.taken) (length (flat_map (λ vs. vs) g.cleared)) taken
      (cleared ∙ ap (λ vss. less - length (flat_map (λ vs. vs) vss)) are)
      ∙ ap (λ vs. held - (length vs + length (flat_map (λ us. us) g.cleared)))
      (sym (append-nil g.taken))
      ∙ ap (λ vss. held - (length (g.taken ++ []) + length (flat_map (λ us. us) vss)))
      (sym (append-nil g.cleared))
      ∙ ap remaining_by (sym only)

-- what is put at a place by its only row, or by none
pub none_filled : (fs : List Fill) (k : InstPlace) →
    filter (λ f. is_at k (fill_place f)) fs ≡ [] → 0 ≡ filled_in fs k
none_filled fs k none = sym (ap (sum_by (λ f. f.count)) none)

pub some_filled : (fs : List Fill) (k : InstPlace) (f : Fill) →
    filter (λ f. is_at k (fill_place f)) fs ≡ f ∷ [] → f.count ≡ filled_in fs k
some_filled fs k f only =
    sym (none_before f.count) ∙ sym (ap (sum_by (λ f. f.count)) only)

-- what stays at a place, by where it is
module _ (f : Firing) (s : Seat) (place : ℕ) (p : Place) where
  pub there_stays : (n : ℕ) → s ≡ There n →
      remaining_in f.asked.now (seat_inst s, place)
      (length (tokens_at f.table.now.marking n place))
      ≡ staying f (seat_inst s) place p
  there_stays n is =
      subst (λ t. remaining_in f.asked.now (seat_inst t, place)
      (length (tokens_at f.table.now.marking n place))
      ≡ staying f (seat_inst t) place p) (sym is) refl

-- the place that has a capacity
has_max : (o : Option Place) (most : ℕ) → option_and_then (λ p. p.max) o ≡ Some most →
    (p : Place) × (o ≡ Some p) × (p.max ≡ Some most)
has_max None most e = let no : ⊥ = cc in absurd no
has_max (Some p) most e = (p, refl, e)

module _ (f : Firing) (b : Binding) (asked : AreAsked false f.system.now b f.asked.now)
    (fills : HasFills f.fills.now (filled_at f.system.now b)) where
  abbrev m : Marking
  m = f.table.now.marking

  abbrev rows_in : InstPlace → List Fill
  rows_in k = filter (λ r. is_at k (fill_place r)) f.fills.now

  filled_is : (inst : InstRef) (place : ℕ) →
      filled_in f.fills.now (inst, place) ≡ filled_at f.system.now b inst place
  filled_is inst place =
      sym (sum-map (λ r. r.count) (rows_in (inst, place)))
      ∙ ap sum (fills.exact inst place)
      ∙ sum_of_one (filled_at f.system.now b inst place)

  held_is : (n place : ℕ) (p : Place) →
      staying f (Old n) place p + filled_in f.fills.now (Old n, place)
      ≡ held_after f.system.now m b n place
  held_is n place p =
      let k : InstPlace = (Old n, place) in
      let count = length (tokens m (Old n) place) in
      (λ i. (count - (length (asked.taken k i)
      + length (flat_map (λ vs. vs) (asked.cleared k i)))) + filled_is (Old n) place i)

  made_is : (path : List ℕ) (j place : ℕ) (p : Place) →
      staying f (New path j) place p + filled_in f.fills.now (New path j, place)
      ≡ length p.initial + filled_at f.system.now b (New path j) place
  made_is path j place p = ap (λ n. length p.initial + n) (filled_is (New path j) place)

  -- a node's own instance
  abbrev OwnHasRoom : Node → Type 0
  OwnHasRoom node = (n : ℕ) → node.inst ≡ Old n → PlacesHaveRoom f node.net (Old n)

  own_room : (node : Node) → OwnHasRoom node → HasRoom f.system.now m b node
  own_room node own n place most e cap =
      by_place (has_max (slice_get (net_at f.system.now node.net).places place) most cap)
    where
      by_place : (p : Place)
          × (slice_get (net_at f.system.now node.net).places place ≡ Some p)
          × (p.max ≡ Some most) → held_after f.system.now m b n place ≤ most
      by_place (p, there, limit) =
          subst (λ held. held ≤ most) (held_is n place p) (own n e place p there most limit)

  room_own : (node : Node) → HasRoom f.system.now m b node → OwnHasRoom node
  room_own node room n e place p there most limit =
      subst (λ held. held ≤ most) (sym (held_is n place p))
      (room n place most e (ap (option_and_then (λ p. p.max)) there ∙ limit))

  -- the instances that a node makes
  abbrev made_from : List ℕ → ℕ → List Creation → List Made
  made_from path n cs =
      map (λ c. record { path = path; index = c.0; net = c.1.net }) (enumerate_from n cs)

  abbrev HaveRoomFrom : List ℕ → ℕ → List Creation → Type 0
  HaveRoomFrom path n cs =
      (j : ℕ) (c : Creation) → slice_get cs j ≡ Some c → PlacesHaveRoom f c.net (New path (n + j))

  all_made : (path : List ℕ) (n : ℕ) (cs : List Creation) → HaveRoomFrom path n cs →
      AllByRecursion (MadeHasRoom f.system.now b) (made_from path n cs)
  all_made path n [] each = tt
  all_made path n (c ∷ cs) each = (
    λ place p most there limit.
        let here : n + 0 ≡ n = omega arith in
        subst (λ held. held ≤ most) (made_is path n place p)
        (subst (λ j. PlacesHaveRoom f c.net (New path j)) here (each 0 c refl)
        place p there most limit),
    all_made path (n + 1) cs
        (λ j d at. let next : n + suc j ≡ (n + 1) + j = omega arith in
        subst (λ i. PlacesHaveRoom f d.net (New path i)) next (each (suc j) d at)),
  )

  each_made : (path : List ℕ) (n : ℕ) (cs : List Creation) →
      AllByRecursion (MadeHasRoom f.system.now b) (made_from path n cs) → HaveRoomFrom path n cs
  each_made path n [] all j c at = let no : ⊥ = cc in absurd no
  each_made path n (c ∷ cs) all zero d at = λ place p there most limit.
      let same : c ≡ d = cc in
      let here : n ≡ n + 0 = omega arith in
      let own : slice_get (net_at f.system.now c.net).places place ≡ Some p =
      ap (λ c. slice_get (net_at f.system.now c.net).places place) same ∙ there in
      subst (λ i. staying f (New path i) place p + filled_in f.fills.now (New path i, place)
      ≤ most) here
      (subst (λ held. held ≤ most) (sym (made_is path n place p)) (all.0 place p most own limit))
  each_made path n (c ∷ cs) all (suc j) d at =
      let next : (n + 1) + j ≡ n + suc j = omega arith in
      subst (λ i. PlacesHaveRoom f d.net (New path i)) next
      (each_made path (n + 1) cs all.1 j d at)

  -- each node
  nodes_room : (nodes : List Node) → AllByRecursion (NodeHasRoom f) nodes →
      AllByRecursion (HasRoom f.system.now m b) nodes
      × AllByRecursion (MadeHasRoom f.system.now b) (flat_map (made_by f.system.now) nodes)
  nodes_room [] all = (tt, tt)
  nodes_room (node ∷ nodes) all =
      let rest = nodes_room nodes all.1 in
      let cs = (transition_of f.system.now node).creations in (
        (own_room node all.0.0, rest.0),
        each_append (MadeHasRoom f.system.now b) (made_by f.system.now node)
            (flat_map (made_by f.system.now) nodes)
            (all_made node.path 0 cs
            (λ j c at. subst (λ i. PlacesHaveRoom f c.net (New node.path i)) (sym (none_before j))
            (all.0.1 j c at)))
            rest.1,
      )

  room_nodes : (nodes : List Node) → AllByRecursion (HasRoom f.system.now m b) nodes →
      AllByRecursion (MadeHasRoom f.system.now b) (flat_map (made_by f.system.now) nodes) →
      AllByRecursion (NodeHasRoom f) nodes
  room_nodes [] rooms made = tt
  room_nodes (node ∷ nodes) rooms made =
      let parts = all_part (MadeHasRoom f.system.now b) (made_by f.system.now node)
      (flat_map (made_by f.system.now) nodes) made in
      let cs = (transition_of f.system.now node).creations in (
        (
          room_own node rooms.0,
          λ j c at. subst (λ i. PlacesHaveRoom f c.net (New node.path i)) (none_before j)
              (each_made node.path 0 cs parts.0 j c at),
        ),
        room_nodes nodes rooms.1 parts.1,
      )

  pub room_exactly : (r : Bool) → IsTrue r ↔ All (NodeHasRoom f) b.nodes →
      IsTrue r ↔ AllHaveRoom f.system.now m b
  room_exactly r both = (
    λ yes.
        let parts = nodes_room b.nodes (recursion_from_All (NodeHasRoom f) b.nodes (both.0 yes)) in (
          All-from_recursion (HasRoom f.system.now m b) b.nodes parts.0,
          All-from_recursion (MadeHasRoom f.system.now b) (creations_of f.system.now b) parts.1,
        ),
    λ rooms.
        both.1 (All-from_recursion (NodeHasRoom f) b.nodes
        (room_nodes b.nodes (recursion_from_All (HasRoom f.system.now m b) b.nodes rooms.0)
        (recursion_from_All (MadeHasRoom f.system.now b) (creations_of f.system.now b) rooms.1))),
  )

-- where neither passes, both fail
pub neither_passes : (a c : Bool) → (a || c) ≡ false → (a ≡ false) × (c ≡ false)
neither_passes true c e = absurd (false≢true (sym e))
neither_passes false c e = (refl, e)

-- where none passes, each fails
fails_at : {X : Type 0} (test : X → Bool) (xs : List X) → list_any test xs ≡ false → (k : ℕ)
    (x : X) → slice_get xs k ≡ Some x → test x ≡ false
fails_at test [] e k x at = let no : ⊥ = cc in absurd no
fails_at test (y ∷ ys) e zero x at =
    let same : y ≡ x = cc in
    ap test (sym same) ∙ (neither_passes (test y) (list_any test ys) e).0
fails_at test (y ∷ ys) e (suc k) x at =
    fails_at test ys (neither_passes (test y) (list_any test ys) e).1 k x at

-- a net without a capacity has no place with one
no_max : (system : System) (net place : ℕ) (p : Place) (most : ℕ) →
    net_is_limited system net ≡ false →
    slice_get (net_at system net).places place ≡ Some p → p.max ≡ Some most → ⊥
no_max system net place p most none there limit =
    let fails : is_some p.max ≡ false =
    fails_at (λ p. is_some p.max) (net_at system net).places none place p there in
    false≢true (sym fails ∙ ap is_some limit)

no_capacity : (system : System) (net place most : ℕ) → net_is_limited system net ≡ false →
    capacity system net place ≡ Some most → ⊥
no_capacity system net place most none cap =
    by_place (has_max (slice_get (net_at system net).places place) most cap)
  where
    by_place : (p : Place) × (slice_get (net_at system net).places place ≡ Some p)
        × (p.max ≡ Some most) → ⊥
    by_place (p, there, limit) = no_max system net place p most none there limit

module _ (system : System) (m : Marking) (b : Binding) where
  made_free : (path : List ℕ) (n : ℕ) (cs : List Creation) →
      list_any (λ c. net_is_limited system c.net) cs ≡ false →
      AllByRecursion (MadeHasRoom system b)
      (map (λ c. record { path = path; index = c.0; net = c.1.net }) (enumerate_from n cs))
  made_free path n [] none = tt
  made_free path n (c ∷ cs) none =
      let parts = neither_passes (net_is_limited system c.net)
      (list_any (λ c. net_is_limited system c.net) cs) none in (
        λ place p most there limit.
            absurd (no_max system c.net place p most parts.0 there limit),
        made_free path (n + 1) cs parts.1,
      )

  free_nodes : (nodes : List Node) → list_any (node_is_limited system) nodes ≡ false →
      AllByRecursion (HasRoom system m b) nodes
      × AllByRecursion (MadeHasRoom system b) (flat_map (made_by system) nodes)
  free_nodes [] none = (tt, tt)
  free_nodes (node ∷ nodes) none =
      let parts = neither_passes (node_is_limited system node)
      (list_any (node_is_limited system) nodes) none in
      let own = neither_passes (net_is_limited system node.net)
      (list_any (λ c. net_is_limited system c.net) (transition_of system node).creations)
      parts.0 in
      let rest = free_nodes nodes parts.1 in (
        (
          λ n place most e cap. absurd (no_capacity system node.net place most own.0 cap),
          rest.0,
        ),
        each_append (MadeHasRoom system b) (made_by system node) (flat_map (made_by system) nodes)
            (made_free node.path 0 (transition_of system node).creations own.1) rest.1,
      )

  -- where no net has a place with a capacity, all have room
  pub free_have_room : list_any (node_is_limited system) b.nodes ≡ false → AllHaveRoom system m b
  free_have_room none =
      let parts = free_nodes b.nodes none in (
        All-from_recursion (HasRoom system m b) b.nodes parts.0,
        All-from_recursion (MadeHasRoom system b) (creations_of system b) parts.1,
      )

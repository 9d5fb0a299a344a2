-- What may still be decided falls with each decision.
use Rattle.std.proofs.Common.{◌≡◌, ℕ, zero, suc, ◌<◌, ◌≤◌, Bool, true, false, not, ◌&&◌, List}
use Rattle.std.proofs.Common.{[], ◌∷◌}
use Rattle.std.proofs.Common.{◌++◌, length, take, map, refl, sym, ap, ◌∙◌, subst, arith}
use Rattle.std.specs.Prelude.{Option, Some, None, unwrap_or, slice_get, Contains, filter, flat_map}
use Rattle.std.specs.Prelude.{nat_eq, if◌then◌else◌}
use Rattle.std.specs.List.{list_any, AllByRecursion}
use Rattle.std.specs.Cmp.Lexicographic.{pointwise}
use Rattle.std.proofs.lemmas.Bool.{eqb-true, eq-eqb}
use Rattle.std.proofs.lemmas.List.Elements.{Contains-append_left, Contains-append_right}
use Rattle.std.proofs.lemmas.Option.{slice_get-get_or, slice_get_within}
use Rattle.rn_value.specs.declared.value.Value.TheVariants as Value
use Rattle.rn_model.specs.declared.expr.Expr.{Expr}
use Rattle.rn_model.specs.declared.system.System.{System}
use Rattle.rn_model.specs.declared.system.Transition.{Transition}
use Rattle.rn_model.specs.declared.system.Net.{Net}
use Rattle.rn_model.specs.Systems.{net_at, empty_net, empty_transition}
use Rattle.rn_model.specs.Derivation.{Hole, holes_in, sites_of}
use Rattle.rn_model.specs.Derivation as D
use Rattle.rn_model.proofs.AskedValues.{later, contained_mapped, contained_flat}
use Rattle.rn_model.proofs.EachElement.{each_append}
use Rattle.rn_model.proofs.EnablingLemmas.{not_in_nil}
use Rattle.rn_model.proofs.LiveByRounds.{any_contained, contained_any}
use Rattle.rn_growing.specs.declared.decision.Head.{Head}
use Rattle.rn_growing.specs.declared.decision.Caller.{Caller}
use Rattle.rn_growing.specs.declared.decision.Decision.{Decision}
use Rattle.rn_growing.specs.declared.decision.Decision.TheVariants.{Entered, Found, Computed}
use Rattle.rn_growing.specs.Decisions.{site_of, transition_in}
use Rattle.rn_growing.specs.Grown.{IsNew}
use Rattle.rn_growing.specs.link.Layouts.{same_site}
use Rattle.rn_growing.specs.Turns.{IsEntered, IsHole, MayCome, AreInTurn, SameThing}
use Rattle.rn_growing.proofs.Growth.{at_in, contains_last, front_at}
use Rattle.rn_growing.proofs.SameUnknowns.{site_itself, site_is}
use Rattle.rn_growing.proofs.SameUnknowns.{as_site, site_of-is}
use Rattle.rn_search.specs.Points.{node_on, holes_of}
use Rattle.rn_search.specs.Room.{anywhere, on_one_thing, numbers_below, all_transitions}
use Rattle.rn_search.specs.Room.{downlink_indexes, arc_indexes, all_holes, paths_within, things_on}
use Rattle.rn_search.specs.Room.{all_things, is_undecided, RoomFalls}
use Rattle.rn_items.proofs.Numbers.{same_numbers, numbers_themselves}
use Rattle.rn_items.proofs.Bools.{both_true}

-- Fewer pass a test that asks for more.
module _ {X : Type 0} (p q : X → Bool) (harder : (x : X) → q x ≡ true → p x ≡ true) where
  no_more_step : (x : X) (a b : Bool) (ps qs : List X) → (b ≡ true → a ≡ true) →
      length qs ≤ length ps →
      length (if b then x ∷ qs else qs) ≤ length (if a then x ∷ ps else ps)
  no_more_step x true true ps qs imp few = omega (arith, few)
  no_more_step x true false ps qs imp few = omega (arith, few)
  no_more_step x false true ps qs imp few =
      absurd (let both = imp refl in let no : ⊥ = cc in no)
  no_more_step x false false ps qs imp few = few

  no_more : (xs : List X) → length (filter q xs) ≤ length (filter p xs)
  no_more [] = omega arith
  no_more (x ∷ xs) =
      no_more_step x (p x) (q x) (filter p xs) (filter q xs) (harder x) (no_more xs)

  one_less : (x : X) (a b : Bool) (ps qs : List X) → a ≡ true → b ≡ false →
      length qs ≤ length ps →
      length (if b then x ∷ qs else qs) < length (if a then x ∷ ps else ps)
  one_less x true false ps qs is isnt few = omega (arith, few)
  one_less x true true ps qs is isnt few = absurd (let no : ⊥ = cc in no)
  one_less x false b ps qs is isnt few = absurd (let no : ⊥ = cc in no)

  less_step : (x : X) (a b : Bool) (ps qs : List X) → (b ≡ true → a ≡ true) →
      length qs < length ps →
      length (if b then x ∷ qs else qs) < length (if a then x ∷ ps else ps)
  less_step x true true ps qs imp few = omega (arith, few)
  less_step x true false ps qs imp few = omega (arith, few)
  less_step x false true ps qs imp few =
      absurd (let both = imp refl in let no : ⊥ = cc in no)
  less_step x false false ps qs imp few = few

  fewer : (xs : List X) (x : X) → Contains xs x → p x ≡ true → q x ≡ false →
      length (filter q xs) < length (filter p xs)
  fewer [] x there is isnt = absurd (not_in_nil x there)
  fewer (y ∷ xs) x (zero, h, e) is isnt =
      one_less y (p y) (q y) (filter p xs) (filter q xs) (ap p e ∙ is) (ap q e ∙ isnt) (no_more xs)
  fewer (y ∷ xs) x (suc k, h, e) is isnt =
      less_step y (p y) (q y) (filter p xs) (filter q xs) (harder y)
      (fewer xs x (k, omega (arith, h), e) is isnt)

less_or_last : (i m : ℕ) → i < suc m → (i ≡ m → ⊥) → i < m
less_or_last i m low differ = grind arith

below_in : (n i : ℕ) → i < n → Contains (numbers_below n) i
below_in zero i low = absurd (let no : ⊥ = omega (arith, low) in no)
below_in (suc m) i low =
    elim (nat_eq i m) as (λ same. nat_eq i m ≡ same → Contains (numbers_below (suc m)) i) [
      | true ↦ λ e. (0, omega arith, sym (eqb-true i m e))
      | false ↦ λ e.
          later m i (numbers_below m) (below_in m i (less_or_last i m low
          (λ is. let both : true ≡ false = sym (eq-eqb i m is) ∙ e in let no : ⊥ = cc in no)))
    ] refl

-- a transition of which something holds that doesn't hold of an empty one is the system's
from_option : {X : Type 0} (P : X → Type 0) (o : Option X) (d : X) → P (unwrap_or o d) →
    (P d → ⊥) → (x : X) × (o ≡ Some x) × P x
from_option P None d is never = absurd (never is)
from_option P (Some x) d is never = (x, refl, is)

module _ (system : System) where
  its_transition : (head : Head) (P : Transition → Type 0) → P (transition_in system head) →
      (P empty_transition → ⊥) → (t : Transition) × Contains (all_transitions system) t × P t
  its_transition head P is never =
      let t = from_option P (slice_get (net_at system head.net).transitions head.transition)
      empty_transition is never in
      let net = from_option (λ (net : Net). slice_get net.transitions head.transition ≡ Some t.0)
      (slice_get system.nets head.net) empty_net t.1 (λ e. let no : ⊥ = cc in no) in (
        t.0,
        contained_flat (λ net. net.transitions) system.nets net.0 t.0
            (at_in system.nets head.net net.0 net.1)
            (at_in net.0.transitions head.transition t.0 net.2),
        t.2,
      )

  abbrev Steps : List ℕ → Type 0
  Steps path = AllByRecursion (Contains (downlink_indexes system)) path

  step_in : (head : Head) (i : ℕ) → i < length (transition_in system head).downlinks →
      Contains (downlink_indexes system) i
  step_in head i low =
      let t = its_transition head (λ t. i < length t.downlinks) low
      (λ none. let no : ⊥ = omega (arith, none) in no) in
      contained_flat (λ t. numbers_below (length t.downlinks)) (all_transitions system) t.0 i t.1
      (below_in (length t.0.downlinks) i t.2)

  arc_in : (head : Head) (k : ℕ) → k < length (transition_in system head).arcs →
      Contains (arc_indexes system) k
  arc_in head k low =
      let t = its_transition head (λ t. k < length t.arcs) low
      (λ none. let no : ⊥ = omega (arith, none) in no) in
      contained_flat (λ t. numbers_below (length t.arcs)) (all_transitions system) t.0 k t.1
      (below_in (length t.0.arcs) k t.2)

  abbrev HasHole : D.Site → Hole → Transition → Type 0
  HasHole site hole t = (e : Expr) × Contains (sites_of t) (site, e) × Contains (holes_in e) hole

  hole_in : (head : Head) (site : D.Site) (hole : Hole) → IsHole system head site hole →
      Contains (all_holes system) (site, hole)
  hole_in head site hole is =
      let t = its_transition head (HasHole site hole) is
      (λ none. not_in_nil (site, none.0) none.1) in
      let e = t.2.0 in
      contained_flat holes_of (all_transitions system) t.0 (site, hole) t.1
      (contained_flat (λ s. map (λ (h : Hole). (s.0, h)) (holes_in s.1)) (sites_of t.0) (site, e)
      (site, hole) t.2.1 (contained_mapped (λ (h : Hole). (site, h)) (holes_in e) hole t.2.2))

  -- the path of a node that may have a decision takes steps of the system
  may_steps : (es : List Decision) → ((head : Head) → IsEntered es head → Steps head.path) →
      (d : Decision) → MayCome system es d → Steps (node_on d).path
  may_steps es each (Entered head None) may = subst Steps (sym may.1) tt
  may_steps es each (Entered head (Some from)) may =
      subst Steps (sym may.path)
      (each_append (Contains (downlink_indexes system)) from.head.path (from.downlink ∷ [])
      (each from.head may.entered) (
        step_in from.head from.downlink (slice_get_within
            (transition_in system from.head).downlinks from.downlink may.downlink may.there),
        tt,
      ))
  may_steps es each (Found head k v) may = each head may.0
  may_steps es each (Computed head site way v) may = each head may.0

  entered_steps : (ds : List Decision) → AreInTurn system ds → (n k : ℕ) → k < n →
      (head : Head) (caller : Option Caller) → slice_get ds k ≡ Some (Entered head caller) →
      Steps head.path
  entered_steps ds turns zero k low head caller at =
      absurd (let no : ⊥ = omega (arith, low) in no)
  entered_steps ds turns (suc n) k low head caller at =
      let within = slice_get_within ds k (Entered head caller) at in
      let room : k ≤ length ds = omega (arith, within) in
      may_steps (take k ds)
      (λ other (from, (j, h, e)).
      let before = front_at ds k j (Entered other from)
      (slice_get-get_or (take k ds) j (Entered other from) h ∙ ap Some e) room in
      let less = before.0 in
      entered_steps ds turns n j (omega (arith, less, low)) other from before.1)
      (Entered head caller) (turns.came k (Entered head caller) at)

  steps_of : (ds : List Decision) → AreInTurn system ds → (d : Decision) → MayCome system ds d →
      Steps (node_on d).path
  steps_of ds turns d may =
      may_steps ds
      (λ other (from, (j, h, e)).
      entered_steps ds turns (length ds) j h other from
      (slice_get-get_or ds j (Entered other from) h ∙ ap Some e)) d may

  path_in : (depth : ℕ) (path : List ℕ) → length path ≤ depth → Steps path →
      Contains (paths_within (downlink_indexes system) depth) path
  path_in zero [] short steps = (0, omega arith, refl)
  path_in (suc depth) [] short steps = (0, omega arith, refl)
  path_in zero (i ∷ path) short steps = absurd (let no : ⊥ = omega (arith, short) in no)
  path_in (suc depth) (i ∷ path) short steps =
      let all = paths_within (downlink_indexes system) depth in
      let rest = path_in depth path (omega (arith, short)) steps.1 in
      later [] (i ∷ path) (flat_map (λ i. map (λ path. i ∷ path) all) (downlink_indexes system))
      (contained_flat (λ i. map (λ path. i ∷ path) all) (downlink_indexes system) i (i ∷ path)
      steps.0 (contained_mapped (λ path. i ∷ path) all path rest))

  -- the thing that a decision is on is among those of its node
  abbrev IsThing : Decision → Type 0
  IsThing d = (t : Decision) × Contains (things_on system (node_on d).path) t
      × (on_one_thing t d ≡ true)

  abbrev arcs_on : List ℕ → List Decision
  arcs_on path = map (λ k. Found (anywhere path) k (Value.Tuple [])) (arc_indexes system)

  abbrev holes_on : List ℕ → List Decision
  holes_on path =
      map (λ hole. Computed (anywhere path) (as_site hole.0) hole.1.way (Value.Tuple []))
      (all_holes system)

  thing_of : (ds : List Decision) (d : Decision) → MayCome system ds d → IsThing d
  thing_of ds (Entered head caller) may =
      (Entered (anywhere head.path) None, (0, omega arith, refl), numbers_themselves head.path)
  thing_of ds (Found head k v) may =
      let t : Decision = Found (anywhere head.path) k (Value.Tuple []) in
      let listed = contained_mapped (λ k. Found (anywhere head.path) k (Value.Tuple []))
      (arc_indexes system) k
      (arc_in head k (slice_get_within (transition_in system head).arcs k may.1.0 may.1.1)) in (
        t,
        later (Entered (anywhere head.path) None) t (arcs_on head.path ++ holes_on head.path)
            (Contains-append_left (arcs_on head.path) (holes_on head.path) t listed),
        rw (numbers_themselves head.path, eq-eqb k k refl) refl,
      )
  thing_of ds (Computed head site way v) may =
      let hole = may.1.0 in
      let t : Decision =
      Computed (anywhere head.path) (as_site (site_of site)) hole.way (Value.Tuple []) in
      let listed = contained_mapped
      (λ hole. Computed (anywhere head.path) (as_site hole.0) hole.1.way (Value.Tuple []))
      (all_holes system) (site_of site, hole) (hole_in head (site_of site) hole may.1.2) in
      let sites : same_site (as_site (site_of site)) site ≡ true =
      subst (λ s. same_site s site ≡ true) (sym (site_of-is site)) (site_itself site) in
      let ways : pointwise nat_eq hole.way way ≡ true =
      subst (λ w. pointwise nat_eq hole.way w ≡ true) may.1.1 (numbers_themselves hole.way) in (
        t,
        later (Entered (anywhere head.path) None) t (arcs_on head.path ++ holes_on head.path)
            (Contains-append_right (arcs_on head.path) (holes_on head.path) t listed),
        rw (numbers_themselves head.path, sites, ways) refl,
      )

-- decisions on the thing of a third are on one thing
pub one_thing : (t d e : Decision) → on_one_thing t d ≡ true → on_one_thing t e ≡ true →
    SameThing e d
one_thing (Entered h c) (Entered o f) (Entered p g) a b =
    sym (same_numbers h.path p.path b) ∙ same_numbers h.path o.path a
one_thing (Found h k v) (Found o j w) (Found p i x) a b =
    let left = both_true (pointwise nat_eq h.path o.path) (nat_eq k j) a in
    let right = both_true (pointwise nat_eq h.path p.path) (nat_eq k i) b in (
      sym (same_numbers h.path p.path right.0) ∙ same_numbers h.path o.path left.0,
      sym (eqb-true k i right.1) ∙ eqb-true k j left.1,
    )
one_thing (Computed h s w v) (Computed o t u x) (Computed p r y z) a b =
    let left = both_true (pointwise nat_eq h.path o.path) (same_site s t && pointwise nat_eq w u) a
    in
    let right = both_true (pointwise nat_eq h.path p.path) (same_site s r && pointwise nat_eq w
    y) b
    in
    let left_too = both_true (same_site s t) (pointwise nat_eq w u) left.1 in
    let right_too = both_true (same_site s r) (pointwise nat_eq w y) right.1 in (
      sym (same_numbers h.path p.path right.0) ∙ same_numbers h.path o.path left.0,
      ap site_of (sym (site_is s r right_too.0) ∙ site_is s t left_too.0),
      sym (same_numbers w y right_too.1) ∙ same_numbers w u left_too.1,
    )
one_thing (Entered h c) (Found o j w) e a b = absurd (let no : ⊥ = cc in no)
one_thing (Entered h c) (Computed o t u x) e a b = absurd (let no : ⊥ = cc in no)
one_thing (Found h k v) (Entered o f) e a b = absurd (let no : ⊥ = cc in no)
one_thing (Found h k v) (Computed o t u x) e a b = absurd (let no : ⊥ = cc in no)
one_thing (Computed h s w v) (Entered o f) e a b = absurd (let no : ⊥ = cc in no)
one_thing (Computed h s w v) (Found o j x) e a b = absurd (let no : ⊥ = cc in no)
one_thing (Entered h c) (Entered o f) (Found p i x) a b = absurd (let no : ⊥ = cc in no)
one_thing (Entered h c) (Entered o f) (Computed p r y z) a b = absurd (let no : ⊥ = cc in no)
one_thing (Found h k v) (Found o j w) (Entered p g) a b = absurd (let no : ⊥ = cc in no)
one_thing (Found h k v) (Found o j w) (Computed p r y z) a b = absurd (let no : ⊥ = cc in no)
one_thing (Computed h s w v) (Computed o t u x) (Entered p g) a b = absurd (let no : ⊥ = cc in no)
one_thing (Computed h s w v) (Computed o t u x) (Found p i y) a b = absurd (let no : ⊥ = cc in no)

-- what is undecided after more was before
stays : (ds : List Decision) (d t : Decision) → is_undecided (ds ++ d ∷ []) t ≡ true →
    is_undecided ds t ≡ true
stays ds d t after =
    elim (list_any (on_one_thing t) ds) as
    (λ any. list_any (on_one_thing t) ds ≡ any → not any ≡ true) [
      | false ↦ λ e. refl
      | true ↦ λ e.
          let one = any_contained (on_one_thing t) ds e in
          let still = contained_any (on_one_thing t) (ds ++ d ∷ []) one.0
          (Contains-append_left ds (d ∷ []) one.0 one.1) one.2 in
          let both : false ≡ true = ap not (sym still) ∙ after in
          absurd (let no : ⊥ = cc in no)
    ] refl

undecided : (ds : List Decision) (d t : Decision) → IsNew ds d → on_one_thing t d ≡ true →
    is_undecided ds t ≡ true
undecided ds d t new is =
    elim (list_any (on_one_thing t) ds) as
    (λ any. list_any (on_one_thing t) ds ≡ any → not any ≡ true) [
      | false ↦ λ e. refl
      | true ↦ λ e.
          let one = any_contained (on_one_thing t) ds e in
          absurd (new one.0 one.1 (one_thing t d one.0 is one.2))
    ] refl

-- the room falls with each decision in turn on a node that isn't too deep
pub room_falls : RoomFalls
room_falls system depth ds d turns may new short =
    let thing = thing_of system ds d may in
    let path = path_in system depth (node_on d).path short (steps_of system ds turns d may) in
    let there = contained_flat (things_on system) (paths_within (downlink_indexes system) depth)
    (node_on d).path thing.0 path thing.1 in
    let now = contained_any (on_one_thing thing.0) (ds ++ d ∷ []) d (contains_last ds d) thing.2 in
    fewer (is_undecided ds) (is_undecided (ds ++ d ∷ [])) (stays ds d) (all_things system depth)
    thing.0 there (undecided ds d thing.0 new thing.2) (ap not now)

-- The markings of the runs of good systems.
use Rattle.std.proofs.Common.{◌≡◌, ℕ, suc, ◌<◌, Bool, true, false, cond, List, [], ◌∷◌, length, refl, sym, subst, arith}
use Rattle.std.specs.Prelude.{Option, Some, None, Ok, All, Contains, find, count_by, position, unwrap_or, codes, nat_eq}
use Rattle.std.specs.Cmp.Lexicographic.{pointwise}
use Rattle.std.specs.List.{AllByRecursion, enumerate_from}
use Rattle.std.proofs.lemmas.List.Elements.{All-contains, recursion_from_All}
use Rattle.std.proofs.lemmas.List.Quantifiers.{position-Some}
use Rattle.std.proofs.lemmas.Option.{unwrap_or-slice_get}
use Rattle.rn_value.specs.declared.value.InstRef.TheVariants.{Old}
use Rattle.rn_value.specs.declared.value.Kind.TheVariants as Kind
use Rattle.rn_model.specs.declared.system.System.{System}
use Rattle.rn_model.specs.declared.binding.Binding.{Binding}
use Rattle.rn_model.specs.Systems.{net_at, transition_at, transition_of, var_kind_in, main_net, empty_net, empty_transition}
use Rattle.rn_model.specs.Good.{Good, IsGoodNet, IsGoodTransition}
use Rattle.rn_model.specs.Bindings.{IsNodeOf}
use Rattle.rn_model.specs.Markings.{Instance, Marking, IsMarking, initial_marking, net_of}
use Rattle.rn_model.specs.Firing.{Made, Effects, Fired, firing_result, effects, creations_of, made_by, named, marking_after, too_many}
use Rattle.rn_model.specs.Runs.{Firing, RunFrom, after_firing, end_from}
use Rattle.rn_model.specs.MarkingLaws.{InitialIsMarking, FiringsKeepMarkings, RunsEndInMarkings}
use Rattle.rn_model.proofs.EachElement.{each_map, each_flat_map, each_weaker, each_place, at_place}
use Rattle.rn_model.proofs.MarkingsStay.{of_forms, after_is_marking, fresh_form}

-- A net of a good system by its number, and a transition of it.
pub good_net : (system : System) (n : ℕ) → Good system → n < length system.nets → IsGoodNet system (net_at system n)
good_net system n good h = subst (IsGoodNet system) (sym (unwrap_or-slice_get system.nets n empty_net)) (good.nets n empty_net h)

-- each transition of a net of a good system is good
pub good_transition : (system : System) (n t : ℕ) → Good system → n < length system.nets → t < length (net_at system n).transitions → IsGoodTransition system (net_at system n) (transition_at system n t)
good_transition system n t good h k =
    subst (IsGoodTransition system (net_at system n)) (sym (unwrap_or-slice_get (net_at system n).transitions t empty_transition)) ((good_net system n good h).transitions t empty_transition k)

-- each creation of a binding of the shape is of a net of the system
abbrev pub IsOfNet : System → Made → Type 0
IsOfNet system m = m.net < length system.nets

-- each instance that a binding makes is of a net of the system
pub made_of_nets : (system : System) (b : Binding) → Good system → All (IsNodeOf system) b.nodes → AllByRecursion (IsOfNet system) (creations_of system b)
made_of_nets system b good nodes =
    each_flat_map (IsOfNet system) (made_by system) b.nodes
    (each_weaker (IsNodeOf system) (λ node. AllByRecursion (IsOfNet system) (made_by system node)) (λ node of.
    let t = good_transition system node.net node.transition good of.net of.transition in
    each_map (IsOfNet system) (λ c. record { path = node.path; index = c.0; net = c.1.net }) (enumerate_from 0 (transition_of system node).creations)
    (each_place (λ c. c.1.net < length system.nets) (transition_of system node).creations (λ j c there.
    (at_place (λ c. (c.net < length system.nets) × (var_kind_in (net_at system node.net) c.var ≡ Kind.Net)) (transition_of system node).creations j c t.kinds.creations there).0)))
    b.nodes (recursion_from_All (IsNodeOf system) b.nodes nodes))

-- where an instance is there, the next number isn't 0
next_above : (system : System) (m : Marking) (is : List Instance) (k net : ℕ) → m.instances ≡ is → IsMarking system m → net_of m k ≡ Some net → 0 < m.next
next_above system m [] k net e form there =
    let none : None ≡ Some net = subst (λ is. net_of (record m { instances = is }) k ≡ Some net) e there in
    absurd (let no : ⊥ = cc in no)
next_above system m (i ∷ is) k net e form there =
    let numbered = subst (All (λ i. (0 < i.number) × (i.number < m.next))) e form.numbered in
    let first = numbered 0 i (omega arith) in
    omega (arith, first.0, first.1)

fired_marking : (system : System) (m : Marking) (b : Binding) (acts : Option Effects) (many : Bool) (f : Fired) → IsMarking system m → 0 < m.next → AllByRecursion (IsOfNet system) (creations_of system b) →
    too_many m.next (length (creations_of system b)) ≡ many → firing_result system m b acts ≡ Ok f → IsMarking system f.marking
fired_marking system m b None many f is low nets e fires = absurd (let no : ⊥ = cc in no)
fired_marking system m b (Some acts) true f is low nets e fires =
    let undefined = rw e at fires in
    absurd (let no : ⊥ = cc in no)
fired_marking system m b (Some acts) false f is low nets e fires =
    let defined = rw e at fires in
    let given : record { marking = marking_after system m (creations_of system b) (named system b m.next) acts; outs = acts.outs } ≡ f = cc in
    subst (λ g. IsMarking system g.marking) given (after_is_marking system (named system b m.next) acts m (creations_of system b) is low nets)

-- what is found is there
pub found_is_there : {X : Type 0} (test : X → Bool) (xs : List X) (y : X) → find test xs ≡ Some y → Contains xs y
found_is_there test [] y e = absurd (let no : ⊥ = cc in no)
found_is_there {X} test (x ∷ xs) y e = elim (test x) as (λ passes. cond passes (Some x) (find test xs) ≡ Some y → Contains (x ∷ xs) y) [
  | true ↦ λ first. let same : x ≡ y = cc in (0, omega arith, same)
  | false ↦ λ later. let there = found_is_there test xs y later in (suc there.0, omega (arith, there.1), there.2)
] e

-- the firing of an enabled binding leads from a marking to a marking
pub firings_keep_markings : FiringsKeepMarkings
firings_keep_markings system m b depth step f good is enabled fires =
    let start = enabled.shape.start in
    let there = All-contains (λ node. (n : ℕ) → node.inst ≡ Old n → net_of m n ≡ Some node.net) b.nodes start.0 enabled.fits.there (found_is_there (λ node. pointwise nat_eq node.path []) b.nodes start.0 start.1) start.2.exists.0 start.2.exists.1 in
    let low = next_above system m m.instances start.2.exists.0 start.0.net refl is there in
    fired_marking system m b (effects system b m.next step) (too_many m.next (length (creations_of system b))) f is low (made_of_nets system b good enabled.shape.nodes) refl fires

keep_from : (system : System) (depth step : ℕ) (m : Marking) (fs : List Firing) → Good system → IsMarking system m → RunFrom system depth step m fs → IsMarking system (end_from system step m fs)
keep_from system depth step m [] good is run = is
keep_from system depth step m (f ∷ fs) good is (fires, run) =
    let next = after_firing system step m f in
    keep_from system depth (suc step) next fs good (firings_keep_markings system m f.binding depth step (record { marking = next; outs = f.outs }) good is fires.enabled fires.fired) run

place_of : {X : Type 0} (test : X → Bool) (x : X) (xs : List X) (place : Option ℕ) → position test (x ∷ xs) ≡ place → unwrap_or place 0 < length (x ∷ xs)
place_of test x xs None e = omega arith
place_of test x xs (Some k) e = (position-Some test (x ∷ xs) k x e).0

-- the index of what passes a test, where something does
pub place_within : {X : Type 0} (test : X → Bool) (xs : List X) → count_by test xs ≡ 1 → unwrap_or (position test xs) 0 < length xs
place_within test [] e = absurd (let no : ⊥ = omega (arith, e) in no)
place_within test (x ∷ xs) e = place_of test x xs (position test (x ∷ xs)) refl

-- the initial marking of a good system is a marking
pub initial_is_marking : InitialIsMarking
initial_is_marking system good =
    of_forms system (initial_marking system) (tt, tt) (fresh_form system 2 1 (main_net system) (omega arith) (omega arith) (place_within (λ net. pointwise nat_eq net.name (codes "main")) system.nets good.main), tt)

-- each run of a good system ends in a marking
pub runs_end_in_markings : RunsEndInMarkings
runs_end_in_markings system depth fs good run = keep_from system depth 1 (initial_marking system) fs good (initial_is_marking system good) run

-- A place fits exactly where its tokens meet what is asked of it, and all places fit exactly where
-- those fit of which something is asked.
use Rattle.std.proofs.Common.{◌≡◌, ℕ, zero, suc, ◌-◌, ◌<◌, Bool, false, List, [], ◌∷◌}
use Rattle.std.proofs.Common.{refl, sym, ap, ◌∙◌, subst, inl, inr, arith}
use Rattle.std.specs.Prelude.{◌⊎◌, ◌↔◌, IsTrue, All, Contains, Some}
use Rattle.std.specs.List.{flat_map}
use Rattle.std.proofs.lemmas.List.{append-nil}
use Rattle.std.proofs.lemmas.List.Elements.{All-contains, All-from_recursion}
use Rattle.rn_value.specs.declared.value.InstRef.{InstRef}
use Rattle.rn_value.specs.declared.value.InstRef.TheVariants.{Old}
use Rattle.rn_value.specs.declared.value.Value.{Value}
use Rattle.rn_model.specs.declared.system.System.{System}
use Rattle.rn_model.specs.declared.binding.Binding.{Binding}
use Rattle.rn_model.specs.Lists.{count_of, IsWithin, without_each}
use Rattle.rn_model.specs.Demands.{taken_at, tested_at, inhibited_at, cleared_at, rest_at}
use Rattle.rn_model.specs.Enabling.{PlaceFits, Fits}
use Rattle.rn_model.specs.Markings.{Marking, net_of, tokens}
use Rattle.rn_model.proofs.AskedValues.{counted, is_counted}
use Rattle.rn_model.proofs.EnablingLemmas.{idle, not_in_nil}
use Rattle.rn_model.proofs.ReadConditions.{each_in}
use Rattle.rn_model.proofs.ValueLists.{others_are_taken}
use Rattle.rn_arcs.specs.link.Groups.{place_of, AreAsked}
use Rattle.rn_arcs.specs.link.Meeting.{Meets}
use Rattle.rn_arcs.specs.link.Room.{AllHaveRoom}
use Rattle.rn_arcs.specs.Places.{InstPlace}
use Rattle.rn_arcs.specs.declared.asked.Asked.{Asked}
use Rattle.rn_arcs.proofs.TokenLemmas.{part_fails}
use Rattle.rn_arcs.proofs.RisingPlaces.{those_at, one_at, OneAt, each_one, all_map}

abbrev flat : List (List Value) → List Value
flat = flat_map (λ vs. vs)

not_counted : (v : Value) (ts : List Value) (n : ℕ) → (Contains ts v → ⊥) → count_of v ts ≡ n →
    n ≡ 0
not_counted v ts zero none e = refl
not_counted v ts (suc n) none e = absurd (none (counted v ts (omega (arith, e))))

module _ (system : System) (m : Marking) (b : Binding) (inst : InstRef) (place : ℕ) (g : Asked)
    (taken : g.taken ≡ taken_at system b inst place)
    (tested : g.tested ≡ tested_at system b inst place)
    (inhibited : g.inhibited ≡ inhibited_at system b inst place)
    (cleared : g.cleared ≡ cleared_at system b inst place) where
  abbrev ts : List Value
  ts = tokens m inst place

  rest_counted : (v : Value) →
      count_of v (rest_at system b inst place ts)
      ≡ (count_of v ts - count_of v g.taken) - count_of v (flat g.cleared)
  rest_counted v =
      others_are_taken (without_each ts (taken_at system b inst place))
      (flat (cleared_at system b inst place)) v
      ∙ ap (λ k. k - count_of v (flat (cleared_at system b inst place)))
      (others_are_taken ts (taken_at system b inst place) v)
      ∙ ap (λ vs. (count_of v ts - count_of v vs)
      - count_of v (flat (cleared_at system b inst place))) (sym taken)
      ∙ ap (λ cs. (count_of v ts - count_of v g.taken) - count_of v (flat cs)) (sym cleared)

  remains : Meets ts g → (v : Value) → Contains (tested_at system b inst place) v →
      Contains (rest_at system b inst place ts) v
  remains meets v there =
      let own : Contains g.tested v = subst (λ vs. Contains vs v) (sym tested) there in
      let more : count_of v g.taken < count_of v ts =
      All-contains (λ v. count_of v g.taken < count_of v ts) g.tested v meets.left own in
      let nothing : count_of v (flat g.cleared) ≡ 0 =
      elim meets.nothing as (λ _. count_of v (flat g.cleared) ≡ 0) [
        | inl none ↦ absurd (not_in_nil v (subst (λ vs. Contains vs v) none own))
        | inr none ↦ ap (λ cs. count_of v (flat cs)) none
      ] in
      let count = rest_counted v in
      counted v (rest_at system b inst place ts) (omega (arith, more, nothing, count))

  pub meets_fits : Meets ts g → PlaceFits system m b inst place
  meets_fits meets = record {
    enough = subst (λ vs. IsWithin vs ts) taken meets.enough;
    left = remains meets;
    absent = λ v there held.
        let own : Contains g.inhibited v = subst (λ vs. Contains vs v) (sym inhibited) there in
        let none : count_of v ts ≡ 0 =
        All-contains (λ v. count_of v ts ≡ 0) g.inhibited v meets.absent own in
        let some = is_counted v ts held in
        absurd (let no : ⊥ = omega (arith, none, some) in no);
    whole = subst (λ vs. (cleared_at system b inst place ≡ [])
        ⊎ ((cleared_at system b inst place ≡ ts ∷ []) × (vs ≡ []))) taken
        (subst (λ cs. (cs ≡ []) ⊎ ((cs ≡ ts ∷ []) × (g.taken ≡ []))) cleared meets.whole);
  }

  module _ (fits : PlaceFits system m b inst place) where
    own_whole : (g.cleared ≡ []) ⊎ ((g.cleared ≡ ts ∷ []) × (g.taken ≡ []))
    own_whole =
        subst (λ vs. (g.cleared ≡ []) ⊎ ((g.cleared ≡ ts ∷ []) × (vs ≡ []))) (sym taken)
        (subst (λ cs. (cs ≡ []) ⊎ ((cs ≡ ts ∷ []) × (taken_at system b inst place ≡ [])))
        (sym cleared) fits.whole)

    some_left : (v : Value) → Contains g.tested v →
        0 < (count_of v ts - count_of v g.taken) - count_of v (flat g.cleared)
    some_left v there =
        subst (λ k. 0 < k) (rest_counted v)
        (is_counted v (rest_at system b inst place ts)
        (fits.left v (subst (λ vs. Contains vs v) tested there)))

    apart : (vs : List Value) → g.tested ≡ vs → (g.tested ≡ []) ⊎ (g.cleared ≡ [])
    apart [] e = inl e
    apart (v ∷ vs) e = elim own_whole as (λ _. (g.tested ≡ []) ⊎ (g.cleared ≡ [])) [
      | inl none ↦ inr none
      | inr both ↦
          let there : Contains g.tested v =
          subst (λ ws. Contains ws v) (sym e) (0, omega arith, refl) in
          let all : count_of v (flat g.cleared) ≡ count_of v ts =
          ap (λ cs. count_of v (flat cs)) both.0 ∙ ap (count_of v) (append-nil ts) in
          let some = some_left v there in
          absurd (let no : ⊥ = omega (arith, all, some) in no)
    ]

    pub fits_meets : Meets ts g
    fits_meets = record {
      whole = own_whole;
      enough = subst (λ vs. IsWithin vs ts) (sym taken) fits.enough;
      absent = All-from_recursion (λ v. count_of v ts ≡ 0) g.inhibited
          (each_in (λ v. count_of v ts ≡ 0) g.inhibited
          (λ v there. not_counted v ts (count_of v ts)
          (fits.absent v (subst (λ vs. Contains vs v) inhibited there)) refl));
      left = All-from_recursion (λ v. count_of v g.taken < count_of v ts) g.tested
          (each_in (λ v. count_of v g.taken < count_of v ts) g.tested
          (λ v there. let some = some_left v there in omega (arith, some)));
      nothing = apart g.tested refl;
    }

module _ (outputs : Bool) (system : System) (m : Marking) (b : Binding) (gs : List Asked)
    (asked : AreAsked outputs system b gs) where
  -- what the only one of a place asks in one way
  only_asks : {A : Type 0} (select : Asked → List A) (k : InstPlace) (g : Asked) (vs : List A) →
      flat_map select (those_at place_of k gs) ≡ vs → those_at place_of k gs ≡ g ∷ [] →
      select g ≡ vs
  only_asks select k g vs are only =
      sym (append-nil (select g)) ∙ sym (ap (flat_map select) only) ∙ are

  abbrev MeetsThere : Asked → Type 0
  MeetsThere g = Meets (tokens m g.inst g.place) g

  module _ (k : InstPlace) (g : Asked) (only : those_at place_of k gs ≡ g ∷ []) where
    pub taken_is : g.taken ≡ taken_at system b k.0 k.1
    taken_is = only_asks (λ g. g.taken) k g _ (asked.taken k) only

    pub tested_is : g.tested ≡ tested_at system b k.0 k.1
    tested_is = only_asks (λ g. g.tested) k g _ (asked.tested k) only

    pub inhibited_is : g.inhibited ≡ inhibited_at system b k.0 k.1
    inhibited_is = only_asks (λ g. g.inhibited) k g _ (asked.inhibited k) only

    pub cleared_is : g.cleared ≡ cleared_at system b k.0 k.1
    cleared_is = only_asks (λ g. g.cleared) k g _ (asked.cleared k) only

  none_asked : {A : Type 0} (select : Asked → List A) (k : InstPlace) (vs : List A) →
      flat_map select (those_at place_of k gs) ≡ vs → those_at place_of k gs ≡ [] → vs ≡ []
  none_asked select k vs are none = sym are ∙ ap (flat_map select) none

  fits_by_place : (k : InstPlace) → All MeetsThere gs →
      (those_at place_of k gs ≡ []) ⊎ OneAt place_of k gs → PlaceFits system m b k.0 k.1
  fits_by_place k meet (inl none) =
      idle system m b k.0 k.1
      (none_asked (λ g. g.taken) k _ (asked.taken k) none)
      (none_asked (λ g. g.tested) k _ (asked.tested k) none)
      (none_asked (λ g. g.inhibited) k _ (asked.inhibited k) none)
      (none_asked (λ g. g.cleared) k _ (asked.cleared k) none)
  fits_by_place k meet (inr (g, there, is, only)) =
      meets_fits system m b k.0 k.1 g (taken_is k g only) (tested_is k g only)
      (inhibited_is k g only) (cleared_is k g only)
      (subst (λ (l : InstPlace). Meets (tokens m l.0 l.1) g) is
      (All-contains MeetsThere gs g meet there))

  places_fit : All MeetsThere gs → (inst : InstRef) (place : ℕ) → PlaceFits system m b inst place
  places_fit meet inst place =
      fits_by_place (inst, place) meet (one_at place_of (inst, place) gs asked.rises)

  all_meet : ((inst : InstRef) (place : ℕ) → PlaceFits system m b inst place) →
      All MeetsThere gs
  all_meet fit =
      All-from_recursion MeetsThere gs
      (all_map (λ g. those_at place_of (place_of g) gs ≡ g ∷ []) MeetsThere gs
      (λ g only. fits_meets system m b g.inst g.place g
      (taken_is (place_of g) g only) (tested_is (place_of g) g only)
      (inhibited_is (place_of g) g only) (cleared_is (place_of g) g only)
      (fit g.inst g.place))
      (each_one place_of gs asked.rises))

  -- with the instances there and all met that is asked, the binding fits exactly where its places
  -- have room
  pub fits_exactly : All MeetsThere gs →
      All (λ node. (n : ℕ) → node.inst ≡ Old n → net_of m n ≡ Some node.net) b.nodes →
      (r : Bool) → IsTrue r ↔ AllHaveRoom system m b → IsTrue r ↔ Fits system m b
  fits_exactly meet there r both = (
    λ yes.
        let room = both.0 yes in
        record { there = there; places = places_fit meet; room = room.0; made = room.1 },
    λ fits. both.1 (fits.room, fits.made),
  )

  -- where something isn't met, it doesn't fit
  pub fits_fails : (r : Bool) → IsTrue r ↔ All MeetsThere gs → r ≡ false →
      IsTrue false ↔ Fits system m b
  fits_fails r both fails = part_fails r (All MeetsThere gs) (Fits system m b) both fails
      (λ fits. all_meet fits.places)

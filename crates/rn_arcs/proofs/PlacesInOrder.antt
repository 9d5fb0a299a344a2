-- The sorted places have a binding's demands.
use Rattle.std.proofs.Common.{◌≡◌, Bool, true, false, cond, List, [], ◌∷◌, ◌++◌, map}
use Rattle.std.proofs.Common.{refl, sym, ap, ◌∙◌, subst, inl, inr}
use Rattle.std.specs.Prelude.{◌⊎◌, All, filter}
use Rattle.std.specs.List.{flat_map, AllByRecursion}
use Rattle.std.specs.List.Sorted.{IsSorted, IsSortedByKey}
use Rattle.std.specs.declared.cmp.Ordering.TheVariants.{Less}
use Rattle.std.proofs.lemmas.List.{append-nil}
use Rattle.std.proofs.lemmas.List.Elements.{All-from_recursion}
use Rattle.rn_value.specs.Order.{value_cmp}
use Rattle.rn_value.specs.declared.value.Value.{Value}
use Rattle.rn_model.specs.declared.system.System.{System}
use Rattle.rn_model.specs.declared.system.ArcKind.{ArcKind}
use Rattle.rn_model.specs.declared.system.ArcKind.TheVariants.{Input, Output, Test, Reserve}
use Rattle.rn_model.specs.declared.system.ArcKind.TheVariants.{FlexInput, FlexOutput, Inhibit}
use Rattle.rn_model.specs.declared.system.ArcKind.TheVariants.{Clear}
use Rattle.rn_model.specs.declared.binding.Binding.{Binding}
use Rattle.rn_model.specs.Lists.{ordered_values}
use Rattle.rn_model.specs.Demands.{readings, asked_at, takes, puts, tests, inhibits, clears}
use Rattle.rn_model.proofs.ValueLists.{ordered_values_ascend}
use Rattle.rn_arcs.specs.link.Asks.{place_asked, is_wanted, binding_asks}
use Rattle.rn_arcs.specs.link.Groups.{place_of, fresh, with_arc, first_of, joined_ask, groups_of}
use Rattle.rn_arcs.specs.link.Groups.{in_order, Rises, asked_in, AreAsked}
use Rattle.rn_arcs.specs.Places.{InstPlace, place_cmp, is_at}
use Rattle.rn_arcs.specs.declared.ask.Ask.{Ask}
use Rattle.rn_arcs.specs.declared.asked.Asked.{Asked}
use Rattle.rn_arcs.proofs.AsksOfBindings.{asks_are}
use Rattle.rn_arcs.proofs.JoiningItems.{joined_give}
use Rattle.rn_arcs.proofs.RisingPlaces.{those_at, one_at, OneAt, joined_rise}

mapped_test : (g : Asked) (hs : List Asked) (here : Bool) →
    cond here (in_order g ∷ map in_order hs) (map in_order hs)
    ≡ map in_order (cond here (g ∷ hs) hs)
mapped_test g hs true = refl
mapped_test g hs false = refl

those_mapped : (k : InstPlace) (gs : List Asked) →
    those_at place_of k (map in_order gs) ≡ map in_order (those_at place_of k gs)
those_mapped k [] = refl
those_mapped k (g ∷ gs) =
    let here = is_at k (place_of g) in
    ap (λ hs. cond here (in_order g ∷ hs) hs) (those_mapped k gs)
    ∙ mapped_test g (those_at place_of k gs) here

all_mapped : (k : InstPlace) (gs : List Asked) →
    AllByRecursion (λ h. place_cmp k (place_of h) ≡ Less) gs →
    AllByRecursion (λ h. place_cmp k (place_of h) ≡ Less) (map in_order gs)
all_mapped k [] all = tt
all_mapped k (g ∷ gs) all = (all.0, all_mapped k gs all.1)

rises_mapped : (gs : List Asked) → Rises gs → Rises (map in_order gs)
rises_mapped [] r = tt
rises_mapped (g ∷ gs) r = (all_mapped (place_of g) gs r.0, rises_mapped gs r.1)

-- putting the places in order changes what is asked of each
module _ {A : Type 0} (select : Asked → List A) (change : List A → List A)
    (nothing : change [] ≡ []) (is : (g : Asked) → select (in_order g) ≡ change (select g)) where
  by_places : (k : InstPlace) (gs : List Asked) →
      (those_at place_of k gs ≡ []) ⊎ OneAt place_of k gs →
      flat_map select (map in_order (those_at place_of k gs))
      ≡ change (flat_map select (those_at place_of k gs))
  by_places k gs (inl none) =
      ap (λ hs. flat_map select (map in_order hs)) none
      ∙ sym nothing ∙ ap (λ hs. change (flat_map select hs)) (sym none)
  by_places k gs (inr (g, there, same, only)) =
      ap (λ hs. flat_map select (map in_order hs)) only
      ∙ append-nil (select (in_order g)) ∙ is g
      ∙ ap change (sym (append-nil (select g)))
      ∙ ap (λ hs. change (flat_map select hs)) (sym only)

  ordered_asks : (gs : List Asked) → Rises gs → (k : InstPlace) →
      asked_in select (map in_order gs) k ≡ change (asked_in select gs k)
  ordered_asks gs r k =
      ap (flat_map select) (those_mapped k gs) ∙ by_places k gs (one_at place_of k gs r)

-- only outputs are left out, and these take, test, inhibit and clear nothing
unwanted : (kind : ArcKind) → is_wanted false kind ≡ false →
    (kind ≡ Output) ⊎ (kind ≡ FlexOutput)
unwanted Output e = inl refl
unwanted FlexOutput e = inr refl
unwanted Input e = cc
unwanted Test e = cc
unwanted Reserve e = cc
unwanted FlexInput e = cc
unwanted Inhibit e = cc
unwanted Clear e = cc

pick_wanted : {A : Type 0} (pick : ArcKind → Value → List A) → ((v : Value) → pick Output v ≡ []) →
    ((v : Value) → pick FlexOutput v ≡ []) → (outputs : Bool) (kind : ArcKind) (v : Value) →
    is_wanted outputs kind ≡ false → pick kind v ≡ []
pick_wanted pick out flexout true kind v e = cc
pick_wanted pick out flexout false kind v e =
    elim (unwanted kind e) as (λ _. pick kind v ≡ []) [
      | inl is ↦ subst (λ k. pick k v ≡ []) (sym is) (out v)
      | inr is ↦ subst (λ k. pick k v ≡ []) (sym is) (flexout v)
    ]

puts_wanted : (outputs : Bool) → outputs ≡ true → (kind : ArcKind) (v : Value) →
    is_wanted outputs kind ≡ false → puts kind v ≡ []
puts_wanted true are kind v e = cc
puts_wanted false are kind v e = cc

module _ (outputs : Bool) (system : System) (b : Binding) (sorted : List Ask)
    (up : IsSortedByKey place_asked place_cmp sorted)
    (stable : (k : InstPlace) → filter (λ a. is_at k (place_asked a)) sorted
    ≡ filter (λ a. is_at k (place_asked a)) (binding_asks outputs system b)) where
  groups_rise : Rises (groups_of sorted)
  groups_rise =
      joined_rise place_of place_asked first_of joined_ask (λ a. refl) (λ a g. refl) sorted up

  module _ {A : Type 0} (select : Asked → List A) (pick : ArcKind → Value → List A)
      (none : (k : InstPlace) → select (fresh k) ≡ [])
      (more : (kind : ArcKind) (v : Value) (g : Asked) →
      select (with_arc kind v g) ≡ select g ++ pick kind v)
      (wanted : (kind : ArcKind) (v : Value) → is_wanted outputs kind ≡ false →
      pick kind v ≡ []) where
    groups_are : (k : InstPlace) →
        asked_in select (groups_of sorted) k ≡ asked_at pick system (readings system b) k.0 k.1
    groups_are k =
        joined_give place_of place_asked first_of joined_ask select (λ a. pick a.kind a.value)
        (λ a. refl) (λ a g. refl)
        (λ a. more a.kind a.value (fresh (place_asked a))
        ∙ ap (λ vs. vs ++ pick a.kind a.value) (none (place_asked a)))
        (λ a g. more a.kind a.value g) k [] sorted
        ∙ ap (flat_map (λ a. pick a.kind a.value)) (stable k)
        ∙ asks_are pick outputs wanted k system b

    in_order_are : (change : List A → List A) → change [] ≡ [] →
        ((g : Asked) → select (in_order g) ≡ change (select g)) → (k : InstPlace) →
        asked_in select (map in_order (groups_of sorted)) k
        ≡ change (asked_at pick system (readings system b) k.0 k.1)
    in_order_are change nothing is k =
        ordered_asks select change nothing is (groups_of sorted) (groups_rise) k
        ∙ ap change (groups_are k)

  pub are_asked : AreAsked outputs system b (map in_order (groups_of sorted))
  are_asked = record {
    rises = rises_mapped (groups_of sorted) (groups_rise);
    taken = in_order_are (λ g. g.taken) takes (λ k. refl) (λ kind v g. refl)
        (pick_wanted takes (λ v. refl) (λ v. refl) outputs) ordered_values refl (λ g. refl);
    tested = in_order_are (λ g. g.tested) tests (λ k. refl) (λ kind v g. refl)
        (pick_wanted tests (λ v. refl) (λ v. refl) outputs) ordered_values refl (λ g. refl);
    inhibited = in_order_are (λ g. g.inhibited) inhibits (λ k. refl) (λ kind v g. refl)
        (pick_wanted inhibits (λ v. refl) (λ v. refl) outputs) ordered_values refl (λ g. refl);
    cleared = in_order_are (λ g. g.cleared) clears (λ k. refl) (λ kind v g. refl)
        (pick_wanted clears (λ v. refl) (λ v. refl) outputs) (λ xs. xs) refl (λ g. refl);
    put = λ are. in_order_are (λ g. g.put) puts (λ k. refl) (λ kind v g. refl)
        (puts_wanted outputs are) ordered_values refl (λ g. refl);
  }

taken_ascends : (gs : List Asked) →
    AllByRecursion (λ g. IsSorted value_cmp g.taken) (map in_order gs)
taken_ascends [] = tt
taken_ascends (g ∷ gs) = (ordered_values_ascend g.taken, taken_ascends gs)

-- what is taken of each place ascends
pub taken_sorted : (gs : List Asked) → All (λ g. IsSorted value_cmp g.taken) (map in_order gs)
taken_sorted gs =
    All-from_recursion (λ g. IsSorted value_cmp g.taken) (map in_order gs) (taken_ascends gs)

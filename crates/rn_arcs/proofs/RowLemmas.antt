-- The rows of all places have what is asked of each.
use Rattle.std.proofs.Common.{◌≡◌, ℕ, Bool, true, false, cond, List, [], ◌∷◌, ◌++◌, map}
use Rattle.std.proofs.Common.{refl, sym, ap, ◌∙◌, subst, inl, inr}
use Rattle.std.specs.Prelude.{◌⊎◌, filter}
use Rattle.std.specs.List.{flat_map, AllByRecursion}
use Rattle.std.specs.Ordering.{is_lt}
use Rattle.std.specs.Cmp.{tied_itself}
use Rattle.std.specs.declared.cmp.Ordering.TheVariants.{Less}
use Rattle.std.proofs.lemmas.List.{append-nil, map-append}
use Rattle.std.proofs.lemmas.List.Elements.{filter-append}
use Rattle.rn_value.specs.declared.value.InstRef.{InstRef}
use Rattle.rn_value.specs.declared.value.Value.{Value}
use Rattle.rn_model.specs.declared.system.System.{System}
use Rattle.rn_model.specs.declared.binding.Binding.{Binding}
use Rattle.rn_model.specs.Demands.{filled_at}
use Rattle.rn_model.specs.Demands.{taken_at, tested_at, inhibited_at, cleared_at, put_at}
use Rattle.rn_arcs.specs.Demanded.{HasRows, HasFills, AreDemandsOf, AreTakingsOf, one_row}
use Rattle.rn_arcs.specs.Demanded.{row_place, rows_at}
use Rattle.rn_arcs.specs.link.Groups.{place_of, asked_in, AreAsked, Rises}
use Rattle.rn_arcs.specs.Places.{InstPlace, place_cmp, is_at}
use Rattle.rn_arcs.specs.link.Rows.{row_of, rows_of, taken_rows, tested_rows, inhibited_rows}
use Rattle.rn_arcs.specs.link.Rows.{cleared_rows, put_rows}
use Rattle.rn_arcs.specs.declared.asked.Asked.{Asked}
use Rattle.rn_arcs.specs.declared.demands.Place2.{Place2}
use Rattle.rn_arcs.specs.declared.demands.Demands.{Demands}
use Rattle.rn_arcs.specs.declared.demands.Takings.{Takings}
use Rattle.rn_arcs.proofs.Gathering.{at_place-append, at_place-one, nil}
use Rattle.rn_arcs.proofs.PlaceOrder.{place_total}
use Rattle.rn_arcs.proofs.RisingPlaces.{those_at, one_at, OneAt, all_map, Ups, sorted_of}
use Rattle.rn_arcs.proofs.RisingPlaces.{not_below}

module _ (lists : Asked → List (List Value)) where
  abbrev rows : Asked → List Place2
  rows g = rows_of (place_of g) (lists g)

  all_own : (P : InstPlace → Type 0) (l : InstPlace) (vss : List (List Value)) (rs : List Place2) → P l →
      AllByRecursion (λ r. P (row_place r)) rs →
      AllByRecursion (λ r. P (row_place r)) (rows_of l vss ++ rs)
  all_own P l [] rs p all = all
  all_own P l (vs ∷ vss) rs p all = (p, all_own P l vss rs p all)

  all_rows : (P : InstPlace → Type 0) (gs : List Asked) → AllByRecursion (λ g. P (place_of g)) gs →
      AllByRecursion (λ r. P (row_place r)) (flat_map rows gs)
  all_rows P [] all = tt
  all_rows P (g ∷ gs) all =
      all_own P (place_of g) (lists g) (flat_map rows gs) all.0 (all_rows P gs all.1)

  ups_own : (l : InstPlace) (vss : List (List Value)) (rs : List Place2) →
      AllByRecursion (λ r. is_lt (place_cmp (row_place r) l) ≡ false) rs → Ups row_place rs →
      Ups row_place (rows_of l vss ++ rs)
  ups_own l [] rs low up = up
  ups_own l (vs ∷ vss) rs low up = (
    all_own (λ m. is_lt (place_cmp m l) ≡ false) l vss rs
        (ap is_lt (tied_itself place_total l)) low,
    ups_own l vss rs low up,
  )

  rows_up : (gs : List Asked) → Rises gs → Ups row_place (flat_map rows gs)
  rows_up [] r = tt
  rows_up (g ∷ gs) r =
      ups_own (place_of g) (lists g) (flat_map rows gs)
      (all_rows (λ m. is_lt (place_cmp m (place_of g)) ≡ false) gs
      (all_map (λ h. place_cmp (place_of g) (place_of h) ≡ Less)
      (λ h. is_lt (place_cmp (place_of h) (place_of g)) ≡ false) gs
      (λ h low. not_below (place_of g) (place_of h) low) r.0))
      (rows_up gs r.1)

  -- the rows of a place
  module _ (k : InstPlace) where
    abbrev values_at : List Place2 → List (List Value)
    values_at rs = rows_at rs k.0 k.1

    values-append : (rs ss : List Place2) →
        values_at (rs ++ ss) ≡ values_at rs ++ values_at ss
    values-append rs ss =
        let here = λ (r : Place2). is_at k (row_place r) in
        ap (map (λ r. r.values)) (filter-append here rs ss)
        ∙ map-append (λ r. r.values) (filter here rs) (filter here ss)

    by_test : (l : InstPlace) (vs : List Value) (here : Bool) (rest : List Place2)
        (vss : List (List Value)) → map (λ r. r.values) rest ≡ cond here vss [] →
        map (λ r. r.values) (cond here (row_of l vs ∷ rest) rest) ≡ cond here (vs ∷ vss) []
    by_test l vs true rest vss e = ap (λ us. vs ∷ us) e
    by_test l vs false rest vss e = e

    no_lists : (here : Bool) → nil (List Value) ≡ cond here [] []
    no_lists true = refl
    no_lists false = refl

    own_values : (l : InstPlace) (vss : List (List Value)) →
        values_at (rows_of l vss) ≡ cond (is_at k l) vss []
    own_values l [] = no_lists (is_at k l)
    own_values l (vs ∷ vss) =
        by_test l vs (is_at k l) (filter (λ r. is_at k (row_place r)) (rows_of l vss)) vss
        (own_values l vss)

    all_values : (gs : List Asked) → values_at (flat_map rows gs) ≡ asked_in lists gs k
    all_values [] = refl
    all_values (g ∷ gs) =
        values-append (rows g) (flat_map rows gs)
        ∙ ap (λ us. us ++ values_at (flat_map rows gs))
        (own_values (place_of g) (lists g) ∙ sym (at_place-one place_of lists k g))
        ∙ ap (λ us. asked_in lists (g ∷ []) k ++ us) (all_values gs)
        ∙ sym (at_place-append place_of lists k (g ∷ []) gs)

  pub has_rows : (gs : List Asked) (wanted : InstRef → ℕ → List (List Value)) → Rises gs →
      ((k : InstPlace) → asked_in lists gs k ≡ wanted k.0 k.1) → HasRows (flat_map rows gs) wanted
  has_rows gs wanted r are = record {
    ascending = sorted_of row_place (flat_map rows gs) (rows_up gs r);
    exact = λ inst place. all_values (inst, place) gs ∙ are (inst, place);
  }

-- one row of what is asked of a place
module _ (select : Asked → List Value) where
  by_places : (k : InstPlace) (gs : List Asked) →
      (those_at place_of k gs ≡ []) ⊎ OneAt place_of k gs →
      flat_map (λ g. one_row (select g)) (those_at place_of k gs)
      ≡ one_row (flat_map select (those_at place_of k gs))
  by_places k gs (inl none) =
      ap (flat_map (λ g. one_row (select g))) none
      ∙ ap (λ hs. one_row (flat_map select hs)) (sym none)
  by_places k gs (inr (g, there, is, only)) =
      ap (flat_map (λ g. one_row (select g))) only
      ∙ append-nil (one_row (select g)) ∙ ap one_row (sym (append-nil (select g)))
      ∙ ap (λ hs. one_row (flat_map select hs)) (sym only)

  in_one_row : (gs : List Asked) (wanted : InstRef → ℕ → List Value) → Rises gs →
      ((k : InstPlace) → asked_in select gs k ≡ wanted k.0 k.1) → (k : InstPlace) →
      asked_in (λ g. one_row (select g)) gs k ≡ one_row (wanted k.0 k.1)
  in_one_row gs wanted r are k =
      by_places k gs (one_at place_of k gs r) ∙ ap one_row (are k)

  pub has_one_row : (gs : List Asked) (wanted : InstRef → ℕ → List Value) → Rises gs →
      ((k : InstPlace) → asked_in select gs k ≡ wanted k.0 k.1) →
      HasRows (flat_map (λ g. rows_of (place_of g) (one_row (select g))) gs)
      (λ inst place. one_row (wanted inst place))
  has_one_row gs wanted r are =
      has_rows (λ g. one_row (select g)) gs (λ inst place. one_row (wanted inst place)) r
      (in_one_row gs wanted r are)

-- rows of all places, sort by sort
pub record AreRowsOf (gs : List Asked) (d : Demands) : Type 0 where
  pub taken : d.taken ≡ flat_map taken_rows gs
  pub tested : d.tested ≡ flat_map tested_rows gs
  pub inhibited : d.inhibited ≡ flat_map inhibited_rows gs
  pub cleared : d.cleared ≡ flat_map cleared_rows gs
  pub put : d.put ≡ flat_map put_rows gs

module _ (outputs : Bool) (system : System) (b : Binding) (gs : List Asked)
    (asked : AreAsked outputs system b gs) where
  taken_are : (rs : List Place2) → rs ≡ flat_map taken_rows gs →
      HasRows rs (λ inst place. one_row (taken_at system b inst place))
  taken_are rs are =
      subst (λ rs. HasRows rs (λ inst place. one_row (taken_at system b inst place))) (sym are)
      (has_one_row (λ g. g.taken) gs (taken_at system b) asked.rises asked.taken)

  cleared_are : (rs : List Place2) → rs ≡ flat_map cleared_rows gs →
      HasRows rs (λ inst place. cleared_at system b inst place)
  cleared_are rs are =
      subst (λ rs. HasRows rs (cleared_at system b)) (sym are)
      (has_rows (λ g. g.cleared) gs (cleared_at system b) asked.rises asked.cleared)

pub takings_are : (system : System) (b : Binding) (gs : List Asked) (t : Takings) →
    AreAsked false system b gs → t.taken ≡ flat_map taken_rows gs →
    t.cleared ≡ flat_map cleared_rows gs → AreTakingsOf system b t
takings_are system b gs t asked taken cleared = record {
  taken = taken_are false system b gs asked t.taken taken;
  cleared = cleared_are false system b gs asked t.cleared cleared;
}

pub demands_are : (system : System) (b : Binding) (gs : List Asked) (d : Demands) →
    AreAsked true system b gs → HasFills d.filled (filled_at system b) → AreRowsOf gs d →
    AreDemandsOf system b d
demands_are system b gs d asked fills are = record {
  taken = taken_are true system b gs asked d.taken are.taken;
  tested = subst (λ rs. HasRows rs (λ inst place. one_row (tested_at system b inst place)))
      (sym are.tested)
      (has_one_row (λ g. g.tested) gs (tested_at system b) asked.rises asked.tested);
  inhibited = subst (λ rs. HasRows rs (λ inst place. one_row (inhibited_at system b inst place)))
      (sym are.inhibited)
      (has_one_row (λ g. g.inhibited) gs (inhibited_at system b) asked.rises asked.inhibited);
  cleared = cleared_are true system b gs asked d.cleared are.cleared;
  put = subst (λ rs. HasRows rs (λ inst place. one_row (put_at system b inst place)))
      (sym are.put)
      (has_one_row (λ g. g.put) gs (put_at system b) asked.rises (asked.put refl));
  filled = fills;
}

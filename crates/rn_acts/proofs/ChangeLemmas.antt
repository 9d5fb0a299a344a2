-- The rows of demands, as rows of a change.
use Rattle.std.proofs.Common.{◌≡◌, ℕ, Bool, true, false, cond, List, [], ◌∷◌, ◌++◌, map, refl, sym}
use Rattle.std.proofs.Common.{ap, ◌∙◌, ◌&&◌}
use Rattle.std.specs.Prelude.{nat_eq, filter}
use Rattle.std.specs.List.{flat_map}
use Rattle.std.specs.Ordering.{is_eq, nat_cmp}
use Rattle.std.proofs.lemmas.Grind.{flat_map-append}
use Rattle.std.proofs.lemmas.List.{append-nil}
use Rattle.rn_value.specs.declared.value.InstRef.{InstRef}
use Rattle.rn_value.specs.declared.value.InstRef.TheVariants.{Old, New}
use Rattle.rn_value.specs.declared.value.Value.{Value}
use Rattle.rn_model.specs.declared.system.System.{System}
use Rattle.rn_model.specs.declared.binding.Binding.{Binding}
use Rattle.rn_model.specs.Demands.{taken_at, cleared_at}
use Rattle.rn_model.specs.Firing.{Effects, creations_of, marking_after}
use Rattle.rn_model.specs.Lists.{count_of}
use Rattle.rn_model.specs.Markings.{Marking}
use Rattle.rn_arcs.specs.Demanded.{AreTakingsOf, one_row, row_place, rows_at}
use Rattle.rn_arcs.specs.Places.{is_at}
use Rattle.rn_arcs.specs.declared.demands.Place2.{Place2}
use Rattle.rn_arcs.specs.declared.demands.Takings.{Takings}
use Rattle.rn_arcs.proofs.PlaceOrder.{eq_then}
use Rattle.rn_table.proofs.FiringLemmas.{firing_is_change}
use Rattle.rn_table.specs.Changes.{changed, values_at}
use Rattle.rn_table.specs.Laws.{IsChangeOf, LeavesNew}
use Rattle.rn_table.specs.declared.change.Change.{Change}
use Rattle.rn_table.specs.declared.change.Row.{Row}
use Rattle.rn_acts.specs.Acted.{ArePut}
use Rattle.rn_acts.specs.link.ChangeRows.{row_at, numbered_row}
use Rattle.rn_acts.proofs.RowLemmas.{same_number}

-- all values of these lists
abbrev pub all_of : List (List Value) → List Value
all_of lists = flat_map (λ vs. vs) lists

pub all_of_one : (vs : List Value) → all_of (one_row vs) ≡ vs
all_of_one [] = refl
all_of_one (v ∷ vs) = append-nil (v ∷ vs)

module _ (n place : ℕ) where
  by_test : (here : Bool) (vs : List Value) (r : Place2) (rest : List Place2) → r.values ≡ vs →
      all_of (map (λ s. s.values) (cond here (r ∷ rest) rest))
      ≡ cond here vs [] ++ all_of (map (λ s. s.values) rest)
  by_test true vs r rest e = ap (λ us. us ++ all_of (map (λ s. s.values) rest)) e
  by_test false vs r rest e = refl

  one_at : (inst : InstRef) (at : ℕ) (vs : List Value) →
      values_at (row_at inst at vs) n place ≡ cond (is_at (Old n, place) (inst, at)) vs []
  one_at (Old m) at vs =
      append-nil (cond (nat_eq n m && nat_eq place at) vs [])
      ∙ ap (λ t. cond (t && nat_eq place at) vs []) (same_number m n)
      ∙ ap (λ t. cond (is_eq (nat_cmp m n) && t) vs []) (same_number at place)
      ∙ ap (λ t. cond t vs []) (sym (eq_then (nat_cmp m n) (nat_cmp at place)))
  one_at (New path j) at vs = refl

  -- what the rows have at a place of an instance with a number
  pub numbered_at : (rows : List Place2) →
      values_at (flat_map numbered_row rows) n place ≡ all_of (rows_at rows (Old n) place)
  numbered_at [] = refl
  numbered_at (r ∷ rows) =
      let rest = filter (λ s. is_at (Old n, place) (row_place s)) rows in
      flat_map-append (λ (row : Row). cond (nat_eq n row.inst && nat_eq place row.place) row.values [])
      (numbered_row r) (flat_map numbered_row rows)
      ∙ ap (λ vs. vs ++ values_at (flat_map numbered_row rows) n place)
      (one_at r.inst r.place r.values)
      ∙ ap (λ vs. cond (is_at (Old n, place) (row_place r)) r.values [] ++ vs) (numbered_at rows)
      ∙ sym (by_test (is_at (Old n, place) (row_place r)) r.values r rest refl)

module _ (system : System) (b : Binding) where
  pub taken_are : (d : Takings) (rows : List Row) → AreTakingsOf system b d →
      rows ≡ flat_map numbered_row d.taken → (n place : ℕ) →
      values_at rows n place ≡ taken_at system b (Old n) place
  taken_are d rows are is n place =
      ap (λ rs. values_at rs n place) is ∙ numbered_at n place d.taken
      ∙ ap all_of (are.taken.exact (Old n) place) ∙ all_of_one (taken_at system b (Old n) place)

  pub cleared_are : (d : Takings) (rows : List Row) → AreTakingsOf system b d →
      rows ≡ flat_map numbered_row d.cleared → (n place : ℕ) →
      values_at rows n place ≡ all_of (cleared_at system b (Old n) place)
  cleared_are d rows are is n place =
      ap (λ rs. values_at rs n place) is ∙ numbered_at n place d.cleared
      ∙ ap all_of (are.cleared.exact (Old n) place)

  -- so the change leads to the marking after the firing
  pub leads_after : (change : Change) (effects : Effects) (m : Marking) →
      ((n place : ℕ) → values_at change.taken n place ≡ taken_at system b (Old n) place) →
      ((n place : ℕ) → values_at change.cleared n place
      ≡ all_of (cleared_at system b (Old n) place)) →
      change.made ≡ map (λ c. c.net) (creations_of system b) →
      ArePut system effects change.put → LeavesNew change m.next →
      changed system change m ≡ marking_after system m (creations_of system b) b effects
  leads_after change effects m taken cleared made put leaves =
      let rows : IsChangeOf system (creations_of system b) b effects change = record {
        taken = λ n place v. ap (count_of v) (taken n place);
        cleared = λ n place v. ap (count_of v) (cleared n place);
        put = λ n place v. ap (count_of v) (put n place);
        nets = made;
      } in
      firing_is_change system m (creations_of system b) b effects change rows leaves

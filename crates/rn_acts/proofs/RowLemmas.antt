-- The rows of the arcs have at each place what the arcs put there.
use Rattle.std.proofs.Common.{◌≡◌, ℕ, Bool, true, false, cond, List, [], ◌∷◌, ◌++◌, refl, sym}
use Rattle.std.proofs.Common.{ap, ◌∙◌, ◌&&◌}
use Rattle.std.specs.Prelude.{nat_eq, ⊤}
use Rattle.std.specs.List.{flat_map}
use Rattle.std.specs.Option.{option_map_or}
use Rattle.std.specs.Cmp.{Equal-is, both_ways, tied_itself}
use Rattle.std.specs.Ordering.{is_eq, nat_cmp}
use Rattle.std.proofs.lemmas.Bool.{eqb-true, eq-eqb}
use Rattle.std.proofs.lemmas.Cmp.{nat_cmp_total}
use Rattle.std.proofs.lemmas.Map.Lookups.{exact_unsigned}
use Rattle.std.proofs.lemmas.Grind.{flat_map-append}
use Rattle.std.proofs.lemmas.List.{append-nil}
use Rattle.rn_value.specs.Order.{inst_cmp}
use Rattle.rn_value.specs.declared.value.InstRef.{InstRef}
use Rattle.rn_value.specs.declared.value.InstRef.TheVariants.{Old, New}
use Rattle.rn_value.specs.declared.value.Value.{Value}
use Rattle.rn_model.specs.declared.system.System.{System}
use Rattle.rn_model.specs.Demands.{Reading, asked_by_arc, asked_by_node, asked_at, puts}
use Rattle.rn_model.specs.Evaluation.{worth}
use Rattle.rn_model.specs.Systems.{transition_of}
use Rattle.rn_table.specs.Changes.{values_at}
use Rattle.rn_table.specs.declared.change.Row.{Row}
use Rattle.rn_acts.specs.link.Acted.{row_of, arc_rows, node_rows}

flipped : (p q : ℕ) → nat_eq p q ≡ nat_eq q p
flipped p q =
    both_ways (nat_eq p q) (nat_eq q p) (λ e. eq-eqb q p (sym (eqb-true p q e)))
    (λ e. eq-eqb p q (sym (eqb-true q p e)))

-- the same number
pub same_number : (p q : ℕ) → nat_eq q p ≡ is_eq (nat_cmp p q)
same_number p q =
    both_ways (nat_eq q p) (is_eq (nat_cmp p q))
    (λ e. (Equal-is (nat_cmp p q)).1
    (let same : q ≡ p = eqb-true q p e in ap (nat_cmp p) same ∙ tied_itself nat_cmp_total p))
    (λ e. eq-eqb q p (sym (exact_unsigned p q ((Equal-is (nat_cmp p q)).0 e))))

by_tests : (inst place : Bool) (vs : List Value) →
    cond (inst && place) vs [] ≡ cond inst (cond place vs []) []
by_tests true place vs = refl
by_tests false place vs = refl

-- each reads under its own instance
abbrev pub OwnThis : List Reading → Type 0
OwnThis [] = ⊤
OwnThis (r ∷ rs) = (r.env.this ≡ r.node.inst) × OwnThis rs

module _ (n place : ℕ) where
  abbrev here : List Row → List Value
  here rows = values_at rows n place

  -- the values of a row, where it is one of the place
  abbrev of_row : Row → List Value
  of_row row = cond (nat_eq n row.inst && nat_eq place row.place) row.values []

  here-append : (rs ss : List Row) → here (rs ++ ss) ≡ here rs ++ here ss
  here-append rs ss = flat_map-append of_row rs ss

  here-flat : {X : Type 0} (f : X → List Row) (xs : List X) →
      here (flat_map f xs) ≡ flat_map (λ x. here (f x)) xs
  here-flat f [] = refl
  here-flat f (x ∷ xs) =
      here-append (f x) (flat_map f xs) ∙ ap (λ vs. here (f x) ++ vs) (here-flat f xs)

  none_there : {X : Type 0} (t : Bool) → cond {A = List X} t [] [] ≡ []
  none_there true = refl
  none_there false = refl

  -- one row of an instance with a number
  own_row : (m at : ℕ) (vs : List Value) →
      here (row_of (Old m) at vs)
      ≡ cond (is_eq (inst_cmp (Old m) (Old n))) (cond (nat_eq at place) vs []) []
  own_row m at [] =
      sym (ap (λ us. cond (is_eq (inst_cmp (Old m) (Old n))) us []) (none_there (nat_eq at place))
      ∙ none_there (is_eq (inst_cmp (Old m) (Old n))))
  own_row m at (v ∷ vs) =
      append-nil (cond (nat_eq n m && nat_eq place at) (v ∷ vs) [])
      ∙ ap (λ t. cond (t && nat_eq place at) (v ∷ vs) []) (same_number m n)
      ∙ ap (λ t. cond (is_eq (inst_cmp (Old m) (Old n)) && t) (v ∷ vs) []) (flipped place at)
      ∙ by_tests (is_eq (inst_cmp (Old m) (Old n))) (nat_eq at place) (v ∷ vs)

  -- the row of an instance
  one_row : (inst : InstRef) (at : ℕ) (vs : List Value) →
      here (row_of inst at vs)
      ≡ cond (is_eq (inst_cmp inst (Old n))) (cond (nat_eq at place) vs []) []
  one_row (Old m) at vs = own_row m at vs
  one_row (New path j) at vs = refl

  by_inst : {X : Type 0} (inst : Bool) (f : X → List Value) (xs : List X) →
      flat_map (λ x. cond inst (f x) []) xs ≡ cond inst (flat_map f xs) []
  by_inst true f xs = refl
  by_inst false f [] = refl
  by_inst false f (x ∷ xs) = by_inst false f xs

  by_node : (system : System) (r : Reading) → r.env.this ≡ r.node.inst →
      here (node_rows system r.node r.env) ≡ asked_by_node puts system (Old n) place r
  by_node system r own =
      let arcs = (transition_of system r.node).arcs in
      let inst = is_eq (inst_cmp r.env.this (Old n)) in
      here-flat (arc_rows r.env) arcs
      ∙ (λ i. flat_map (λ arc. one_row r.env.this arc.place
      (option_map_or (puts arc.kind) (worth arc.inscription r.env) []) i) arcs)
      ∙ by_inst inst (asked_by_arc puts r.env place) arcs
      ∙ ap (λ j. cond (is_eq (inst_cmp j (Old n))) (flat_map (asked_by_arc puts r.env place) arcs) [])
      own

  pub rows_are : (system : System) (read : List Reading) → OwnThis read →
      here (flat_map (λ r. node_rows system r.node r.env) read)
      ≡ asked_at puts system read (Old n) place
  rows_are system [] own = refl
  rows_are system (r ∷ rs) own =
      here-append (node_rows system r.node r.env)
      (flat_map (λ r. node_rows system r.node r.env) rs)
      ∙ ap (λ vs. vs ++ here (flat_map (λ r. node_rows system r.node r.env) rs))
      (by_node system r own.0)
      ∙ ap (λ vs. asked_by_node puts system (Old n) place r ++ vs) (rows_are system rs own.1)

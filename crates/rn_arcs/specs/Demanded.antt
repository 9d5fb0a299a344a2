-- What a binding asks of the places, as rows.
use Rattle.std.specs.Prelude.{ℕ, zero, suc, ◌≡◌, List, [], ◌∷◌, map, filter}
use Rattle.std.specs.List.Sorted.{IsSortedByKey}
use Rattle.rn_value.specs.declared.value.InstRef.{InstRef}
use Rattle.rn_value.specs.declared.value.Value.{Value}
use Rattle.rn_model.specs.declared.system.System.{System}
use Rattle.rn_model.specs.declared.binding.Binding.{Binding}
use Rattle.rn_model.specs.Demands.{taken_at, tested_at, inhibited_at, cleared_at, put_at}
use Rattle.rn_model.specs.Demands.{filled_at}
use Rattle.rn_arcs.specs.Places.{InstPlace, place_cmp, is_at}
use Rattle.rn_arcs.specs.declared.demands.Place2.{Place2}
use Rattle.rn_arcs.specs.declared.demands.Fill.{Fill}
use Rattle.rn_arcs.specs.declared.demands.Demands.{Demands}
use Rattle.rn_arcs.specs.declared.demands.Takings.{Takings}

-- the place of a row
abbrev pub row_place : Place2 → InstPlace
row_place r = (r.inst, r.place)

-- the values of the rows of a place, row by row
abbrev pub rows_at : List Place2 → InstRef → ℕ → List (List Value)
rows_at rows inst place =
    map (λ r. r.values) (filter (λ r. is_at (inst, place) (row_place r)) rows)

-- These values as one row, and no row where there are none.
abbrev pub one_row : List Value → List (List Value)
one_row [] = []
one_row (v ∷ vs) = (v ∷ vs) ∷ []

-- The rows ascend by instance and place, and each place of each instance has exactly these rows, in
-- this order.
pub record HasRows (rows : List Place2) (lists : InstRef → ℕ → List (List Value)) : Type 0 where
  pub ascending : IsSortedByKey row_place place_cmp rows
  pub exact : (inst : InstRef) (place : ℕ) → rows_at rows inst place ≡ lists inst place

-- the place of a row
abbrev pub fill_place : Fill → InstPlace
fill_place f = (f.inst, f.place)

-- the numbers of the rows of a place, row by row
abbrev pub fills_at : List Fill → InstRef → ℕ → List ℕ
fills_at fills inst place =
    map (λ f. f.count) (filter (λ f. is_at (inst, place) (fill_place f)) fills)

-- A number as one row, and no row where it is 0.
abbrev pub one_count : ℕ → List ℕ
one_count zero = []
one_count (suc n) = suc n ∷ []

-- The rows ascend by instance and place, and each place of each instance has exactly one row with
-- its number, and none where that is 0.
pub record HasFills (fills : List Fill) (counts : InstRef → ℕ → ℕ) : Type 0 where
  pub ascending : IsSortedByKey fill_place place_cmp fills
  pub exact : (inst : InstRef) (place : ℕ) →
      fills_at fills inst place ≡ one_count (counts inst place)

-- The demands of a binding. What is taken, tested, inhibited or put at a place is one row of
-- ascending values, with repeats; each clear arc is a row of its own. How many tokens are put at a
-- place is one row, which counts the outputs too that hold an action variable.
pub record AreDemandsOf (system : System) (b : Binding) (d : Demands) : Type 0 where
  pub taken : HasRows d.taken (λ inst place. one_row (taken_at system b inst place))
  pub tested : HasRows d.tested (λ inst place. one_row (tested_at system b inst place))
  pub inhibited : HasRows d.inhibited (λ inst place. one_row (inhibited_at system b inst place))
  pub cleared : HasRows d.cleared (λ inst place. cleared_at system b inst place)
  pub put : HasRows d.put (λ inst place. one_row (put_at system b inst place))
  pub filled : HasFills d.filled (filled_at system b)

-- What of the demands of a binding leaves its places: what is taken, as one row of ascending values
-- a place, with repeats, and each clear arc's list as a row of its own.
pub record AreTakingsOf (system : System) (b : Binding) (t : Takings) : Type 0 where
  pub taken : HasRows t.taken (λ inst place. one_row (taken_at system b inst place))
  pub cleared : HasRows t.cleared (λ inst place. cleared_at system b inst place)

-- The text of a value, with its instances written by a function.
use Rattle.std.specs.Prelude.{ℕ, List, [], ◌∷◌, ◌++◌, Option, Some, None}
use Rattle.std.specs.List.{join_by}
use Rattle.rn_value.specs.declared.value.InstRef.{InstRef}
use Rattle.rn_value.specs.declared.value.InstRef.TheVariants.{Old, New}
use Rattle.rn_value.specs.declared.value.Value.{Value, fold-Value}
use Rattle.rn_value.specs.declared.value.Value.TheOpen as V
use Rattle.rn_value.specs.Text.{whole_number, quoted}

-- the number of an instance that exists
abbrev pub number_of : InstRef → Option ℕ
number_of (Old n) = Some n
number_of (New path index) = None

-- items one after the other, with commas between them
abbrev pub spelled_row : List ((InstRef → List ℕ) → List ℕ) → (InstRef → List ℕ) → List ℕ
spelled_row items inst = join_by (λ text. text inst) (44 ∷ []) items

-- one layer of a value, where each item is given by what writes it
abbrev pub spelled_step : V.Value-F ((InstRef → List ℕ) → List ℕ) → (InstRef → List ℕ) → List ℕ
spelled_step (V.Int n) inst = whole_number n
spelled_step (V.Text s) inst = quoted s
spelled_step (V.Tuple items) inst = 91 ∷ spelled_row items inst ++ 93 ∷ []
spelled_step (V.List items) inst = 123 ∷ spelled_row items inst ++ 125 ∷ []
spelled_step (V.Inst i) inst = inst i

-- the text of a value, where this writes its instances
abbrev pub spelled : Value → (InstRef → List ℕ) → List ℕ
spelled = fold-Value ((InstRef → List ℕ) → List ℕ) spelled_step

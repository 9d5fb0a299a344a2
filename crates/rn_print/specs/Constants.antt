-- The canonical text of constants.
use Rattle.std.specs.Prelude.{ℕ, List, ◌++◌, codes}
use Rattle.rn_value.specs.Text.{whole_number, quoted}
use Rattle.rn_net.specs.declared.constants.PConst.{PConst, PConst-F, fold-PConst}
use Rattle.rn_net.specs.declared.constants.PConstForm.TheOpen as C
use Rattle.rn_print.specs.Pieces.{listed}

-- A number is decimal, without leading zeros. A text stands in quotes, with its escapes. `[1,"a"]`
-- is a tuple and `{1,2}` a list. (This is one layer, where each constant in it is given by its text.)
abbrev pub constant_form_step : C.PConstForm-F (List ℕ) (List ℕ) → List ℕ
constant_form_step (C.Int n) = whole_number n
constant_form_step (C.Text s) = quoted s
constant_form_step (C.Tuple items) = codes "[" ++ listed items ++ codes "]"
constant_form_step (C.List items) = codes "{" ++ listed items ++ codes "}"

abbrev pub constant_step : PConst-F (List ℕ) (List ℕ) → List ℕ
constant_step constant = constant.form

-- the text of a constant
abbrev pub constant_text : PConst → List ℕ
constant_text = fold-PConst (List ℕ) (List ℕ) constant_form_step constant_step

-- The canonical text of kinds.
use Rattle.std.specs.Prelude.{ℕ, List, ◌++◌, codes}
use Rattle.rn_net.specs.declared.kinds.PKind.{PKind, PKind-F, fold-PKind}
use Rattle.rn_net.specs.declared.kinds.PKindForm.TheOpen as K
use Rattle.rn_print.specs.Pieces.{listed}

-- `int`, `text`, `net`, `[int,text]`, `{int}`. (This is one layer, where each kind in it is given
-- by its text.)
abbrev pub kind_form_step : K.PKindForm-F (List ℕ) (List ℕ) → List ℕ
kind_form_step K.Int = codes "int"
kind_form_step K.Text = codes "text"
kind_form_step (K.Tuple kinds) = codes "[" ++ listed kinds ++ codes "]"
kind_form_step (K.List kind) = codes "{" ++ kind ++ codes "}"
kind_form_step K.Net = codes "net"

abbrev pub kind_step : PKind-F (List ℕ) (List ℕ) → List ℕ
kind_step kind = kind.form

-- the text of a kind
abbrev pub kind_text : PKind → List ℕ
kind_text = fold-PKind (List ℕ) (List ℕ) kind_form_step kind_step

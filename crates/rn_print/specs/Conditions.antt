-- The canonical text of conditions.
use Rattle.std.specs.Prelude.{ℕ, List, ◌++◌, codes}
use Rattle.std.specs.List.{join_by}
use Rattle.rn_model.specs.declared.expr.CompareKind.{CompareKind}
use Rattle.rn_model.specs.declared.expr.CompareKind.TheVariants.{Same, Differs, Less, AtMost}
use Rattle.rn_model.specs.declared.expr.CompareKind.TheVariants.{Greater, AtLeast}
use Rattle.rn_inscript.specs.declared.conds.PCond.{PCond, PCond-F, fold-PCond}
use Rattle.rn_inscript.specs.declared.conds.PSimple.{PSimple, fold-PSimple}
use Rattle.rn_inscript.specs.declared.conds.PSimple.TheOpen as S
use Rattle.rn_print.specs.Pieces.{separated, in_parentheses}
use Rattle.rn_print.specs.Expressions.{expr_text}

-- a comparison, with a space on each side
abbrev pub comparison : CompareKind → List ℕ
comparison Same = codes " == "
comparison Differs = codes " != "
comparison Less = codes " < "
comparison AtMost = codes " <= "
comparison Greater = codes " > "
comparison AtLeast = codes " >= "

-- `a < b`, an expression alone, and `!(c)`. (This is one layer, where a condition in it is given by
-- its text.)
abbrev pub simple_step : S.PSimple-F (List ℕ) (List ℕ) → List ℕ
simple_step (S.Compare kind a b) = expr_text a ++ comparison kind ++ expr_text b
simple_step (S.Bare a) = expr_text a
simple_step (S.Not cond) = codes "!" ++ in_parentheses cond

-- what `&&` joins
abbrev pub all_step : List (List ℕ) → List ℕ
all_step simples = separated (codes " && ") simples

-- what `||` joins
abbrev pub cond_step : PCond-F (List ℕ) (List ℕ) → List ℕ
cond_step cond = join_by all_step (codes " || ") cond.any

-- the text of a condition
abbrev pub cond_text : PCond → List ℕ
cond_text = fold-PCond (List ℕ) (List ℕ) simple_step cond_step

-- the text of a comparison, of an expression alone or of a negation
abbrev pub simple_text : PSimple → List ℕ
simple_text = fold-PSimple (List ℕ) (List ℕ) simple_step cond_step

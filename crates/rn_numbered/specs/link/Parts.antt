-- Parts of the numbering, each as one function of the code makes it. It connects the code with the
-- definitions, and states no rule.
use Rattle.std.specs.Prelude.{ℕ, List, map}
use Rattle.rn_model.specs.declared.expr.Cond.{Cond, roll-Cond}
use Rattle.rn_model.specs.declared.expr.Simple.{Simple}
use Rattle.rn_inscript.specs.declared.conds.PSimple.{PSimple, fold-PSimple}
use Rattle.rn_numbered.specs.Numbered.{simple_of_form}

-- the comparison or negation with numbers in place of names, where variables have these
abbrev pub simple_of : PSimple → (List ℕ → ℕ) → Simple
simple_of =
    fold-PSimple ((List ℕ → ℕ) → Simple) ((List ℕ → ℕ) → Cond) simple_of_form
    (λ cond var. roll-Cond (record { any = map (map (λ simple. simple var)) cond.any }))

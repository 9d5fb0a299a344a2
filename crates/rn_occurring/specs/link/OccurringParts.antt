-- The variables of a condition, as the code puts them. It connects the code with the definitions,
-- and states no rule.
use Rattle.std.specs.Prelude.{ℕ, Bool, not, List, [], ◌++◌, flat_map, if◌then◌else◌}
use Rattle.rn_model.specs.declared.system.ArcKind.{ArcKind}
use Rattle.rn_model.specs.declared.system.NetArc.{NetArc}
use Rattle.rn_model.specs.declared.expr.Cond.{Cond}
use Rattle.rn_model.specs.declared.expr.Simple.{Simple, fold-Simple}
use Rattle.rn_model.specs.Systems.{vars_in, is_output}
use Rattle.rn_model.specs.Good.{Comparison, comparisons_step, comparisons_in}

-- all comparisons of a comparison or a negation
abbrev pub comparisons_of : Simple → List Comparison
comparisons_of =
    fold-Simple (List Comparison) (List Comparison) comparisons_step
    (λ cond. flat_map (λ list. flat_map (λ c. c) list) cond.any)

-- the variables of both sides
abbrev pub comparison_vars : Comparison → List ℕ
comparison_vars c = vars_in c.left ++ vars_in c.right

-- the variables of a comparison or a negation, and of a condition
abbrev pub vars_of_simple : Simple → List ℕ
vars_of_simple simple = flat_map comparison_vars (comparisons_of simple)

abbrev pub vars_of_cond : Cond → List ℕ
vars_of_cond cond = flat_map comparison_vars (comparisons_in cond)

-- whether an arc is an output, or whether it is none, as is asked
abbrev pub is_wanted : Bool → ArcKind → Bool
is_wanted outputs kind = if is_output kind then outputs else not outputs

-- the variables of an arc, if it is wanted
abbrev pub vars_of_arc : Bool → NetArc → List ℕ
vars_of_arc outputs arc = if is_wanted outputs arc.kind then vars_in arc.inscription else []

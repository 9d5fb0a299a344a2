-- How many tokens an arc puts: what is broken where a place with a capacity must know it.
use Rattle.std.specs.Prelude.{ℕ, Bool, true, false, ◌&&◌, ◌||◌, List, [], Option, Some, None}
use Rattle.std.specs.List.{list_any}
use Rattle.rn_inscript.specs.declared.exprs.PExpr.{PExpr, fold-PExpr}
use Rattle.rn_inscript.specs.declared.exprs.PForm.TheOpen as F
use Rattle.rn_model.specs.declared.system.ArcKind.{ArcKind}
use Rattle.rn_model.specs.declared.system.ArcKind.TheVariants.{FlexOutput}
use Rattle.rn_declared.specs.declared.fault.Rule.TheVariants as Rule
use Rattle.rn_declared.specs.declared.fault.Fault.{Fault}
use Rattle.rn_declared.specs.Faults.{broken_if}

-- one expression: whether it is a variable whose name passes a test, or a part of it holds one
abbrev pub holds_form : F.PForm-F ((List ℕ → Bool) → Bool) ((List ℕ → Bool) → Bool) →
    (List ℕ → Bool) → Bool
holds_form (F.Name name) test = test name
holds_form (F.Tuple parts) test = list_any (λ part. part test) parts
holds_form (F.List elements) test = list_any (λ e. e test) elements
holds_form (F.Cons elements tail) test = list_any (λ e. e test) elements || tail test
holds_form (F.Neg a) test = a test
holds_form (F.Op op a b) test = a test || b test
holds_form _ test = false

-- whether an expression holds a variable whose name passes a test
abbrev pub holds_name : PExpr → (List ℕ → Bool) → Bool
holds_name =
    fold-PExpr ((List ℕ → Bool) → Bool) ((List ℕ → Bool) → Bool) holds_form (λ e. e.form)

-- whether an arc puts the elements of a list
abbrev pub is_flex_output : ArcKind → Bool
is_flex_output FlexOutput = true
is_flex_output _ = false

-- What is broken in an arc to a place with a capacity or without one, where these names are action
-- variables: an action doesn't give the list whose elements it puts to a place with a capacity. So
-- it is known before the firing how many they are.
abbrev pub counted_faults : ArcKind → Bool → Option PExpr → (List ℕ → Bool) → List Fault
counted_faults kind capped None acts = []
counted_faults kind capped (Some e) acts =
    broken_if (is_flex_output kind && capped && holds_name e acts) Rule.Counted e.spot

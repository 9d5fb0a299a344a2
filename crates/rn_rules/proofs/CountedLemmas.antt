-- What is reported of how many tokens an arc puts.
use Rattle.std.proofs.Common.{◌≡◌, Bool, false, List, [], Option, None, Some, ℕ, refl, ap}
use Rattle.std.specs.Prelude.{◌&&◌}
use Rattle.rn_model.specs.declared.system.ArcKind.{ArcKind}
use Rattle.rn_inscript.specs.declared.exprs.PExpr.{PExpr}
use Rattle.rn_declared.specs.declared.fault.Rule.TheVariants as Rule
use Rattle.rn_declared.specs.declared.fault.Fault.{Fault}
use Rattle.rn_declared.specs.Faults.{broken_if}
use Rattle.rn_rules.specs.Counted.{counted_faults, holds_name, is_flex_output}

-- nothing of an arc that doesn't put the elements of a list
pub none_uncounted : (kind : ArcKind) (capped : Bool) (inscription : Option PExpr)
    (acts : List ℕ → Bool) → is_flex_output kind ≡ false →
    counted_faults kind capped inscription acts ≡ []
none_uncounted kind capped None acts other = refl
none_uncounted kind capped (Some e) acts other =
    ap (λ yes. broken_if (yes && capped && holds_name e acts) Rule.Counted e.spot) other

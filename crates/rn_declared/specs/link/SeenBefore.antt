-- What is known of a variable whose kind was seen. It connects the code with the definitions, and
-- states no rule.
use Rattle.std.specs.Prelude.{◌≡◌, ◌-◌, List, Option, Some, length, slice_get}
use Rattle.rn_net.specs.declared.plain.PVar.{PVar}
use Rattle.rn_declared.specs.declared.fault.Fault.{Fault}
use Rattle.rn_declared.specs.declared.pattern.Pattern.{Pattern}
use Rattle.rn_declared.specs.Faults.{first_from}
use Rattle.rn_declared.specs.Patterns.{pattern_of}
use Rattle.rn_declared.specs.Declarations.{kind_faults}

-- What is broken in its kind was reported, so that it adds nothing, and the last of these patterns
-- is that of its kind.
pub record WasSeen (known : Option Fault) (patterns : List Pattern) (var : PVar) : Type 0 where
  pub told : first_from known (kind_faults var.kind) ≡ known
  pub pattern : slice_get patterns (length patterns - 1) ≡ Some (pattern_of var.kind)

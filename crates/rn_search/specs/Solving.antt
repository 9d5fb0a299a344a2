-- What stands at the end of a branch, in the words of a search over choices.
use Rattle.std.specs.Prelude.{◌<◌, List, Some, None, length}
use Rattle.rn_model.specs.declared.binding.Binding.{Binding}
use Rattle.rn_model.specs.Bindings.{Shape}
use Rattle.rn_model.specs.Agreement.{Agrees}
use Rattle.rn_model.specs.Enabling.{Fits}
use Rattle.rn_model.specs.Good.{Good}
use Rattle.rn_choices.specs.Leading.{IsOnly}
use Rattle.rn_growing.specs.declared.decision.Decision.{Decision}
use Rattle.rn_growing.specs.Equations.{IsSolvable}
use Rattle.rn_search.specs.Sought.{Sought, StartsAt, Leads}
use Rattle.rn_search.specs.Ending.{AreDone, IsMadeOf}
use Rattle.rn_search.specs.Standing.{AreSound}

-- Nothing is left to be decided, and a binding from the start is made of the decisions.
pub record IsWhole (sought : Sought) (ds : List Decision) (b : Binding) : Type 0 where
  pub good : Good sought.system
  pub sound : AreSound sought.system sought.marking sought.depth ds
  pub some : 0 < length ds
  pub solvable : IsSolvable sought.system ds
  pub done : AreDone sought.system ds
  pub made : IsMadeOf sought.system ds b
  pub starts : StartsAt b sought.start

-- what is left to be looked at of a binding
pub record Passes (sought : Sought) (b : Binding) : Type 0 where
  pub shape : Shape sought.system b sought.depth
  pub agrees : Agrees sought.system b
  pub fits : Fits sought.system sought.marking b

-- Such a binding is the only one to which the decisions lead, if it has the shape, agrees and
-- fits. Else they lead to none.
abbrev pub WholeIsOnly : Type 0
WholeIsOnly = (sought : Sought) (ds : List Decision) (b : Binding) → IsWhole sought ds b →
    (Passes sought b → IsOnly (Leads sought ds) (Some b))
    × (¬ Passes sought b → IsOnly (Leads sought ds) None)

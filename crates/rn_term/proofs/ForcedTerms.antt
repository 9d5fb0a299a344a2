-- Just the terms without free variables are forced.
use Rattle.std.proofs.Common.{⊎_elim}
use Rattle.rn_term.specs.Assignments.{value_at}
use Rattle.rn_term.specs.GroundTerms.{ForcedIsGround}
use Rattle.rn_term.proofs.FreeVariables.{free_is_not_forced}
use Rattle.rn_term.proofs.Occurrences.{free_or_ground}
use Rattle.rn_term.proofs.OneValue.{ground_is_forced}

pub forced_is_ground : ForcedIsGround
forced_is_ground s id keeps within = (
  λ ground. (
    value_at keeps.satisfied.0 id,
    λ vs sat. ground_is_forced s id ground vs keeps.satisfied.0 sat keeps.satisfied.1,
  ),
  λ answer. ⊎_elim
      (λ free. absurd (free_is_not_forced s keeps id within free answer.0 answer.1))
      (λ ground. ground)
      (free_or_ground s keeps id within),
)

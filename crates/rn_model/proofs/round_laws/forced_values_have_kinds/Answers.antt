use Rattle.rn_model.proofs.ForcedKinds.{forced_have_kinds, kinds_fit_comparisons}
use Rattle.rn_model.proofs.ForcedKinds.{rounds_are_items, enabled_are_found_at}
use Rattle.rn_model.proofs.HoleKinds.{holes_have_kinds}
use Rattle.rn_model.proofs.MendedTerms.{solutions_have_kinds}
use Rattle.rn_model.proofs.round_laws.forced_values_have_kinds.Goals as goal

pub returns-clause-solutions : goal.returns-clause-solutions
returns-clause-solutions c = solutions_have_kinds

pub returns-clause-forced : goal.returns-clause-forced
returns-clause-forced c = forced_have_kinds

pub returns-clause-holes : goal.returns-clause-holes
returns-clause-holes c = holes_have_kinds

pub returns-clause-comparisons : goal.returns-clause-comparisons
returns-clause-comparisons c = kinds_fit_comparisons

pub returns-clause-items : goal.returns-clause-items
returns-clause-items c = rounds_are_items

pub returns-clause-enabled : goal.returns-clause-enabled
returns-clause-enabled c = enabled_are_found_at

-- What was reported first is what counts first.
use Rattle.std.proofs.Common.{◌≡◌, sym, subst, None, Some, [], Option}
use Rattle.std.specs.Prelude.{◌↔◌}
use Rattle.rn_declared.specs.declared.fault.Fault.{Fault}
use Rattle.rn_declared.specs.Faults.{broken, IsFirstOf}
use Rattle.rn_rules.specs.Systems.{system_faults}
use Rattle.rn_declared.proofs.FirstLemmas.{none_iff, first_iff}
use Rattle.rn_rules.proofs.broken.first_fault.Goals as goal

pub returns-clause-unbroken : goal.returns-clause-unbroken
returns-clause-unbroken c =
    let faults = system_faults c.args.plain.now in
    let P : Option Fault → Type 0 = λ o. (o ≡ None) ↔ (faults ≡ []) in
    subst P (sym c.in_ok-see_system.ensures) (none_iff faults)

pub returns-clause-first : goal.returns-clause-first
returns-clause-first c rule spot =
    let faults = system_faults c.args.plain.now in
    let P : Option Fault → Type 0 = λ o. (o ≡ Some (broken rule spot)) ↔ IsFirstOf faults (broken rule spot) in
    subst P (sym c.in_ok-see_system.ensures) (first_iff faults (broken rule spot))

-- What was reported, and is to be reported of the inscriptions that are left, is all.
use Rattle.std.proofs.Common.{◌≡◌, ◌≤◌, ℕ, Bool, false, drop}
use Rattle.rn_declared.specs.Faults.{first_from}
use Rattle.rn_declared.specs.link.Tables.{found_in}
use Rattle.rn_rules.specs.link.Scopes.{scope_in}
use Rattle.rn_rules.specs.Transitions.{Progress, inscriptions_faults}
use Rattle.rn_rules.proofs.transitions.see_inscriptions.Given as goal

abbrev pub invariant-loop-inscription : goal.invariant-loop-inscription
invariant-loop-inscription g l =
    let at : ℕ → Bool → Progress =
    λ past called. record { setter = found_in l.setters.table; past = past; sets = l.setters.count; called = called } in
    record {
      told : first_from l.first.fault
          (inscriptions_faults (scope_in l.fn.known) (at l.past l.called) (drop l.inscription-index l.inscriptions))
          ≡ first_from l.initial.first.fault (inscriptions_faults (scope_in l.fn.known) (at 0 false) l.inscriptions);
      few : l.past ≤ l.inscription-index;
    }

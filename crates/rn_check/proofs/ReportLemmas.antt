-- Each report is of one rule at one spot.
use Rattle.std.proofs.Common.{◌≡◌, refl, sym, ap, ◌∙◌, subst, Some, Err, Result}
use Rattle.rn_notation.specs.declared.token.Spot.{Spot}
use Rattle.rn_model.specs.declared.system.System.{System}
use Rattle.rn_declared.specs.declared.fault.Rule.{Rule}
use Rattle.rn_declared.specs.declared.fault.Rule.TheVariants as R
use Rattle.rn_declared.specs.declared.fault.Fault.{Fault}
use Rattle.rn_declared.specs.declared.fault.CheckFault.{CheckFault}
use Rattle.rn_declared.specs.declared.fault.CheckFault.TheVariants as C
use Rattle.rn_declared.specs.Faults.{broken, report_of}
use Rattle.rn_check.specs.Checked.{Answers}

-- the rule that is reported, broken at its spot
fault_of : CheckFault → Fault
fault_of (C.C1 spot) = broken R.Known spot
fault_of (C.C2 spot) = broken R.Once spot
fault_of (C.C3 spot) = broken R.Main spot
fault_of (C.C4 spot) = broken R.Kinds spot
fault_of (C.C5 spot) = broken R.Uplink spot
fault_of (C.C6 spot) = broken R.Actions spot
fault_of (C.C7 spot) = broken R.Inscription spot
fault_of (C.C8 spot) = broken R.Channel spot
fault_of (C.C9 spot) = broken R.Limit spot
fault_of (C.C10 spot) = broken R.Creation spot
fault_of (C.C11 spot) = broken R.Comparison spot
fault_of (C.C12 spot) = broken R.Capacity spot
fault_of (C.C13 spot) = broken R.Counted spot
fault_of (C.NoMemory _) = broken R.Known (record { line = 1; column = 1 })

report_back : (rule : Rule) (spot : Spot) → fault_of (report_of rule spot) ≡ broken rule spot
unfolding fault_of
report_back R.Known spot = refl
report_back R.Once spot = refl
report_back R.Main spot = refl
report_back R.Kinds spot = refl
report_back R.Uplink spot = refl
report_back R.Actions spot = refl
report_back R.Inscription spot = refl
report_back R.Channel spot = refl
report_back R.Limit spot = refl
report_back R.Creation spot = refl
report_back R.Comparison spot = refl
report_back R.Capacity spot = refl
report_back R.Counted spot = refl

itself : (rule : Rule) (spot : Spot) →
    Answers (Err (report_of rule spot)) (Err (report_of rule spot))
itself R.Known spot = refl
itself R.Once spot = refl
itself R.Main spot = refl
itself R.Kinds spot = refl
itself R.Uplink spot = refl
itself R.Actions spot = refl
itself R.Inscription spot = refl
itself R.Channel spot = refl
itself R.Limit spot = refl
itself R.Creation spot = refl
itself R.Comparison spot = refl
itself R.Capacity spot = refl
itself R.Counted spot = refl

-- where a fault was reported so, it is this rule at this spot
pub one_report : (r : CheckFault) (fault : Fault) (rule : Rule) (spot : Spot) →
    r ≡ report_of fault.rule fault.spot →
    ◌≡◌ {A = Result System CheckFault} (Err r) (Err (report_of rule spot)) →
    fault ≡ broken rule spot
one_report r fault rule spot was told =
    let same : r ≡ report_of rule spot = cc in
    sym (report_back fault.rule fault.spot) ∙ ap fault_of (sym was ∙ same) ∙ report_back rule spot

-- this rule at this spot is reported so
pub reported : (r : CheckFault) (fault : Fault) (rule : Rule) (spot : Spot) →
    r ≡ report_of fault.rule fault.spot → Some fault ≡ Some (broken rule spot) →
    Answers (Err r) (Err (report_of rule spot))
reported r fault rule spot was first =
    let same : fault ≡ broken rule spot = cc in
    let is : r ≡ report_of rule spot = was ∙ ap (λ f. report_of f.rule f.spot) same in
    subst (λ x. Answers (Err x) (Err (report_of rule spot))) (sym is) (itself rule spot)

-- The first fault is reported, and without one the system is made.
use Rattle.std.proofs.Common.{◌∙◌, sym, ap, Some}
use Rattle.rn_check.proofs.GoodSystems.{checked_systems_are_good}
use Rattle.rn_check.proofs.DeclaredNumbers.{numbered}
use Rattle.rn_check.proofs.ReportLemmas.{one_report, reported}
use Rattle.rn_check.proofs.GoodSystems.{checked_texts_are_good}
use Rattle.rn_check.proofs.checked.check_system.Goals as goal

pub returns-in-Some-clause-refused : goal.returns-in-Some-clause-refused
returns-in-Some-clause-refused c rule spot told =
    (c.in_ok-fault.ensures.first rule spot).0
    (c.in-Some.is
    ∙ ap Some (one_report c.report.result c.in-Some.fault rule spot c.report.ensures told))

pub returns-in-Some-clause-refuses : goal.returns-in-Some-clause-refuses
returns-in-Some-clause-refuses c rule spot first =
    reported c.report.result c.in-Some.fault rule spot c.report.ensures
    (sym c.in-Some.is ∙ (c.in_ok-fault.ensures.first rule spot).1 first)

pub system_of-requires : goal.system_of-requires
system_of-requires c = numbered c.args.plain (c.in_ok-fault.ensures.unbroken.0 c.in_default.is)

pub returns-clause-good : goal.returns-clause-good
returns-clause-good c well =
    checked_systems_are_good c.args.plain c.in_ok-system_of.field-0
    (record {
      unbroken = c.in_ok-fault.ensures.unbroken.0 c.in_default.is;
      means = c.in_ok-system_of.ensures;
    }) well

pub returns-clause-good_text : goal.returns-clause-good_text
returns-clause-good_text c bytes spelled =
    checked_texts_are_good bytes c.args.plain c.in_ok-system_of.field-0 spelled
    (record {
      unbroken = c.in_ok-fault.ensures.unbroken.0 c.in_default.is;
      means = c.in_ok-system_of.ensures;
    })

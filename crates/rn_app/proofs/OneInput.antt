-- Net texts that are accepted aren't refused, and texts of runs are read.
use Rattle.std.proofs.Common.{◌≡◌, [], Contains, Some, sym, subst, ap, ◌∙◌, arith}
use Rattle.rn_model.specs.declared.system.System.{System}
use Rattle.rn_model.specs.Runs.{entries_of}
use Rattle.rn_model.proofs.EnablingLemmas.{not_in_nil}
use Rattle.rn_notation.specs.declared.token.Spot.{Spot}
use Rattle.rn_net.specs.declared.plain.Plain.{Plain}
use Rattle.rn_net.specs.Laws.{OneSpelled, SpelledInNotation, SpelledIsNotRefused}
use Rattle.rn_declared.specs.declared.fault.Rule.{Rule}
use Rattle.rn_check.specs.Checked.{Checked}
use Rattle.rn_rules.specs.Broken.{BreaksFirst}
use Rattle.rn_declared.specs.Faults.{broken}
use Rattle.rn_check.specs.Laws.{CheckedTextsAreGood}
use Rattle.rn_record_reader.specs.Laws.{TextsTell}
use Rattle.rn_record_reader.specs.Runs.{Verdict, TellsRecord}
use Rattle.rn_state_record.specs.Laws.{LogsHaveText}
use Rattle.rn_readable.specs.Laws.{LogsAreReadable}
use Rattle.rn_answering.specs.NetTexts.{IsRefusedBy}
use Rattle.rn_app.specs.Laws.{AcceptedIsNotRefused, NotationsAreFormats, OneNotation, OneSystemAccepted, RunIsRead}

-- where no rule is broken, none is the first
unbroken : (plain : Plain) (system : System) (rule : Rule) (spot : Spot) → Checked plain system → BreaksFirst plain rule spot → ⊥
unbroken plain system rule spot checked breaks =
    let there : Contains [] (broken rule spot) = subst (λ faults. Contains faults (broken rule spot)) checked.unbroken breaks.there in
    not_in_nil (broken rule spot) there

-- an accepted net text isn't refused
pub not_refused : OneSpelled → SpelledIsNotRefused → AcceptedIsNotRefused
not_refused one law bytes line system accepted (IsRefusedBy.unspelled why refused) = law bytes accepted.plain why accepted.spelled refused
not_refused one law bytes line system accepted (IsRefusedBy.broken plain rule spot spells breaks) =
    unbroken plain system rule spot (subst (λ p. Checked p system) (one bytes accepted.plain plain accepted.spelled spells) accepted.checked) breaks

-- a net text has one system
pub one_system : OneSpelled → OneSystemAccepted
one_system one bytes s t first second =
    let same : first.plain ≡ second.plain = one bytes first.plain second.plain first.spelled second.spelled in
    let a = first.checked.means in
    let b = second.checked.means in
    cc

-- and one notation
pub one_notation : OneSpelled → OneNotation
one_notation one bytes s t notation other first second =
    sym first.1
    ∙ ap (λ p. p.notation) (one bytes first.0.plain second.0.plain first.0.spelled second.0.spelled)
    ∙ second.1

-- which is a format
pub notations_are_formats : SpelledInNotation → NotationsAreFormats
notations_are_formats law bytes system accepted = law bytes accepted.plain accepted.spelled

-- the text of a run is read as it
pub run_is_read : CheckedTextsAreGood → LogsHaveText → LogsAreReadable → SpelledInNotation → TextsTell → RunIsRead
run_is_read goods have reads notations texts net system options bytes count reason accepted run few held =
    let good = goods net accepted.plain system accepted.spelled accepted.checked in
    let text = have system options run.firings (Some reason) run.marks good run.log run.live in
    let counted = run.counted in
    let readable = reads net accepted.plain system options run.firings (Some reason) run.marks accepted.spelled accepted.checked (omega (arith, counted, few)) run.log run.live in
    subst (λ b. TellsRecord system accepted.plain.notation b (Verdict.tells (entries_of run.firings (Some reason)) run.marks)) (sym run.told)
    (texts system accepted.plain.notation options run.firings reason run.marks good (notations net accepted.plain accepted.spelled) run.log run.live text readable held)

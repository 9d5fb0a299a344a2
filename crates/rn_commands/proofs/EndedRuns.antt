-- States whose run has ended.
use Rattle.std.proofs.Common.{◌≡◌, ◌-◌, ℕ, suc, List, length, sym, ap, ◌∙◌, subst}
use Rattle.std.specs.Prelude.{◌↔◌, All, Contains, Some}
use Rattle.std.specs.List.Sorted.{IsStrictlyIncreasing}
use Rattle.rn_model.specs.declared.system.System.{System}
use Rattle.rn_model.specs.declared.log.Options.{Options}
use Rattle.rn_model.specs.declared.log.Reason.{Reason}
use Rattle.rn_model.specs.Liveness.{IsLive, LivePart, Stands}
use Rattle.rn_model.specs.Runs.{Log, end_of, entries_of}
use Rattle.rn_model.proofs.StandingTables.{tables_have_the_same_live}
use Rattle.rn_table.specs.Tables.{Kept}
use Rattle.rn_record.specs.RecordText.{record_text}
use Rattle.rn_fire.specs.declared.setup.Setup.{Setup}
use Rattle.rn_fire.specs.States.{State, end_marking}
use Rattle.rn_gen.specs.Workload.{workload}
use Rattle.rn_answering.specs.declared.answer.Answer.{Answer}
use Rattle.rn_answering.specs.NetTexts.{Accepted, AcceptedIn}
use Rattle.rn_commands.specs.Ends.{end_message, end_status}
use Rattle.rn_commands.specs.link.Ends.{IsWrittenBy}
use Rattle.rn_commands.specs.Runs.{IsOfWorkers, RunsTo, run_text}
use Rattle.rn_commands.specs.Workloads.{CountsLive, GensTo, tally_text}
use Rattle.rn_commands.specs.link.Workloads.{IsTalliedBy}

-- the instances that are live in its table are those that are at its end
pub counts_live : (s : State) (system : System) (table : Kept) (numbers : List ℕ) (count : ℕ) →
    system ≡ s.setup.system → Stands s.setup.system table.marking (end_marking s) →
    IsStrictlyIncreasing numbers →
    ((n : ℕ) → Contains numbers n ↔ IsLive system table.marking n) → length numbers ≡ count →
    CountsLive s.setup.system (end_marking s) count
counts_live s system table numbers count same stands ascending live counted = record {
  numbers = numbers;
  ascending = ascending;
  just = λ n.
      let at = tables_have_the_same_live s.setup.system table.marking (end_marking s) stands n in
      let here = subst (λ x. Contains numbers n ↔ IsLive x table.marking n) same (live n) in
      (λ listed. at.0 (here.0 listed), λ is. here.1 (at.1 is));
  counted = counted;
}

-- Of a state whose setup is this.
module _ (system : System) (options : Options) (s : State) (a : Answer)
    (setup : s.setup ≡ record { system = system; options = options })
    (own : All (IsOfWorkers options.workers) s.fired) where
  pub its_log : (reason : Reason) → Log s.setup.system s.setup.options s.fired (Some reason) →
      Log system options s.fired (Some reason)
  its_log reason log =
      subst (λ (x : Setup). Log x.system x.options s.fired (Some reason)) setup log

  -- it is a run of the net text
  abbrev pub runs_to : (bytes : List ℕ) (format : ℕ) → AcceptedIn format bytes system →
      IsWrittenBy format s a → RunsTo options bytes a
  runs_to bytes format accepted written =
      let record_is = written.0 in
      let closed = written.1 in
      let reason = closed.0 in
      record {
        reason = reason;
        run = record {
          system = system;
          accepted = accepted.0;
          firings = s.fired;
          workers = own;
          log = its_log reason closed.2;
          marks = record_is.marks;
          live = subst (λ (x : Setup). LivePart x.system (end_of x.system s.fired) record_is.marks) setup
              record_is.live;
          told = record_is.text
              ∙ ap (λ e. record_text format s.setup.system (record { entries = entries_of s.fired e; marks = record_is.marks })) closed.1
              ∙ ap (λ (x : Setup). run_text format x.system s.fired reason record_is.marks) setup
              ∙ ap (λ f. run_text f system s.fired reason record_is.marks) (sym accepted.1);
        };
        status = closed.3;
        line = closed.4;
      }

  -- it is one of the workload
  pub gens_to : (copies : ℕ) → Accepted (workload copies) system → IsTalliedBy s a →
      GensTo copies options a
  gens_to copies accepted tallied =
      let tally = tallied.0 in
      let closed = tallied.1 in
      let reason = tally.0 in
      let both : Some closed.0 ≡ Some reason = sym closed.1 ∙ tally.2 in
      let same : closed.0 ≡ reason = cc in
      record {
        system = system;
        accepted = accepted;
        firings = s.fired;
        workers = own;
        reason = reason;
        log = its_log reason
            (subst (λ r. Log s.setup.system s.setup.options s.fired (Some r)) same closed.2);
        live = tally.1;
        counted = subst (λ (x : Setup). CountsLive x.system (end_of x.system s.fired) tally.1) setup tally.3;
        text = tally.4
            ∙ ap (λ (x : Setup). tally_text (length s.fired) ((end_of x.system s.fired).next - 1) tally.1 reason) setup;
        status = closed.3 ∙ ap end_status same;
        line = closed.4 ∙ ap (λ r. end_message r (suc (length s.fired))) same;
      }

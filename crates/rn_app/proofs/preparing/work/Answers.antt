-- Accepted words give a command within its limits.
use Rattle.std.proofs.Common.{subst}
use Rattle.rn_words.specs.Laws.{IsWithinLimits}
use Rattle.rn_words.specs.declared.command.Command.TheVariants as command
use Rattle.rn_app.proofs.DueRuns.{readied, run_due}
use Rattle.rn_app.proofs.preparing.work.Goals as goal

pub workload_job-requires : goal.workload_job-requires
workload_job-requires c = record {
  copies = (subst IsWithinLimits c.in-Gen.is (c.words_laws.ensures.limits c.requires.given.0 c.args.command c.requires.given.1)).0;
}

pub workload_job-requires-in-GenSeeded : goal.workload_job-requires-in-GenSeeded
workload_job-requires-in-GenSeeded c = record {
  copies = (subst IsWithinLimits c.in-GenSeeded.is (c.words_laws.ensures.limits c.requires.given.0 c.args.command c.requires.given.1)).0;
}

pub enabled-requires : goal.enabled-requires
enabled-requires c = subst IsWithinLimits c.in-Enabled.is (c.words_laws.ensures.limits c.requires.given.0 c.args.command c.requires.given.1)

pub replay-requires-clause-limits : goal.replay-requires-clause-limits
replay-requires-clause-limits c = subst IsWithinLimits c.in-Replay.is (c.words_laws.ensures.limits c.requires.given.0 c.args.command c.requires.given.1)

pub session-requires : goal.session-requires
session-requires c = subst IsWithinLimits c.in-Session.is (c.words_laws.ensures.limits c.requires.given.0 c.args.command c.requires.given.1)

pub counts-requires : goal.counts-requires
counts-requires c = subst IsWithinLimits c.in-Counts.is (c.words_laws.ensures.limits c.requires.given.0 c.args.command c.requires.given.1)

pub moves-requires-clause-limits : goal.moves-requires-clause-limits
moves-requires-clause-limits c = subst IsWithinLimits c.in-Moves.is (c.words_laws.ensures.limits c.requires.given.0 c.args.command c.requires.given.1)

pub due-requires : goal.due-requires
due-requires c =
    let limits = subst IsWithinLimits c.in-Run.is (c.words_laws.ensures.limits c.requires.given.0 c.args.command c.requires.given.1) in
    let done = c.in_ok-net_job-in-Run.ensures in
    (run_due (command.Run c.in-Run.options) c.args.command c.args.bytes.now c.in_ok-net_job-in-Run.field-0 c.in-Run.options c.in-Run.is (done.accepted, done.asked) done.good done.asked.0 limits done.format).1

pub returns-in_ok-net_job-in-Run : goal.returns-in_ok-net_job-in-Run
returns-in_ok-net_job-in-Run c =
    let limits = subst IsWithinLimits c.in-Run.is (c.words_laws.ensures.limits c.requires.given.0 c.args.command c.requires.given.1) in
    let done = c.in_ok-net_job-in-Run.ensures in
    readied c.args.command c.args.bytes.now c.in_ok-net_job-in-Run.field-0 c.due.result (run_due (command.Run c.in-Run.options) c.args.command c.args.bytes.now c.in_ok-net_job-in-Run.field-0 c.in-Run.options c.in-Run.is (done.accepted, done.asked) done.good done.asked.0 limits done.format) c.due.ensures

pub due-requires-in-RunLeast : goal.due-requires-in-RunLeast
due-requires-in-RunLeast c =
    let limits = subst IsWithinLimits c.in-RunLeast.is (c.words_laws.ensures.limits c.requires.given.0 c.args.command c.requires.given.1) in
    let done = c.in_ok-net_job-in-RunLeast.ensures in
    (run_due (command.RunLeast c.in-RunLeast.options) c.args.command c.args.bytes.now c.in_ok-net_job-in-RunLeast.field-0 c.in-RunLeast.options c.in-RunLeast.is (done.accepted, done.asked) done.good done.asked.0 limits done.format).1

pub returns-in_ok-net_job-in-RunLeast : goal.returns-in_ok-net_job-in-RunLeast
returns-in_ok-net_job-in-RunLeast c =
    let limits = subst IsWithinLimits c.in-RunLeast.is (c.words_laws.ensures.limits c.requires.given.0 c.args.command c.requires.given.1) in
    let done = c.in_ok-net_job-in-RunLeast.ensures in
    readied c.args.command c.args.bytes.now c.in_ok-net_job-in-RunLeast.field-0 c.due-in-RunLeast.result (run_due (command.RunLeast c.in-RunLeast.options) c.args.command c.args.bytes.now c.in_ok-net_job-in-RunLeast.field-0 c.in-RunLeast.options c.in-RunLeast.is (done.accepted, done.asked) done.good done.asked.0 limits done.format) c.due-in-RunLeast.ensures

pub due-requires-in-RunSeeded : goal.due-requires-in-RunSeeded
due-requires-in-RunSeeded c =
    let limits = subst IsWithinLimits c.in-RunSeeded.is (c.words_laws.ensures.limits c.requires.given.0 c.args.command c.requires.given.1) in
    let done = c.in_ok-net_job-in-RunSeeded.ensures in
    (run_due (command.RunSeeded c.in-RunSeeded.options c.in-RunSeeded.seed) c.args.command c.args.bytes.now c.in_ok-net_job-in-RunSeeded.field-0 c.in-RunSeeded.options c.in-RunSeeded.is (done.accepted, done.asked) done.good done.asked.0 limits.0 done.format).1

pub returns-in_ok-net_job-in-RunSeeded : goal.returns-in_ok-net_job-in-RunSeeded
returns-in_ok-net_job-in-RunSeeded c =
    let limits = subst IsWithinLimits c.in-RunSeeded.is (c.words_laws.ensures.limits c.requires.given.0 c.args.command c.requires.given.1) in
    let done = c.in_ok-net_job-in-RunSeeded.ensures in
    readied c.args.command c.args.bytes.now c.in_ok-net_job-in-RunSeeded.field-0 c.due-in-RunSeeded.result (run_due (command.RunSeeded c.in-RunSeeded.options c.in-RunSeeded.seed) c.args.command c.args.bytes.now c.in_ok-net_job-in-RunSeeded.field-0 c.in-RunSeeded.options c.in-RunSeeded.is (done.accepted, done.asked) done.good done.asked.0 limits.0 done.format) c.due-in-RunSeeded.ensures

pub due-requires-in-Gen : goal.due-requires-in-Gen
due-requires-in-Gen c =
    let limits = subst IsWithinLimits c.in-Gen.is (c.words_laws.ensures.limits c.requires.given.0 c.args.command c.requires.given.1) in
    let done = c.in_ok-workload_job-in-Gen.ensures in
    (run_due (command.Gen c.in-Gen.copies c.in-Gen.options) c.args.command c.args.bytes.now c.in_ok-workload_job-in-Gen.field-0 c.in-Gen.options c.in-Gen.is (done.accepted, done.asked) done.good done.asked.0 limits.1 done.format).1

pub returns-in_ok-workload_job-in-Gen : goal.returns-in_ok-workload_job-in-Gen
returns-in_ok-workload_job-in-Gen c =
    let limits = subst IsWithinLimits c.in-Gen.is (c.words_laws.ensures.limits c.requires.given.0 c.args.command c.requires.given.1) in
    let done = c.in_ok-workload_job-in-Gen.ensures in
    readied c.args.command c.args.bytes.now c.in_ok-workload_job-in-Gen.field-0 c.due-in-Gen.result (run_due (command.Gen c.in-Gen.copies c.in-Gen.options) c.args.command c.args.bytes.now c.in_ok-workload_job-in-Gen.field-0 c.in-Gen.options c.in-Gen.is (done.accepted, done.asked) done.good done.asked.0 limits.1 done.format) c.due-in-Gen.ensures

pub due-requires-in-GenSeeded : goal.due-requires-in-GenSeeded
due-requires-in-GenSeeded c =
    let limits = subst IsWithinLimits c.in-GenSeeded.is (c.words_laws.ensures.limits c.requires.given.0 c.args.command c.requires.given.1) in
    let done = c.in_ok-workload_job-in-GenSeeded.ensures in
    (run_due (command.GenSeeded c.in-GenSeeded.copies c.in-GenSeeded.options c.in-GenSeeded.seed) c.args.command c.args.bytes.now c.in_ok-workload_job-in-GenSeeded.field-0 c.in-GenSeeded.options c.in-GenSeeded.is (done.accepted, done.asked) done.good done.asked.0 limits.1 done.format).1

pub returns-in_ok-workload_job-in-GenSeeded : goal.returns-in_ok-workload_job-in-GenSeeded
returns-in_ok-workload_job-in-GenSeeded c =
    let limits = subst IsWithinLimits c.in-GenSeeded.is (c.words_laws.ensures.limits c.requires.given.0 c.args.command c.requires.given.1) in
    let done = c.in_ok-workload_job-in-GenSeeded.ensures in
    readied c.args.command c.args.bytes.now c.in_ok-workload_job-in-GenSeeded.field-0 c.due-in-GenSeeded.result (run_due (command.GenSeeded c.in-GenSeeded.copies c.in-GenSeeded.options c.in-GenSeeded.seed) c.args.command c.args.bytes.now c.in_ok-workload_job-in-GenSeeded.field-0 c.in-GenSeeded.options c.in-GenSeeded.is (done.accepted, done.asked) done.good done.asked.0 limits.1 done.format) c.due-in-GenSeeded.ensures

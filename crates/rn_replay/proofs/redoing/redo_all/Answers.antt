-- One entry after the other.
use Rattle.std.proofs.Common.{◌<◌, ◌≤◌, length, sym, ap, ◌∙◌, subst, arith}
use Rattle.std.specs.Prelude.{Err}
use Rattle.std.proofs.lemmas.List.{take_all}
use Rattle.std.proofs.lemmas.Result.{err_from_is_err_and}
use Rattle.rn_fire.specs.declared.setup.Setup.{Setup}
use Rattle.rn_fire.specs.link.States.{firings_in}
use Rattle.rn_replay.specs.link.Parts.{RedoesAll}
use Rattle.rn_replay.proofs.WholeEntries.{few_firings, goes_on, has_worker, refuses}
use Rattle.rn_replay.proofs.redoing.redo_all.Goals as goal

pub redo_entry-requires-clause-worker : goal.redo_entry-requires-clause-worker
redo_entry-requires-clause-worker c =
    let within : c.loop-entry.entry-index < length c.args.entries.now = omega arith in
    has_worker c.args.entries.now c.requires.whole c.loop-entry.entry-index c.entry-item.result within
    (sym c.entry-item.is)

pub returns-in_err-redo_entry : goal.returns-in_err-redo_entry
returns-in_err-redo_entry c =
    let es = c.args.entries.now in
    let setup : Setup = record { system = c.args.system.value; options = c.args.options.now } in
    let within : c.loop-entry.entry-index < length es = omega arith in
    let fault = c.in_err-redo_entry.field-0.0 in
    let p = err_from_is_err_and c.from_residual-in_err-redo_entry.result
    c.from_residual-in_err-redo_entry.ensures.1 in
    let opened = c.loop-entry.invariant.0 ∙ ap (λ x. x.setup) c.in_ok-state.ensures.state in
    subst (RedoesAll setup.system setup.options es) (sym (p.1 ∙ ap Err p.2))
    (refuses es c.requires.whole setup c.loop-entry.entry-index c.loop-entry.state c.redo_entry.new.state
    c.entry-item.result fault within (sym c.entry-item.is)
    (opened, c.loop-entry.invariant.1, c.loop-entry.invariant.2) c.in_err-redo_entry.ensures)

pub loop-entry-preserved : goal.loop-entry-preserved
loop-entry-preserved c =
    let within : c.loop-entry.entry-index < length c.args.entries.now = omega arith in
    goes_on c.args.entries.now c.requires.whole c.in_ok-state.state.setup c.loop-entry.entry-index
    c.loop-entry.state c.redo_entry.new.state c.entry-item.result tt within (sym c.entry-item.is)
    c.loop-entry.invariant c.in_ok-redo_entry.ensures

pub returns : goal.returns
returns c =
    let few = few_firings c.args.entries.now in
    let all : length (firings_in c.args.entries.now) ≤ c.loop-entry.entry-index = omega arith in (
      c.loop-entry.invariant.0 ∙ ap (λ x. x.setup) c.in_ok-state.ensures.state,
      c.loop-entry.invariant.1,
      c.loop-entry.invariant.2 ∙ take_all c.loop-entry.entry-index (firings_in c.args.entries.now) all,
    )

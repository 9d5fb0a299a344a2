-- By what all firings and the end come to.
use Rattle.std.proofs.Common.{sym, ap, ◌∙◌, subst}
use Rattle.std.specs.Prelude.{Some, Ok, Err}
use Rattle.std.proofs.lemmas.Result.{err_from_is_err_and}
use Rattle.rn_model.specs.Runs.{entries_of}
use Rattle.rn_fire.specs.declared.setup.Setup.{Setup}
use Rattle.rn_replay.specs.link.Parts.{RedoesAll, TriesEnd}
use Rattle.rn_replay.specs.Replays.{Begins}
use Rattle.rn_replay.proofs.Beginnings.{begins_done, begins_refused, unsearched}
use Rattle.rn_replay.proofs.Endings.{marked_end, refused_end}
use Rattle.rn_replay.proofs.beginning.begin_replay.Goals as goal

pub returns-in_err-state : goal.returns-in_err-state
returns-in_err-state c =
    let system = c.args.system.value in
    let told = c.args.told.now in
    let fault = c.in_err-state.field-0.0 in
    let p = err_from_is_err_and c.from_residual.result c.from_residual.ensures.1 in
    subst (Begins system c.args.options told) (sym (p.1 ∙ ap Err p.2))
    (begins_refused system c.args.options told fault
    (subst (λ es. RedoesAll system c.args.options es (Err fault)) c.as_slice-entries.ensures
    c.in_err-state.ensures))

pub returns-in-Ended : goal.returns-in-Ended
returns-in-Ended c =
    let s = c.in_ok-state.state in
    let t = c.try_end.new.state in
    let reason = c.told_end-reason.result.now in
    let setup : Setup = record { system = c.args.system.value; options = c.args.options } in
    let are = sym c.as_slice-entries.ensures ∙ c.told_end-reason.ensures
    ∙ ap (λ fs. entries_of fs (Some reason)) (sym c.in_ok-state.ensures.2) in
    let tried = subst (λ x. TriesEnd s reason (Ok x) t) c.in-Ended.is c.in_ok-tried.ensures in
    begins_done setup.system setup.options c.args.told.now t c.next_number-number.result c.done_with.result
    (marked_end setup c.args.told.now s c.next_number-number.ensures.state c.in_ok-state.ensures.0
    c.in_ok-state.ensures.1 reason are c.next_number-number.result c.next_number-number.ensures.number t
    tried.1 tried.0) c.done_with.ensures

pub returns-in-Untrue : goal.returns-in-Untrue
returns-in-Untrue c =
    let s = c.in_ok-state.state in
    let t = c.try_end.new.state in
    let reason = c.told_end-reason.result.now in
    let setup : Setup = record { system = c.args.system.value; options = c.args.options } in
    let are = sym c.as_slice-entries.ensures ∙ c.told_end-reason.ensures
    ∙ ap (λ fs. entries_of fs (Some reason)) (sym c.in_ok-state.ensures.2) in
    refused_end setup c.args.told.now s c.next_number-number.ensures.state c.in_ok-state.ensures.0
    c.in_ok-state.ensures.1 reason are c.next_number-number.result c.next_number-number.ensures.number
    (subst (λ x. TriesEnd s reason (Ok x) t) c.in-Untrue.is c.in_ok-tried.ensures)

pub returns-in-Unsearched : goal.returns-in-Unsearched
returns-in-Unsearched c =
    let s = c.in_ok-state.state in
    let t = c.try_end.new.state in
    let reason = c.told_end-reason.result.now in
    let are = sym c.as_slice-entries.ensures ∙ c.told_end-reason.ensures
    ∙ ap (λ fs. entries_of fs (Some reason)) (sym c.in_ok-state.ensures.2) in
    let tried = subst (λ x. TriesEnd s reason (Ok x) t) c.in-Unsearched.is c.in_ok-tried.ensures in
    unsearched (record { system = c.args.system.value; options = c.args.options }) c.args.told.now s t reason
    c.in_ok-state.ensures.0 c.in_ok-state.ensures.1 are tried

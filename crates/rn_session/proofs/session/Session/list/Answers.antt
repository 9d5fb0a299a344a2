-- The table is that at the end of the log.
use Rattle.std.proofs.Common.{sym, ap, subst}
use Rattle.std.specs.Prelude.{IfOk}
use Rattle.rn_model.specs.declared.log.Options.{Options}
use Rattle.rn_model.specs.declared.system.System.{System}
use Rattle.rn_search.specs.Problems.{HasFitTokens}
use Rattle.rn_table.specs.Tables.{Kept}
use Rattle.rn_fire.specs.States.{State, end_marking}
use Rattle.rn_served.specs.Listed.{AreEnabled}
use Rattle.rn_session.proofs.NumberedNow.{are_enabled, at_end}
use Rattle.rn_session.proofs.SessionStates.{fit_tokens}
use Rattle.rn_session.proofs.session.Session.list.Goals as goal

pub all_bindings-requires-clause-tokens : goal.all_bindings-requires-clause-tokens
all_bindings-requires-clause-tokens c =
    let s : State = c.self.inside.state in
    subst (λ (t : Kept). HasFitTokens c.system-system.result.now t.marking) (sym c.table-table.ensures.table)
    (subst (λ (x : System). HasFitTokens x s.table.marking) (sym c.system-system.ensures.system)
    (fit_tokens s c.length-length.ensures.state))

pub returns : goal.returns
returns c =
    let s : State = c.self.inside.state in
    let system = c.system-system.result.now in
    let t = c.table-table.result.now in
    let depth = c.self.inside.options.depth in
    subst (λ (x : State). IfOk c.all_bindings.result (λ found. AreEnabled x.setup.system (end_marking x) x.setup.options.depth found.items))
    c.self.view_is
    (at_end (λ x m d. IfOk c.all_bindings.result (λ found. AreEnabled x m d found.items)) s system t depth
    c.system-system.ensures.system c.table-table.ensures.table (ap (λ (o : Options). o.depth) c.self.invariant.options_are)
    c.self.invariant.session.all
    (are_enabled system t.marking depth (λ found. found.items) c.all_bindings.result c.all_bindings.ensures.just c.all_bindings.ensures.ascending))

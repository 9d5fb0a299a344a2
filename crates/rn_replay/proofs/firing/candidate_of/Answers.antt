-- The table decides what of the sound bindings is enabled.
use Rattle.std.proofs.Common.{sym, subst, ◌∙◌}
use Rattle.std.specs.Prelude.{Ok}
use Rattle.rn_model.specs.declared.system.System.{System}
use Rattle.rn_model.specs.declared.binding.Binding.{Binding}
use Rattle.rn_model.specs.Good.{Good}
use Rattle.rn_arcs.specs.FitInscriptions.{InscriptionsAreFit}
use Rattle.rn_arcs.proofs.FitInscriptions.{agreeing_fit}
use Rattle.rn_replay.proofs.Refusals.{asked_here, certified_here, not_met, table_decides}
use Rattle.rn_replay.proofs.firing.candidate_of.Goals as goal

pub fits-requires : goal.fits-requires
fits-requires c = record {
  fit =
      let s = c.args.state.now in
      let b = c.args.binding.now in
      let found = c.in_ok-candidate.candidate in
      let here = certified_here s b c.system-system.result.now c.args.depth c.in_ok-copied.copied (Ok found)
      c.system-system.ensures.system c.requires.depth c.in_ok-copied.ensures c.in_ok-candidate.ensures in
      subst (λ (x : Binding). InscriptionsAreFit c.system-system.result.now x)
      (sym (c.binding.ensures ∙ here.0))
      (subst (λ (x : System). InscriptionsAreFit x b) (sym c.system-system.ensures.system)
      (agreeing_fit s.setup.system b s.setup.options.depth
      (subst Good c.system-system.ensures.system c.system-system.ensures.good)
      here.1.shape here.1.agrees));
}

pub returns-then-not-met : goal.returns-then-not-met
returns-then-not-met c =
    let s = c.args.state.now in
    let b = c.args.binding.now in
    let found = c.in_ok-candidate.candidate in
    let here = certified_here s b c.system-system.result.now c.args.depth c.in_ok-copied.copied (Ok found)
    c.system-system.ensures.system c.requires.depth c.in_ok-copied.ensures c.in_ok-candidate.ensures in
    let exact = asked_here s b c.system-system.result.now c.table-table.result.now found c.binding.result.now
    c.in_ok-met.met c.system-system.ensures.system c.table-table.ensures.table c.binding.ensures c.in_ok-met.ensures.exact in
    not_met s b c.requires.state found here (λ fits.
    let met = exact.1 fits in
    let unmet = c.if-not-met.true in
    let never : ⊥ = cc in never)

pub returns : goal.returns
returns c =
    let s = c.args.state.now in
    let b = c.args.binding.now in
    let found = c.in_ok-candidate.candidate in
    let here = certified_here s b c.system-system.result.now c.args.depth c.in_ok-copied.copied (Ok found)
    c.system-system.ensures.system c.requires.depth c.in_ok-copied.ensures c.in_ok-candidate.ensures in
    let exact = asked_here s b c.system-system.result.now c.table-table.result.now found c.binding.result.now
    c.in_ok-met.met c.system-system.ensures.system c.table-table.ensures.table c.binding.ensures c.in_ok-met.ensures.exact in
    (here.0, (table_decides s b c.requires.state found here).0 (exact.0 c.if-not-met.false))

-- The table decides.
use Rattle.std.proofs.Common.{subst, sym}
use Rattle.std.specs.Prelude.{◌↔◌, IsTrue}
use Rattle.std.proofs.lemmas.Result.{IfOk-weaker}
use Rattle.rn_model.specs.Enabling.{Fits}
use Rattle.rn_model.specs.Good.{Good}
use Rattle.rn_arcs.specs.FitInscriptions.{InscriptionsAreFit}
use Rattle.rn_arcs.proofs.FitInscriptions.{agreeing_fit}
use Rattle.rn_fire.proofs.OutcomeLemmas.{fits_decides}
use Rattle.rn_fire.proofs.state.SimState.is_still_enabled.Goals as goal

pub fits-requires : goal.fits-requires
fits-requires c = record {
  fit =
      let s = c.args.self.now in
      subst (λ x. InscriptionsAreFit x c.args.binding.now) (sym c.system.ensures.system)
      (agreeing_fit s.setup.system c.args.binding.now s.setup.options.depth
      (subst Good c.system.ensures.system c.system.ensures.good)
      c.requires.sound.shape c.requires.sound.agrees);
}

pub returns-clause-exact : goal.returns-clause-exact
returns-clause-exact c =
    let s = c.args.self.now in
    let b = c.args.binding.now in
    let decides = fits_decides s b c.length.ensures.state c.requires.sound in
    IfOk-weaker c.fits.result _ _ (λ yes exact.
    let here : IsTrue yes ↔ Fits s.setup.system s.table.marking b =
    subst (λ t. IsTrue yes ↔ Fits s.setup.system t.marking b) c.table.ensures.table
    (subst (λ x. IsTrue yes ↔ Fits x c.table.result.now.marking b) c.system.ensures.system exact) in
    (λ met. decides.0 (here.0 met), λ enabled. here.1 (decides.1 enabled))) c.fits.ensures.exact

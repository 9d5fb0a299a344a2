use Rattle.std.proofs.Common.{◌≡◌, ℕ, subst, sym, false}
use Rattle.std.specs.Prelude.{All, Some}
use Rattle.std.proofs.lemmas.Result.{IfOk-weaker}
use Rattle.rn_value.specs.declared.value.InstRef.TheVariants.{Old}
use Rattle.rn_model.specs.Markings.{net_of}
use Rattle.rn_arcs.specs.link.Groups.{AreAsked}
use Rattle.rn_arcs.proofs.FittingLemmas.{fits_exactly, fits_fails}
use Rattle.rn_arcs.proofs.fitting.fits.Goals as goal

pub has_room-requires-clause-asked : goal.has_room-requires-clause-asked
has_room-requires-clause-asked c =
    subst (AreAsked false c.args.system.now c.args.binding.now) (sym c.as_slice-asked.ensures.value)
    c.in_ok-places.ensures.asked

pub returns-then-not-all_fit : goal.returns-then-not-all_fit
returns-then-not-all_fit c =
    record {
      exact = fits_fails false c.args.system.now c.args.table.now.marking c.args.binding.now
          c.as_slice-asked.result.now
          (subst (AreAsked false c.args.system.now c.args.binding.now)
          (sym c.as_slice-asked.ensures.value) c.in_ok-places.ensures.asked)
          c.all_fit.result c.all_fit.ensures c.if-not-all_fit.true;
    }

pub returns : goal.returns
returns c =
    let m = c.args.table.now.marking in
    record {
      exact = IfOk-weaker c.has_room.result _ _
          (λ yes both. fits_exactly false c.args.system.now m c.args.binding.now
          c.as_slice-asked.result.now
          (subst (AreAsked false c.args.system.now c.args.binding.now)
          (sym c.as_slice-asked.ensures.value) c.in_ok-places.ensures.asked)
          (c.all_fit.ensures.0 c.if-not-all_fit.false)
          (subst (λ nodes. All (λ node. (n : ℕ) → node.inst ≡ Old n →
          net_of m n ≡ Some node.net) nodes) c.as_slice.ensures
          (c.are_there.ensures.0 c.if-not-are_there.false)) yes both)
          c.has_room.ensures;
    }

use Rattle.std.proofs.Common.{◌≡◌, List, true, sym, subst}
use Rattle.std.specs.Prelude.{Result, Ok, Err, IfOk}
use Rattle.std.specs.List.{flat_map}
use Rattle.rn_model.specs.declared.system.System.{System}
use Rattle.rn_model.specs.declared.binding.Binding.{Binding}
use Rattle.rn_arcs.specs.Demanded.{AreDemandsOf, HasFills}
use Rattle.rn_arcs.specs.link.Groups.{AreAsked}
use Rattle.rn_arcs.specs.link.Rows.{taken_rows, tested_rows, inhibited_rows, cleared_rows, put_rows}
use Rattle.rn_arcs.specs.declared.asked.Asked.{Asked}
use Rattle.rn_model.specs.Demands.{filled_at}
use Rattle.rn_arcs.specs.declared.demands.Demands.{Demands}
use Rattle.rn_arcs.specs.declared.demands.Fill.{Fill}
use Rattle.rn_arcs.proofs.RowLemmas.{demands_are}
use Rattle.rn_arcs.proofs.rows.demands_of.Goals as goal

by_result : {E : Type 0} (system : System) (b : Binding) (gs : List Asked)
    (r : Result Demands E) (filled : List Fill) → HasFills filled (filled_at system b) →
    AreAsked true system b gs →
    IfOk r (λ d. d.taken ≡ flat_map taken_rows gs) →
    IfOk r (λ d. d.tested ≡ flat_map tested_rows gs) →
    IfOk r (λ d. d.inhibited ≡ flat_map inhibited_rows gs) →
    IfOk r (λ d. d.cleared ≡ flat_map cleared_rows gs) →
    IfOk r (λ d. d.put ≡ flat_map put_rows gs) → IfOk r (λ d. d.filled ≡ filled) →
    IfOk r (λ d. AreDemandsOf system b d)
by_result system b gs (Ok d) filled fills asked taken tested inhibited cleared put are =
    demands_are system b gs d asked
    (subst (λ fs. HasFills fs (filled_at system b)) (sym are) fills)
    (record {
      taken = taken;
      tested = tested;
      inhibited = inhibited;
      cleared = cleared;
      put = put;
    })
by_result system b gs (Err e) filled fills asked taken tested inhibited cleared put are = tt

pub returns : goal.returns
returns c =
    by_result c.args.system.now c.args.binding.now c.in_ok-places.places.items c.rows_in.result
    c.in_ok-filled.filled c.in_ok-filled.ensures.exact
    c.in_ok-places.ensures.asked c.rows_in.ensures.taken c.rows_in.ensures.tested
    c.rows_in.ensures.inhibited c.rows_in.ensures.cleared c.rows_in.ensures.put
    c.rows_in.ensures.filled

use Rattle.std.proofs.Common.{◌≡◌, List, false}
use Rattle.std.specs.Prelude.{Result, Ok, Err, IfOk}
use Rattle.std.specs.List.{flat_map}
use Rattle.rn_model.specs.declared.system.System.{System}
use Rattle.rn_model.specs.declared.binding.Binding.{Binding}
use Rattle.rn_arcs.specs.Demanded.{AreTakingsOf}
use Rattle.rn_arcs.specs.link.Groups.{AreAsked}
use Rattle.rn_arcs.specs.link.Rows.{taken_rows, cleared_rows}
use Rattle.rn_arcs.specs.declared.asked.Asked.{Asked}
use Rattle.rn_arcs.specs.declared.demands.Takings.{Takings}
use Rattle.rn_arcs.proofs.RowLemmas.{takings_are}
use Rattle.rn_arcs.proofs.rows.takings_of.Goals as goal

by_result : {E : Type 0} (system : System) (b : Binding) (gs : List Asked)
    (r : Result Takings E) → AreAsked false system b gs →
    IfOk r (λ t. t.taken ≡ flat_map taken_rows gs) →
    IfOk r (λ t. t.cleared ≡ flat_map cleared_rows gs) → IfOk r (λ t. AreTakingsOf system b t)
by_result system b gs (Ok t) asked taken cleared = takings_are system b gs t asked taken cleared
by_result system b gs (Err e) asked taken cleared = tt

pub returns : goal.returns
returns c =
    by_result c.args.system.now c.args.binding.now c.in_ok-places.places.items
    c.takings_in.result c.in_ok-places.ensures.asked c.takings_in.ensures.taken
    c.takings_in.ensures.cleared

use Rattle.std.proofs.Common.{◌≡◌, ◌∙◌}
use Rattle.std.specs.Prelude.{Some}
use Rattle.rn_value.specs.Order.{inst_cmp}
use Rattle.rn_value.specs.link.OrderLaws.{inst_alike}
use Rattle.rn_arcs.proofs.ask.compare_places.Goals as goal

pub unreachable-requires : goal.unreachable-requires
unreachable-requires c =
    let alike : c.partial_cmp.result ≡ Some (inst_cmp c.args.inst.now c.args.other.now) =
    c.partial_cmp.ensures ∙ inst_alike c.args.inst.now c.args.other.now in
    cc

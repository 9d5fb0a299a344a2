-- Downlink by downlink.
use Rattle.std.proofs.Common.{◌++◌, map, ap, sym, ◌∙◌}
use Rattle.std.specs.Prelude.{flat_map}
use Rattle.std.specs.List.{enumerate_from}
use Rattle.rn_model.specs.Derivation.{args_of}
use Rattle.rn_binding.specs.link.Applications.{application_of, holes_at}
use Rattle.rn_binding.proofs.PuttingParts.{downlink_put}
use Rattle.rn_binding.proofs.applications.put_downlinks.Goals as goal

pub loop-i-preserved : goal.loop-i-preserved
loop-i-preserved c =
    downlink_put c.args.downlinks.now c.loop-i.i c.index-downlinks-i.result
    c.as_slice.result.now (map application_of c.loop-i.found.items)
    (map application_of c.put_downlink_args.new.found.items)
    (map application_of c.args.found.now.items ++ flat_map holes_at
    (flat_map args_of (enumerate_from 0 c.args.downlinks.now)))
    c.loop-i-test.true c.index-downlinks-i.is
    (c.as_slice.ensures ∙ ap (λ d. d.args) (sym c.index-downlinks-i.is)) c.loop-i.invariant
    c.in_ok-put_downlink_args.ensures

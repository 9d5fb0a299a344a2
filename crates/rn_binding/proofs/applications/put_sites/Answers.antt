-- Site by site, in the order in which the items are listed.
use Rattle.std.proofs.Common.{◌≡◌, map, subst}
use Rattle.std.specs.Prelude.{OnOk}
use Rattle.rn_binding.specs.link.Applications.{application_of}
use Rattle.rn_binding.proofs.PuttingParts.{sites_put}
use Rattle.rn_binding.proofs.applications.put_sites.Goals as goal

pub returns : goal.returns
returns c =
    subst (λ xs. OnOk c.put_inscriptions.result (map application_of c.put_inscriptions.new.found.items ≡ xs))
    (sites_put c.args.transition.now c.as_slice.result.now
    c.uplink_args.result.now c.as_slice-2.result.now c.as_slice-3.result.now
    (map application_of c.args.found.now.items) (map application_of c.put_equalities.new.found.items)
    (map application_of c.put_uplink_args.new.found.items) (map application_of c.put_downlinks.new.found.items)
    c.as_slice.ensures c.uplink_args.ensures c.as_slice-2.ensures c.as_slice-3.ensures
    c.in_ok-put_equalities.ensures c.in_ok-put_uplink_args.ensures
    c.in_ok-put_downlinks.ensures) c.put_inscriptions.ensures

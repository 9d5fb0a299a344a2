use Rattle.std.proofs.Common.{◌≡◌, subst, rules}
use Rattle.std.specs.Prelude.{Some, IfOk}
use Rattle.rn_growing.specs.Decisions.{site_of}
use Rattle.rn_growing.specs.link.Laid.{Builds}
use Rattle.rn_growing.proofs.building.build_hole.Goals as goal

pub returns-clause-built : goal.returns-clause-built
returns-clause-built c =
    let way : c.from_vec-way.result ≡ c.args.way.now = search rules in
    subst (λ w. IfOk c.unknown.result
    (λ id. Builds c.args.laid.now
    (λ a. Some (a.hole c.args.head.now.path (site_of c.args.site) w)) c.unknown.new.self id))
    way c.unknown.ensures.built

-- The instances of its table that aren't live are dropped, and no others.
use Rattle.std.proofs.Common.{ℕ, sym, subst}
use Rattle.std.specs.Prelude.{◌↔◌, Contains}
use Rattle.rn_model.specs.Liveness.{IsLive}
use Rattle.rn_model.specs.Markings.{IsMarking, IsThere}
use Rattle.rn_live.proofs.GoodPlaces.{good_places}
use Rattle.rn_worker.proofs.KeptTables.{just_live, may_drop}
use Rattle.rn_worker.proofs.dropping.drop_dead.Goals as goal

pub garbage-requires : goal.garbage-requires
garbage-requires c =
    let table = c.table.result.now.marking in
    good_places c.system.result.now table c.system.ensures.good
    (subst (λ x. IsMarking x table) (sym c.system.ensures.system) c.table.ensures.stands.form)

pub sweep-requires : goal.sweep-requires
sweep-requires c =
    let system = c.system.result.now in
    let table = c.table.result.now in
    may_drop c.args.state.now system table c.system.ensures.system c.table.ensures.table
    c.table.ensures.stands c.as_slice.result.now
    (subst (λ ns. (n : ℕ) → Contains ns n
    ↔ (IsThere table.marking n × ¬ IsLive system table.marking n)) (sym c.as_slice.ensures.value)
    c.in_ok-dead.ensures.dead)

pub returns-clause-dropped : goal.returns-clause-dropped
returns-clause-dropped c =
    let system = c.system.result.now in
    let table = c.table.result.now in
    just_live c.args.state.now system table c.system.ensures.system c.table.ensures.table
    c.table.ensures.stands c.as_slice.result.now
    (subst (λ ns. (n : ℕ) → Contains ns n
    ↔ (IsThere table.marking n × ¬ IsLive system table.marking n)) (sym c.as_slice.ensures.value)
    c.in_ok-dead.ensures.dead) c.sweep.new.self c.sweep.ensures.state c.sweep.ensures.table

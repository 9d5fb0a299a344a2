use Rattle.std.proofs.Common.{rules, ◌≡◌, ◌<◌, None, length}
use Rattle.rn_served.specs.Listed.{IsNumbered}
use Rattle.rn_fire.specs.States.{State, end_marking}
use Rattle.rn_session.proofs.FiredBindings.{fires_by}
use Rattle.rn_session.proofs.session.Session.fire.Goals as goal

pub returns-in-Some-2 : goal.returns-in-Some-2
returns-in-Some-2 c =
    let old : State = c.args.self.now in
    let going : old.ended ≡ None = search rules in
    let below : length old.fired < old.setup.options.steps = search rules in
    let numbered : IsNumbered old.setup.system (end_marking old) old.setup.options.depth c.args.k
    c.in-Some-2.candidate = search rules in
    fires_by old c.args.k c.in-Some-2.candidate going below numbered c.numbered.new.self
    c.commit.result c.commit.new.self c.numbered.ensures.same c.commit.ensures

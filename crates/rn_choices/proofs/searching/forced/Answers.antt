use Rattle.std.proofs.Common.{arith, ◌≡◌, ◌∷◌, [], ap, ◌∙◌}
use Rattle.rn_choices.specs.Waiting.{weight}
use Rattle.rn_choices.proofs.GoingOn.{forced_on, stand_on, weight_on}
use Rattle.rn_choices.proofs.Measure.{one_deeper}
use Rattle.rn_choices.proofs.searching.forced.Goals as goal

pub returns-then-branch-clause-goes : goal.returns-then-branch-clause-goes
returns-then-branch-clause-goes g c =
    let grows = g.G.Grows in
    let problem = c.args.problem.now in
    let offers = grows.offers problem in
    let allows = grows.allows problem in
    let ds = grows.decisions c.args.problem.now c.args.state.now in
    rw (c.in_ok-push.ensures.pushed c.if-branch.true) (
      stand_on offers allows ds (offers ds c.args.site 0 ∷ []) c.args.choices.now c.requires.set,
      λ s. forced_on (grows.leads problem) offers allows
          (grows.ends problem c.args.state.now) ds c.args.site c.args.choices.now s
          (g.met.G.Grows.shorter problem) c.requires.set c.requires.forced,
    )

pub returns-then-branch-clause-shrinks : goal.returns-then-branch-clause-shrinks
returns-then-branch-clause-shrinks g c =
    let grows = g.G.Grows in
    let problem = c.args.problem.now in
    let offers = grows.offers problem in
    let allows = grows.allows problem in
    let room = grows.room problem in
    let ds = grows.decisions c.args.problem.now c.args.state.now in
    let cs = c.args.choices.now in
    let waits : weight room (grows.decisions c.args.problem.now c.push.new.self) cs
    ≡ weight room ds cs
    = ap (λ l. weight room l cs) (c.in_ok-push.ensures.pushed c.if-branch.true)
    ∙ weight_on offers allows room ds (offers ds c.args.site 0 ∷ []) cs c.requires.set in
    let less = one_deeper (room (grows.decisions c.args.problem.now c.push.new.self)) (room ds)
    (c.in_ok-push.ensures.room c.if-branch.true) in
    omega arith

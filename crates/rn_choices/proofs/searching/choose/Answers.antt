use Rattle.std.proofs.Common.{arith, ◌≡◌, ◌↔◌, ◌+◌, ◌-◌, ◌*◌, ◌<◌, ◌^◌, ◌∷◌, length, ap, ◌∙◌}
use Rattle.std.proofs.Common.{subst, sym, true}
use Rattle.std.proofs.Math.Seq.{take-length}
use Rattle.rn_choices.specs.Waiting.{Waits, IsLeft, bulk, weight}
use Rattle.rn_choices.proofs.GoingBack.{joined}
use Rattle.rn_choices.proofs.GoingOn.{choice_on, nothing_left}
use Rattle.rn_choices.proofs.Measure.{choice_falls}
use Rattle.rn_choices.proofs.searching.choose.Given as given
use Rattle.rn_choices.proofs.searching.choose.Goals as goal
use Rattle.rn_choices.proofs.searching.choose.Goals.{In_ok-push}

noted : (g : given.Over) (c : In_ok-push g) → c.push.new.self ≡ record {
  mark = length (g.G.Grows.decisions c.args.problem.now c.args.state.now);
  site = c.args.site;
  of = c.args.of;
  first = c.lagging-first.result.0;
  tried = 0;
  lag = c.lagging-first.result.1;
} ∷ c.args.choices.now
noted g c = c.in_ok-push.ensures
    ∙ ap
    (λ m. record {
      mark = m;
      site = c.args.site;
      of = c.args.of;
      first = c.lagging-first.result.0;
      tried = 0;
      lag = c.lagging-first.result.1;
    } ∷ c.args.choices.now)
    c.count-mark.ensures

left_noted : (g : given.Over) (c : In_ok-push g) (s : g.row.G-Solution.Denot) →
    let grows = g.G.Grows in
    let leads = grows.leads c.args.problem.now in
    let offers = grows.offers c.args.problem.now in
    let ds = grows.decisions c.args.problem.now c.args.state.now in
    IsLeft leads offers true ds c.args.choices.now s ↔ Waits leads offers ds c.push.new.self s
left_noted g c s =
    let grows = g.G.Grows in
    let problem = c.args.problem.now in
    let leads = grows.leads problem in
    let offers = grows.offers problem in
    let ds = grows.decisions c.args.problem.now c.args.state.now in
    subst (λ l. IsLeft leads offers true ds c.args.choices.now s
    ↔ Waits leads offers ds l s) (sym (noted g c))
    (choice_on leads offers (grows.allows problem)
    (grows.ends problem c.args.state.now) ds c.args.site c.args.of c.args.start
    c.lagging-first.result.0 c.lagging-first.result.1 c.args.choices.now s
    (g.met.G.Grows.shorter problem) c.lagging-first.ensures c.requires.choose)

pub returns-then-branch-clause-goes : goal.returns-then-branch-clause-goes
returns-then-branch-clause-goes g c =
    let left = rw c.if-branch.true at c.in_ok-go_back.ensures.left in (
      c.in_ok-go_back.ensures.set,
      λ s. joined (left_noted g (goal.at.returns-then-branch-clause-goes g c).In_ok-push s)
          (left s),
    )

pub returns-then-branch-clause-shrinks : goal.returns-then-branch-clause-shrinks
returns-then-branch-clause-shrinks g c =
    let grows = g.G.Grows in
    let room = grows.room c.args.problem.now in
    let ds = grows.decisions c.args.problem.now c.args.state.now in
    let cs = c.args.choices.now in
    let weighs : weight room ds c.push.new.self
    ≡ (c.args.of - 0) * bulk (room ds) + weight room ds cs
    = ap (weight room ds) (noted g (goal.at.returns-then-branch-clause-shrinks g c).In_ok-push)
    ∙ ap (λ l. (c.args.of - 0) * bulk (room l) + weight room l cs) (take-length ds) in
    let fits : c.args.of < 2 ^ 64 = omega arith in
    let less = choice_falls (room ds) c.args.of (weight room ds cs) fits in
    let back = c.in_ok-go_back.ensures.load c.if-branch.true in
    omega arith

pub returns-else-branch-clause-goes : goal.returns-else-branch-clause-goes
returns-else-branch-clause-goes g c =
    let grows = g.G.Grows in
    let problem = c.args.problem.now in
    let left = rw (
      c.if-branch.false,
      c.in_ok-go_back.ensures.over c.if-branch.false,
    ) at c.in_ok-go_back.ensures.left in
    λ s begun. nothing_left (grows.leads problem) (grows.offers problem) _ s
    ((left s).0 ((left_noted g (goal.at.returns-else-branch-clause-goes g c).In_ok-push s).0 begun))

use Rattle.std.proofs.Common.{arith, ◌+◌, subst, sym, refl}
use Rattle.rn_choices.proofs.Gathering.{Gathered, gathered_more, gathered_all}
use Rattle.rn_choices.proofs.Measure.{bulk_positive}
use Rattle.rn_choices.proofs.searching.all.Given as given
use Rattle.rn_choices.proofs.searching.all.Goals as goal
use Rattle.rn_choices.proofs.searching.all.Goals.{In_ok-go_back}

-- one more was found, and it went back
gathered : (g : given.Over) (c : In_ok-go_back g) →
    Gathered (g.G.Grows.leads c.args.problem.now)
    (g.G.Grows.offers c.args.problem.now) c.in_ok-go_back.field-0
    (g.G.Grows.decisions c.args.problem.now c.go_back.new.state) c.go_back.new.choices
    c.push.new.self.items
gathered g c =
    let grows = g.G.Grows in
    let problem = c.args.problem.now in
    let laws = g.met.G.Grows in
    let found = rw c.in-Some.is at c.in_ok-solution.ensures in
    subst (λ items. Gathered (grows.leads problem) (grows.offers problem) c.in_ok-go_back.field-0
    (grows.decisions c.args.problem.now c.go_back.new.state) c.go_back.new.choices items)
    (sym c.in_ok-push.ensures.items)
    (gathered_more (grows.leads problem) (grows.offers problem) (grows.allows problem)
    (grows.decisions c.args.problem.now c.solutions.state)
    (grows.decisions c.args.problem.now c.next_found.new.state)
    (grows.decisions c.args.problem.now c.go_back.new.state)
    c.solutions.choices c.next_found.new.choices c.go_back.new.choices
    c.in_ok-go_back.field-0 c.solutions.found.items c.in-Some.solution
    (laws.shorter problem) (laws.one_way problem) (found.set refl) found.only (found.left refl)
    c.in_ok-go_back.ensures.left c.solutions.invariant.gathered)

pub returns-then-not-branch-clause-all : goal.returns-then-not-branch-clause-all
returns-then-not-branch-clause-all g c =
    let over = c.in_ok-go_back.ensures.over c.if-not-branch.true in
    gathered_all (g.G.Grows.leads c.args.problem.now)
    (g.G.Grows.offers c.args.problem.now) c.in_ok-go_back.field-0
    (g.G.Grows.decisions c.args.problem.now c.go_back.new.state) c.go_back.new.choices
    c.push.new.self.items
    c.if-not-branch.true over
    (gathered g (goal.at.returns-then-not-branch-clause-all g c).In_ok-go_back)

pub returns-then-not-branch-clause-once : goal.returns-then-not-branch-clause-once
returns-then-not-branch-clause-once g c =
    (gathered g (goal.at.returns-then-not-branch-clause-once g c).In_ok-go_back).2

pub solutions-smaller : goal.solutions-smaller
solutions-smaller g c =
    let grows = g.G.Grows in
    let found = rw c.in-Some.is at c.in_ok-solution.ensures in
    let load_falls = found.load refl in
    let less = c.in_ok-go_back.ensures.load c.if-not-branch.false in
    let some = bulk_positive (grows.room c.args.problem.now
    (grows.decisions c.args.problem.now c.next_found.new.state) + 1) in
    omega arith

pub solutions-preserved : goal.solutions-preserved
solutions-preserved g c =
    let grows = g.G.Grows in
    record {
      stands = c.in_ok-go_back.ensures.stands;
      set = c.in_ok-go_back.ensures.set;
      gathered = subst
          (λ live. Gathered (grows.leads c.args.problem.now) (grows.offers c.args.problem.now) live
          (grows.decisions c.args.problem.now c.go_back.new.state) c.go_back.new.choices
          c.push.new.self.items)
          c.if-not-branch.false
          (gathered g (goal.at.solutions-preserved g c).In_ok-go_back);
    }

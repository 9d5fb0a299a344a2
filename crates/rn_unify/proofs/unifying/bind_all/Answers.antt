use Rattle.rn_unify.proofs.BindingSteps.{start, stands, var_within_new, refused}
use Rattle.rn_unify.proofs.BindingSteps.{known_solved, one_more_solved}
use Rattle.rn_unify.proofs.unifying.bind_all.Goals as goal

pub loop-var-init : goal.loop-var-init
loop-var-init c = record {
  way = start c.args.store.now c.args.equations.items c.new-later.result.items c.requires.kept
      c.new-later.ensures.items;
  known = tt;
}

pub add_other-requires-clause-stands : goal.add_other-requires-clause-stands
add_other-requires-clause-stands c =
    stands c.args.store.now c.loop-var.store c.args.equations.items c.loop-var.rest.items
    c.pop.new.self.items c.loop-var.later.items c.in-Some.field-0 c.requires.found
    c.loop-var.invariant.way (rw c.in-Some.is at c.pop.ensures.items)

pub solve-requires-clause-a_within : goal.solve-requires-clause-a_within
solve-requires-clause-a_within c =
    var_within_new c.args.store.now c.loop-var.store c.args.equations.items
    c.loop-var.rest.items c.pop.new.self.items c.loop-var.later.items c.in-Some.field-0
    c.requires.found c.loop-var.invariant.way (rw c.in-Some.is at c.pop.ensures.items)
    c.add_other.new.store c.in_ok-to.to c.in_ok-to.ensures.added

pub returns-then-not-branch-clause-bound : goal.returns-then-not-branch-clause-bound
returns-then-not-branch-clause-bound c =
    let never = rw c.if-not-branch.true at c.in_ok-solve.ensures.solved in
    refused c.args.store.now c.loop-var.store c.args.equations.items
    c.loop-var.rest.items c.pop.new.self.items c.loop-var.later.items c.in-Some.field-0
    c.requires.found c.loop-var.invariant.way (rw c.in-Some.is at c.pop.ensures.items)
    c.add_other.new.store c.in_ok-to.to c.in_ok-to.ensures.added never.1

pub loop-var-preserved : goal.loop-var-preserved
loop-var-preserved c =
    let is_solved = rw c.if-not-branch.false at c.in_ok-solve.ensures.solved in
    record {
      way = one_more_solved c.args.store.now c.loop-var.store c.args.equations.items
          c.loop-var.rest.items c.pop.new.self.items c.loop-var.later.items c.in-Some.field-0
          c.requires.found c.loop-var.invariant.way (rw c.in-Some.is at c.pop.ensures.items)
          c.add_other.new.store c.in_ok-to.to c.in_ok-to.ensures.added c.solve.new.store
          c.solve.new.later.items c.in_ok-solve.ensures.kept c.in_ok-to.ensures.placed is_solved;
      known = known_solved c.args.store.now c.loop-var.store c.args.equations.items
          c.loop-var.rest.items c.pop.new.self.items c.loop-var.later.items c.in-Some.field-0
          c.requires.found c.loop-var.invariant.way (rw c.in-Some.is at c.pop.ensures.items)
          c.add_other.new.store c.in_ok-to.to c.in_ok-to.ensures.added c.solve.new.store
          c.solve.new.later.items c.add_other.new.newest is_solved c.in_ok-to.ensures.known;
    }

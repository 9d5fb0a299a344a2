use Rattle.rn_bag.proofs.CursorLemmas.{first_order, first_exact, first_tokens}
use Rattle.rn_bag.proofs.bag.Bag.range_of_first.Goals as goal

pub returns-clause-order : goal.returns-clause-order
returns-clause-order c =
    first_order c.args.first.now c.args.self.now c.cut_at-start.result c.cut_at-end.result c.cut_at-start.ensures.bound c.cut_at-end.ensures.bound
    c.cut_at-start.ensures.before c.cut_at-start.ensures.rest c.cut_at-end.ensures.before c.cut_at-end.ensures.rest

pub returns-clause-exact : goal.returns-clause-exact
returns-clause-exact c =
    first_exact c.args.first.now c.args.self.now c.cut_at-start.result c.cut_at-end.result c.cut_at-start.ensures.bound c.cut_at-end.ensures.bound
    c.cut_at-start.ensures.before c.cut_at-start.ensures.rest c.cut_at-end.ensures.before c.cut_at-end.ensures.rest

pub returns-clause-tokens : goal.returns-clause-tokens
returns-clause-tokens c =
    first_tokens c.args.first.now c.args.self.now c.cut_at-start.result c.cut_at-end.result c.cut_at-start.ensures.bound c.cut_at-end.ensures.bound
    c.cut_at-start.ensures.before c.cut_at-start.ensures.rest c.cut_at-end.ensures.before c.cut_at-end.ensures.rest

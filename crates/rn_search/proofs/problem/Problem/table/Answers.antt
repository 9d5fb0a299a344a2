-- The tokens of a problem fit.
use Rattle.std.proofs.Common.{rules, ◌≡◌, subst}
use Rattle.rn_search.specs.Problems.{HasFitTokens}
use Rattle.rn_search.proofs.problem.Problem.table.Goals as goal

pub returns-clause-tokens : goal.returns-clause-tokens
returns-clause-tokens c =
    let system : c.self.inside.system.now ≡ c.args.self.now.system = search rules in
    let marking : c.self.inside.table.now.marking ≡ c.args.self.now.marking = search rules in
    subst (λ s. HasFitTokens s c.args.self.now.marking) system
    (subst (λ m. HasFitTokens c.self.inside.system.now m) marking c.self.invariant.tokens)

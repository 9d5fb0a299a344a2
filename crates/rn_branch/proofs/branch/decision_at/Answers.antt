-- By the point.
use Rattle.std.proofs.Common.{◌≡◌, sym, subst, rules}
use Rattle.std.specs.Prelude.{IfOk}
use Rattle.std.proofs.lemmas.Int.{to_z-of_z}
use mir.Val.{SFits}
use mir.Syntax.{w64}
use Rattle.rn_search.specs.declared.point.Point.TheVariants as P
use Rattle.rn_search.specs.Points.{offered}
use Rattle.rn_branch.proofs.branch.decision_at.Goals as goal

pub returns-in-Start : goal.returns-in-Start
returns-in-Start c =
    subst (λ p. IfOk c.entry.result (λ d. d
    ≡ offered c.args.problem.now c.args.decisions.now p c.args.a)) (sym c.in-Start.is)
    (c.entry.ensures c.args.decisions.now)

pub returns-in-Token : goal.returns-in-Token
returns-in-Token c =
    subst (λ p. IfOk c.token.result (λ d. d
    ≡ offered c.args.problem.now c.args.decisions.now p c.args.a)) (sym c.in-Token.is)
    c.token.ensures

pub returns-in-List : goal.returns-in-List
returns-in-List c =
    subst (λ p. IfOk c.list.result (λ d. d
    ≡ offered c.args.problem.now c.args.decisions.now p c.args.a)) (sym c.in-List.is)
    c.list.ensures

pub returns-in-Result : goal.returns-in-Result
returns-in-Result c =
    let fits : SFits w64 c.in-Result.n = search rules in
    let told = c.result_at.ensures in
    subst (λ p. IfOk c.result_at.result (λ d. d
    ≡ offered c.args.problem.now c.args.decisions.now p c.args.a)) (sym c.in-Result.is)
    (subst (λ n. IfOk c.result_at.result (λ d. d
    ≡ offered c.args.problem.now c.args.decisions.now
    (P.Result c.in-Result.node c.in-Result.k n) c.args.a)) (to_z-of_z w64 c.in-Result.n fits) told)

pub returns-in-Call : goal.returns-in-Call
returns-in-Call c =
    subst (λ p. IfOk c.call.result (λ d. d
    ≡ offered c.args.problem.now c.args.decisions.now p c.args.a)) (sym c.in-Call.is)
    c.call.ensures

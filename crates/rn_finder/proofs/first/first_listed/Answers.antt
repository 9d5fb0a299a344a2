use Rattle.std.proofs.lemmas.Result.{IfOk-weaker}
use Rattle.rn_finder.proofs.LesserBindings.{first_of_lesser, first_unless_lesser}
use Rattle.rn_finder.proofs.first.first_listed.Goals as goal

pub returns-clause-first : goal.returns-clause-first
returns-clause-first c =
    let p = c.args.lesser.now in
    IfOk-weaker c.first_of.result _ _
    (λ first among. first_of_lesser p.sought p.than c.in_ok-found.found.items first c.requires.known
    c.in_ok-found.ensures among)
    c.first_of.ensures

pub returns-clause-none : goal.returns-clause-none
returns-clause-none c =
    let p = c.args.lesser.now in
    IfOk-weaker c.first_of.result _ _
    (λ first among. first_unless_lesser p.sought p.than c.in_ok-found.found.items first
    c.requires.known c.in_ok-found.ensures among)
    c.first_of.ensures

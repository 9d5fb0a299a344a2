use Rattle.std.proofs.Common.{subst}
use Rattle.std.specs.Prelude.{MatchOption, ⊤}
use Rattle.rn_model.specs.Markings.{Marking}
use Rattle.rn_firsts.specs.Known.{ComesAfter}
use Rattle.rn_firsts.specs.Resting.{KnowsIdle}
use Rattle.rn_firsts.proofs.known_idle.KnownIdle.turn_to.Goals as goal

pub returns-in-Some : goal.returns-in-Some
returns-in-Some c system depth since =
    let its = subst
    (λ o. MatchOption o ⊤ (λ d. (before : Marking) × KnowsIdle system before depth c.args.self.now
    × ComesAfter system d.now before c.args.table.now.marking))
    c.in-Some.is since in
    c.follow.ensures system its.0 depth its.1 its.2

pub returns-in-None : goal.returns-in-None
returns-in-None c system depth since = c.forget.ensures system c.args.table.now.marking depth

use Rattle.std.proofs.Common.{subst}
use Rattle.std.specs.Prelude.{Contains}
use Rattle.rn_holders.specs.link.Puts.{Joins}
use Rattle.rn_holders.proofs.ReachingLemmas.{just_reaching}
use Rattle.rn_holders.proofs.backwards.reaching.Goals as goal

pub returns-clause-just : goal.returns-clause-just
returns-clause-just c =
    just_reaching c.args.table.now.marking c.args.those.now c.join_all.new.found.keys
    c.go_back.new.found.keys
    (subst (λ keys. Joins (Contains c.args.those.now) keys c.join_all.new.found.keys)
    c.new-found.ensures.empty c.in_ok-join_all.ensures)
    c.in_ok-go_back.ensures

use Rattle.std.proofs.Common.{subst}
use Rattle.std.specs.Prelude.{Contains}
use Rattle.rn_holders.specs.link.Puts.{Joins}
use Rattle.rn_holders.proofs.BackLemmas.{back_from}
use Rattle.rn_holders.proofs.backwards.may_reach.Goals as goal

pub returns : goal.returns
returns c =
    back_from c.args.holders.now c.args.those.now c.join_all.new.found.keys
    c.go_back_by.new.found.keys
    (subst (λ keys. Joins (Contains c.args.those.now) keys c.join_all.new.found.keys)
    c.new-found.ensures.empty c.in_ok-join_all.ensures)
    c.in_ok-go_back_by.ensures

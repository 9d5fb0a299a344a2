use Rattle.rn_growing.proofs.Followers.{followers_are_decided, closed_decisions_decide, follows_on}
use Rattle.rn_growing.proofs.Followers.{each_is_decided}
use Rattle.rn_growing.proofs.laws.followers_are_decided.Goals as goal

pub returns-clause-followers : goal.returns-clause-followers
returns-clause-followers c = followers_are_decided

pub returns-clause-closed : goal.returns-clause-closed
returns-clause-closed c = closed_decisions_decide

pub returns-clause-further : goal.returns-clause-further
returns-clause-further c = follows_on

pub returns-clause-each : goal.returns-clause-each
returns-clause-each c = each_is_decided

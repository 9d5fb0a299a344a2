use Rattle.std.proofs.Common.{◌≡◌, ℕ, sym, subst}
use Rattle.rn_holders.specs.link.Puts.{Joins}
use Rattle.rn_holders.proofs.ReachingLemmas.{join_one}
use Rattle.rn_holders.proofs.backwards.join.Goals as goal

pub returns : goal.returns
returns c =
    let keys = c.args.found.now.keys in
    subst (Joins (λ (n : ℕ). n ≡ c.args.number) keys) (sym c.in_ok-insert.ensures.keys)
    (join_one c.args.number keys)

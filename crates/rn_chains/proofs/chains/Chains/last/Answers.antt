-- By the keys of its bucket.
use Rattle.std.proofs.Common.{◌<◌, length, rules}
use Rattle.rn_chains.proofs.ChainSteps.{last_told}
use Rattle.rn_chains.proofs.chains.Chains.last.Goals as goal

pub returns : goal.returns
returns c =
    let some : 0 < length c.as_slice-buckets.result.now = search rules in
    last_told c.self.inside.keys.items c.self.inside.links.befores.items
    c.self.inside.links.buckets.items c.as_slice.result.now c.as_slice-2.result.now
    c.as_slice-buckets.result.now c.args.self.now c.args.key c.down.result (search rules)
    (search rules) (search rules) c.self.view_is c.self.invariant some c.down.ensures

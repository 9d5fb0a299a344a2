-- By the keys of the bucket before it.
use Rattle.std.proofs.Common.{rules}
use Rattle.rn_chains.proofs.ChainSteps.{before_told}
use Rattle.rn_chains.proofs.chains.Chains.before.Goals as goal

pub returns : goal.returns
returns c =
    before_told c.self.inside.keys.items c.self.inside.links.befores.items
    c.self.inside.links.buckets.items c.as_slice-keys.result.now c.as_slice-befores.result.now
    c.args.self.now c.args.index c.down.result (search rules) (search rules) c.self.view_is
    c.self.invariant c.requires c.down.ensures

use Rattle.rn_declared.proofs.SharedKinds.{patterns_share_kinds}
use Rattle.rn_declared.proofs.laws.patterns_share_kinds.Goals as goal

pub returns : goal.returns
returns c = patterns_share_kinds

-- By its parts.
use Rattle.std.proofs.lemmas.Result.{IfOk-weaker}
use Rattle.rn_agree.proofs.PartsAgree.{readable, decided_by_parts}
use Rattle.rn_agree.proofs.agreement.does_agree.Goals as goal

pub agrees_in_parts-requires-clause-nodes : goal.agrees_in_parts-requires-clause-nodes
agrees_in_parts-requires-clause-nodes c =
    readable c.args.system.now c.args.binding.now c.args.depth c.requires.good c.requires.shape

pub returns : goal.returns
returns c =
    IfOk-weaker _ _ _ (λ answer decides.
    decided_by_parts c.args.system.now c.args.binding.now c.args.depth c.requires.good
    c.requires.shape answer decides) c.agrees_in_parts.ensures

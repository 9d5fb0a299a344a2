use Rattle.std.proofs.Common.{rules}
use Rattle.rn_desk.proofs.Looking.{look_allowed}
use Rattle.rn_desk.proofs.desk.Desk.look_at_serving.Goals as goal

pub load-requires : goal.load-requires
load-requires g c = (search rules, search rules, look_allowed _ _ _ _ _ _ _ _ c.requires.waits.0 c.requires.waits.2)

-- A state of a least run may cross threads, as its state does.
use denote.Param.Send.{sendable}
use Rattle.std.proofs.Crossing.{crosses}
use Rattle.rn_fire.proofs.ThreadSafety.{state_sends}

-- `search least_sends depth 40 fits 20000` answers it
pub ruleset least_sends = (state_sends, sendable, crosses)

use Rattle.rn_fire.proofs.ThreadSafety.{state_sends}
use Rattle.rn_fire.proofs.sharing.states_may_cross.Goals as goal

pub may_cross-requires-send-T : goal.may_cross-requires-send-T
may_cross-requires-send-T c κs = search state_sends depth 40 fits 20000

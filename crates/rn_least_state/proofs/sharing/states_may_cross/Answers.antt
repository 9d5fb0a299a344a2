use Rattle.rn_least_state.proofs.ThreadSafety.{least_sends}
use Rattle.rn_least_state.proofs.sharing.states_may_cross.Goals as goal

pub may_cross-requires-send-T : goal.may_cross-requires-send-T
may_cross-requires-send-T c κs = search least_sends depth 40 fits 20000

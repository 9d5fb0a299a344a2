use Rattle.rn_model.proofs.ThreadSafety.{system_sends, system_syncs}
use Rattle.rn_model.proofs.sharing.system_may_be_shared.Goals as goal

pub may_be_shared-requires-send-T : goal.may_be_shared-requires-send-T
may_be_shared-requires-send-T c κs = search system_sends depth 40 fits 20000

pub may_be_shared-requires-sync-T : goal.may_be_shared-requires-sync-T
may_be_shared-requires-sync-T c κs = search system_syncs depth 40 fits 20000

use Rattle.rn_model.proofs.ThreadSafety.{told_sends, told_syncs}
use Rattle.rn_model.proofs.sharing.logs_may_be_shared.Goals as goal

pub may_be_shared-requires-2-send-T : goal.may_be_shared-requires-2-send-T
may_be_shared-requires-2-send-T c κs = search told_sends depth 40 fits 20000

pub may_be_shared-requires-2-sync-T : goal.may_be_shared-requires-2-sync-T
may_be_shared-requires-2-sync-T c κs = search told_syncs depth 40 fits 20000

pub may_be_shared-requires-3-send-T : goal.may_be_shared-requires-3-send-T
may_be_shared-requires-3-send-T c κs = search told_sends depth 40 fits 20000

pub may_be_shared-requires-3-sync-T : goal.may_be_shared-requires-3-sync-T
may_be_shared-requires-3-sync-T c κs = search told_syncs depth 40 fits 20000

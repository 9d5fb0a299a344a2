use denote.Param.Send.{sendable}
use Rattle.std.proofs.Crossing.{crosses}
use Rattle.rn_bag.proofs.ThreadSafety.{bag_send, bag_sync}
use Rattle.rn_bag.proofs.sharing.bags_may_be_shared.Goals as goal

pub may_be_shared-requires-send-T : goal.may_be_shared-requires-send-T
may_be_shared-requires-send-T c κs = search (bag_send, sendable, crosses) depth 40 fits 20000

pub may_be_shared-requires-sync-T : goal.may_be_shared-requires-sync-T
may_be_shared-requires-sync-T c κs = search (bag_sync, sendable, crosses) depth 40 fits 20000

-- The closure that the threads share captures what each of them may share.
use denote.Exit.{no}
use denote.Param.Send.{param_sync, arg_sync, shr_sync, sendable}
use Rattle.std.proofs.Crossing.{crosses, sync}
use Rattle.rn_least_workers.proofs.ThreadSafety.{closure_sync, post_send, team_sync}
use Rattle.rn_least_workers.proofs.ready.all_work.Goals as goal

pub for_each_mut-requires-send-T : goal.for_each_mut-requires-send-T
for_each_mut-requires-send-T g c κs within = search (post_send, sendable, crosses) depth 40 fits 20000

pub for_each_mut-requires-sync-F : goal.for_each_mut-requires-sync-F
for_each_mut-requires-sync-F g c κs within =
    param_sync 2 _ (arg_sync _ no _ (closure_sync _ _ _ _ _
    (shr_sync _ _ _ c.type_bounds.sync-R)
    (shr_sync _ _ _ sync)
    (shr_sync _ _ _ (team_sync _))
    (shr_sync _ _ _ c.type_bounds.sync-G)))

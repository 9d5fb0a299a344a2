-- Threads may share tables and hand them on.
use denote.Param.Send.{IsSend, IsSync, sendable}
use Rattle.std.proofs.Crossing.{crosses}
use Rattle.rn_bag.proofs.ThreadSafety.{bag_send, bag_sync}
use Rattle.rn_table.specs.contracts.page.Page as page
use Rattle.rn_table.specs.contracts.dir.Dir as dir
use Rattle.rn_table.specs.contracts.table.Table as table

page_send : IsSend page.the_row
page_send = search (bag_send, bag_sync, sendable, crosses) depth 40 fits 20000

page_sync : IsSync page.the_row
page_sync = search (bag_send, bag_sync, sendable, crosses) depth 40 fits 20000

dir_send : IsSend dir.the_row
dir_send = search (page_send, page_sync, sendable, crosses) depth 40 fits 20000

dir_sync : IsSync dir.the_row
dir_sync = search (page_send, page_sync, sendable, crosses) depth 40 fits 20000

-- `search (table_send, sendable, crosses)` and the like answer what asks for it
pub table_send : IsSend table.the_row
table_send = search (dir_send, dir_sync, sendable, crosses) depth 40 fits 20000

pub table_sync : IsSync table.the_row
table_sync = search (dir_send, dir_sync, sendable, crosses) depth 40 fits 20000

-- Threads may share bags and hand them on.
use denote.Param.Send.{IsSend, IsSync, sendable}
use Rattle.std.proofs.Crossing.{crosses}
use Rattle.rn_items.proofs.items.Items.TheSendSync as items
use Rattle.rn_shared.proofs.shared.Shared.TheSendSync as shared
use Rattle.rn_value.proofs.text.Str.TheSendSync as text
use Rattle.rn_value.proofs.ThreadSafety.{value_send, value_sync}
use Rattle.rn_bag.specs.contracts.pool.Pool as pool
use Rattle.rn_bag.specs.contracts.bag.Bag as bag

pool_send : IsSend pool.the_row
pool_send = search (items.the_send, items.the_sync, shared.the_send, shared.the_sync, text.the_send, text.the_sync, value_send, value_sync, sendable, crosses) depth 120 fits 200000

pool_sync : IsSync pool.the_row
pool_sync = search (items.the_send, items.the_sync, shared.the_send, shared.the_sync, text.the_send, text.the_sync, value_send, value_sync, sendable, crosses) depth 120 fits 200000

-- `search (bag_send, sendable, crosses)` and the like answer what asks for it
pub bag_send : IsSend bag.the_row
bag_send = search (pool_send, sendable, crosses) depth 40 fits 20000

-- threads may share a bag
pub bag_sync : IsSync bag.the_row
bag_sync = search (pool_sync, sendable, crosses) depth 40 fits 20000

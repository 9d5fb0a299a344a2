-- Threads may share values and hand them on.
use denote.Param.Send.{IsSend, IsSync, sendable}
use Rattle.std.proofs.Crossing.{crosses}
use Rattle.rn_items.proofs.items.Items.TheSendSync as items
use Rattle.rn_shared.proofs.shared.Shared.TheSendSync as shared
use Rattle.rn_value.proofs.text.Str.TheSendSync as text
use Rattle.rn_value.proofs.value.Value.TheLaws.TheKnot.{both_send-Value, both_sync-Value}
use Rattle.rn_value.specs.contracts.value.Value as value

-- Items have several owners, so that they may be handed on only where they may be shared too.
pub value_send : IsSend value.the_row
value_send = search (both_send-Value, items.the_send, items.the_sync, shared.the_send, shared.the_sync, text.the_send, text.the_sync, sendable, crosses) depth 40 fits 20000

pub value_sync : IsSync value.the_row
value_sync = search (both_sync-Value, items.the_send, items.the_sync, shared.the_send, shared.the_sync, text.the_send, text.the_sync, sendable, crosses) depth 40 fits 20000

-- Threads may share nets and hand them on.
use denote.Param.Send.{IsSend, IsSync, sendable}
use Rattle.std.proofs.Crossing.{crosses}
use Rattle.rn_items.proofs.boxed.Boxed.TheSendSync as boxed
use Rattle.rn_items.proofs.items.Items.TheSendSync as items
use Rattle.rn_value.proofs.text.Str.TheSendSync as text
use Rattle.rn_value.proofs.value.Kind.TheLaws.TheKnot.{send-Kind, sync-Kind}
use Rattle.rn_shared.proofs.shared.Shared.TheSendSync as shared
use Rattle.rn_value.proofs.ThreadSafety.{value_send, value_sync}
use Rattle.rn_value.proofs.value.Value.TheLaws.TheKnot.{both_send-Value, both_sync-Value}
use Rattle.rn_model.proofs.expr.Expr.TheLaws.TheKnot.{send-Expr, sync-Expr}
use Rattle.rn_model.proofs.expr.Simple.TheLaws.TheKnot.{send-Cond, sync-Cond}
use Rattle.rn_model.proofs.system.Creation.TheSendSync as creation
use Rattle.rn_model.specs.contracts.system.Transition as transition
use Rattle.rn_model.specs.contracts.system.Net as net
use Rattle.rn_model.specs.contracts.repeats.Repeat as repeat
use Rattle.rn_model.specs.contracts.log.MarkLine as line
use Rattle.rn_model.specs.contracts.log.Entry as entry

transition_send : IsSend transition.the_row
transition_send = search (items.the_send, boxed.the_send, text.the_send, send-Expr, send-Cond, creation.the_send, sendable, crosses) depth 40 fits 20000

pub net_send : IsSend net.the_row
net_send = search (transition_send, items.the_send, text.the_send, send-Kind, value_send, sendable, crosses) depth 40 fits 20000

transition_sync : IsSync transition.the_row
transition_sync = search (items.the_sync, boxed.the_sync, text.the_sync, sync-Expr, sync-Cond, creation.the_sync, sendable, crosses) depth 40 fits 20000

pub net_sync : IsSync net.the_row
net_sync = search (transition_sync, items.the_sync, text.the_sync, sync-Kind, value_sync, sendable, crosses) depth 40 fits 20000

-- A system may cross threads: `search system_sends depth 40 fits 20000` and the like answer it.
pub ruleset system_sends = (net_send, items.the_send, text.the_send, send-Kind, sendable, crosses)

pub ruleset system_syncs = (net_sync, items.the_sync, text.the_sync, sync-Kind, sendable, crosses)

repeat_send : IsSend repeat.the_row
repeat_send = search (both_send-Value, items.the_send, items.the_sync, shared.the_send, shared.the_sync, text.the_send, text.the_sync, sendable, crosses) depth 40 fits 20000

pub line_send : IsSend line.the_row
line_send = search (repeat_send, sendable, crosses) depth 40 fits 20000

pub entry_send : IsSend entry.the_row
entry_send = search (items.the_send, value_send, sendable, crosses) depth 40 fits 20000

repeat_sync : IsSync repeat.the_row
repeat_sync = search (both_sync-Value, items.the_send, items.the_sync, shared.the_send, shared.the_sync, text.the_send, text.the_sync, sendable, crosses) depth 40 fits 20000

pub line_sync : IsSync line.the_row
line_sync = search (repeat_sync, sendable, crosses) depth 40 fits 20000

pub entry_sync : IsSync entry.the_row
entry_sync = search (items.the_sync, value_sync, sendable, crosses) depth 40 fits 20000

-- So may what a record tells.
pub ruleset told_sends = (line_send, entry_send, items.the_send, sendable, crosses)

pub ruleset told_syncs = (line_sync, entry_sync, items.the_sync, sendable, crosses)

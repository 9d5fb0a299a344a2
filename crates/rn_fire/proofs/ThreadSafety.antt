-- A state may cross threads: its system is shared, and its entries and its table are its own.
use denote.Param.Send.{IsSend, IsSync, sendable}
use Rattle.std.proofs.Crossing.{crosses}
use Rattle.rn_items.proofs.items.Items.TheSendSync as items
use Rattle.rn_value.proofs.text.Str.TheSendSync as text
use Rattle.rn_value.proofs.ThreadSafety.{value_send}
use Rattle.rn_model.proofs.ThreadSafety.{system_sends, system_syncs}
use Rattle.rn_model.specs.contracts.log.Entry as entry
use Rattle.rn_model.specs.contracts.system.System as system
use Rattle.rn_table.proofs.ThreadSafety.{table_send}

pub system_send : IsSend system.the_row
system_send = search system_sends depth 40 fits 20000

-- threads may share a system
pub system_sync : IsSync system.the_row
system_sync = search system_syncs depth 40 fits 20000

pub entry_send : IsSend entry.the_row
entry_send = search (items.the_send, text.the_send, value_send, sendable, crosses) depth 40 fits 20000

-- `search state_sends depth 40 fits 20000` answers it
pub ruleset state_sends = (system_send, system_sync, entry_send, table_send, sendable, crosses)

use Rattle.std.proofs.Common.{take}
use Rattle.rn_table.specs.link.Steps.{AreNet}
use Rattle.rn_table.proofs.edits.cancelled.Given as goal

abbrev pub invariant-loop-edit : goal.invariant-loop-edit
invariant-loop-edit l = AreNet (take l.edit-index l.edits) l.net.items

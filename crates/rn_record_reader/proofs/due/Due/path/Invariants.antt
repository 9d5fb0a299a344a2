use Rattle.std.proofs.Common.{◌≡◌, take}
use Rattle.rn_record_reader.specs.link.DueAhead.{numbers}
use Rattle.rn_record_reader.proofs.due.Due.path.Given as goal

abbrev pub invariant-loop-level : goal.invariant-loop-level
invariant-loop-level l = l.path.items ≡ numbers (take l.level-index l.self.levels.items)
